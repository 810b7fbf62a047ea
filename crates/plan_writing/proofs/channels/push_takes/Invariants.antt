use Rattle.std.proofs.Common.{◌≡◌, ◌++◌, drop}
use Rattle.plan_writing.specs.Lists.{spaced}
use Rattle.plan_writing.specs.Places.{take_text}
use Rattle.plan_writing.proofs.channels.push_takes.Given as goal

abbrev pub invariant-loop-take : goal.invariant-loop-take
invariant-loop-take l =
    l.text.items ++ spaced take_text (drop l.take-index l.takes)
    ≡ l.fn.text.items ++ spaced take_text l.takes
