use Rattle.std.proofs.Common.{◌≡◌, ◌++◌, drop}
use Rattle.plan_writing.specs.Lists.{spaced}
use Rattle.plan_writing.specs.Places.{given_text}
use Rattle.plan_writing.proofs.channels.push_given.Given as goal

abbrev pub invariant-loop-out : goal.invariant-loop-out
invariant-loop-out l =
    l.text.items ++ spaced (given_text l.stage l.group) (drop l.out-index l.outs)
    ≡ l.fn.text.items ++ spaced (given_text l.stage l.group) l.outs
