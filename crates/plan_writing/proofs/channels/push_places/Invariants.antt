use Rattle.std.proofs.Common.{◌≡◌, ◌++◌, drop}
use Rattle.plan_writing.specs.Lists.{spaced}
use Rattle.plan_writing.specs.Places.{place_text}
use Rattle.plan_writing.proofs.channels.push_places.Given as goal

abbrev pub invariant-loop-place : goal.invariant-loop-place
invariant-loop-place l =
    l.text.items ++ spaced place_text (drop l.place-index l.places)
    ≡ l.fn.text.items ++ spaced place_text l.places
