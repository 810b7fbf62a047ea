use Rattle.std.proofs.Common.{◌≡◌, take}
use Rattle.forest_steps.proofs.emitted.copy_couples.Given as goal

abbrev pub invariant-loop-couple : goal.invariant-loop-couple
invariant-loop-couple l = l.copies.items ≡ take l.couple-index l.couples
