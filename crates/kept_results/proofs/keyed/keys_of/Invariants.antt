use Rattle.std.proofs.Common.{◌≡◌, map, take}
use Rattle.kept_results.specs.Keyed.{key_at}
use Rattle.kept_results.proofs.keyed.keys_of.Given as goal

abbrev pub invariant-loop-number : goal.invariant-loop-number
invariant-loop-number l =
    l.keyed.items
    ≡ map (λ it. (it.0, key_at l.outlines l.texts l.files it.1)) (take l.number-index l.asked)
