use Rattle.std.proofs.Common.{◌≡◌, ◌++◌, drop, map}
use Rattle.saved_results.specs.declared.saved.Size.{Size}
use Rattle.kept_results.specs.Sizes.{size_pairs}
use Rattle.kept_results.proofs.sizes.push_kept.Given as goal

abbrev pub invariant-loop-place : goal.invariant-loop-place
invariant-loop-place l =
    let sizes = map (λ (size : Size). size.members) l.sizes in
    l.known.items ++ size_pairs (drop l.place l.nodes) (drop l.place sizes)
    ≡ l.fn.known.items ++ size_pairs l.nodes sizes
