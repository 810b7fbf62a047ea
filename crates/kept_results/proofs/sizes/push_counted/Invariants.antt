use Rattle.std.proofs.Common.{◌≡◌, ◌++◌, List, ℕ, drop, map}
use Rattle.kept_results.specs.Sizes.{size_pairs}
use Rattle.kept_results.proofs.sizes.push_counted.Given as goal

abbrev pub invariant-loop-place : goal.invariant-loop-place
invariant-loop-place l =
    let sizes = map (λ (line : List ℕ × ℕ). line.1) l.ran in
    l.known.items ++ size_pairs (drop l.place l.nodes) (drop l.place sizes)
    ≡ l.fn.known.items ++ size_pairs l.nodes sizes
