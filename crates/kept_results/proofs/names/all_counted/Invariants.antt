use Rattle.std.proofs.Common.{ℕ, ◌<◌, ◌^◌, get_or}
use Rattle.saved_results.specs.declared.saved.Size.{Size}
use Rattle.kept_results.proofs.names.all_counted.Given as goal

abbrev pub invariant-loop-size : goal.invariant-loop-size
invariant-loop-size l =
    (k : ℕ) (d : Size) → k < l.size-index → (get_or l.sizes k d).members < 2 ^ 64
