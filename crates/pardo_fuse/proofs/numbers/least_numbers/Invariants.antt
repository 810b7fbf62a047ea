use Rattle.std.specs.Prelude.{nat_eq}
use Rattle.std.proofs.Common.{◌≡◌, ℕ, drop}
use Rattle.std.specs.HashMap.{get}
use Rattle.pardo_fuse.specs.Readers.{cut_of}
use Rattle.pardo_fuse.specs.inner.Numbers.{least_from, number_or}
use Rattle.pardo_fuse.proofs.numbers.least_numbers.Given as goal

abbrev pub invariant-loop-e : goal.invariant-loop-e
invariant-loop-e l = (n : ℕ)
    → number_or (get nat_eq l.numbers n)
    (least_from (cut_of l.blocked) (drop l.e-index l.e-items) n)
    ≡ least_from (cut_of l.blocked) l.blocked.graph.nodes n
