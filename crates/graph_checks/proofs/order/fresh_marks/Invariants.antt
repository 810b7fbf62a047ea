use Rattle.std.proofs.Common.{◌≡◌, length}
use Rattle.std.specs.List.{AllByRecursion}
use Rattle.graph_checks.specs.declared.order.Mark.TheVariants.{Fresh}
use Rattle.graph_checks.proofs.order.fresh_marks.Given as goal

pub record IsFresh (l : goal.Live-loop-edge) : Type 0 where
  pub size : length l.marks.items ≡ l._edge-index
  pub all : AllByRecursion (λ m. m ≡ Fresh) l.marks.items

abbrev pub invariant-loop-edge : goal.invariant-loop-edge
invariant-loop-edge l = IsFresh l
