-- What is told of merges and steps, as of rewrites; and of a graph, beside its marks.
use Rattle.std.specs.Prelude.{IfOk}
use Rattle.std.proofs.Common.{◌≡◌, ℕ, ◌<◌, ◌≤◌, List, Option, Some, None, Result, Ok, Err, ap₂, sym, subst, arith}
use Rattle.exec_graph.specs.declared.graph.Blocked.{Blocked}
use Rattle.exec_graph.specs.declared.graph.Graph.{Graph}
use Rattle.exec_graph.specs.declared.graph.Place.{Place}
use Rattle.exec_graph.specs.Wellformed.{most_nodes, total_size}
use Rattle.flatten_sink.specs.Pairs.{IsMergedAt, IsSunkAt}
use Rattle.graph_rewrites.specs.Rewrites.{CanApply, marks_with, pair_of_nodes}
use Rattle.graph_rewrites.specs.declared.rewrite.Rewrite.{Rewrite}
use Rattle.graph_rewrites.specs.declared.rewrite.Rewrite.TheVariants.{Merge, Sink}
use Rattle.sink_laws.specs.Chain.{after_call}
use Rattle.graph_rewriting.specs.Applied.{IsApplied}
use Rattle.graph_rewriting.specs.inner.Made.{IsMade, unmarked}

pub merge_made : (g : Graph) (f e : ℕ) (o : Option Graph) → IsMergedAt g (pair_of_nodes f e) o
    → IsMade g (Merge f e) o
merge_made g f e None h = h
merge_made g f e (Some x) h = h

pub sink_made : (g : Graph) (f p : ℕ) (o : Option Graph) → IsSunkAt g (pair_of_nodes f p) o
    → IsMade g (Sink f p) o
sink_made g f p None h = λ can.
    let over : most_nodes < total_size (after_call g (pair_of_nodes f p)).nodes = h can.0 in
    let room : total_size (after_call g (pair_of_nodes f p)).nodes ≤ most_nodes = can.1 in
    omega arith
sink_made g f p (Some x) h = ((h.0, h.1), h.2)

-- of what was made under a name of the rewrite
pub made_so : (g : Graph) (r s : Rewrite) (o : Option Graph) → r ≡ s → IsMade g s o → IsMade g r o
made_so g r s o e h = subst (λ (x : Rewrite). IsMade g x o) (sym e) h

pub made_as : {E : Type 0} (g : Graph) (r s : Rewrite) (made : Result (Option Graph) E) → r ≡ s
    → (P : Option Graph → Type 0) → ((o : Option Graph) → P o → IsMade g s o) → IfOk made P
    → IfOk made (λ o. IsMade g r o)
made_as g r s (Ok o) e P h is = made_so g r s o e (h o is)
made_as g r s (Err x) e P h is = tt

-- ---- marks say nothing of what may be made

can_marked : (b : Blocked) (r : Rewrite) → CanApply (unmarked b.graph) r → CanApply b r
can_marked b (Merge f e) can = can
can_marked b _ can = can

can_unmarked : (b : Blocked) (r : Rewrite) → CanApply b r → CanApply (unmarked b.graph) r
can_unmarked b (Merge f e) can = can
can_unmarked b _ can = can

pub not_applied : (b : Blocked) (r : Rewrite) → IsMade b.graph r None → IsApplied b r None
not_applied b r h = λ can. h (can_unmarked b r can)

pub is_applied : (b : Blocked) (r : Rewrite) (g : Graph) (marks : List Place)
    → IsMade b.graph r (Some g) → marks ≡ marks_with b.marks r
    → IsApplied b r (Some (record { graph = g; marks = marks }))
is_applied b r g marks h e = (
  can_marked b r h.0,
  ap₂ (λ (x : Graph) (ms : List Place). let y : Blocked = record { graph = x; marks = ms } in y)
      h.1 e,
)
