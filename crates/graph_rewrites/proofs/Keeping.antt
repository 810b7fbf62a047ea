-- A rewrite keeps what a graph is good for.
use Rattle.std.proofs.Common.{ℕ, Bool, true, false, cond, ◌==◌}
use Rattle.std.specs.Prelude.{nat_lt}
use Rattle.graph_bounds.specs.of_exec_graph.Meaning.{KeepsMeaning}
use Rattle.graph_bounds.specs.of_exec_graph.Typing.{KeepsTypes}
use Rattle.graph_bounds.specs.of_exec_graph.Wellformed.{IsGraphOk}
use Rattle.graph_bounds.specs.of_exec_graph.declared.graph.Blocked.{Blocked}
use Rattle.graph_bounds.specs.of_exec_graph.declared.graph.Graph.{Graph}
use Rattle.graph_bounds.proofs.of_exec_graph.Soundness.{IsSound-ok}
use Rattle.graph_bounds.specs.of_graph_laws.Kids.{with_kid}
use Rattle.graph_bounds.specs.of_graph_laws.Lifting.{lift_of}
use Rattle.graph_bounds.proofs.of_graph_laws.Kids.{IsKept as IsRewritten, KeepsMeaning-self, KeepsMeaning-then, kid_sound, sibling_sound}
use Rattle.graph_bounds.proofs.of_graph_laws.Lifting.{IsGraphOk-lifted_at, KeepsMeaning-remarked, KeepsTypes-remarked}
use Rattle.graph_bounds.proofs.of_sink_laws.Choosing.{IsKept-call, IsKept-nest}
use Rattle.graph_rewrites.specs.Rewrites.{CanApply, CanBeKid, forest_at, input_at, kid_under, kid_under_other, pair_of_nodes, rewritten, swapped_at}
use Rattle.graph_rewrites.specs.declared.rewrite.Rewrite.{Rewrite}
use Rattle.graph_rewrites.specs.declared.rewrite.Rewrite.TheVariants.{Merge, Sink, Lift, Kid, Sibling, Mark}
use Rattle.graph_rewrites.proofs.Exchange.{swapped_can, swapped_kept}

-- The graph that another becomes, which holds of P.
pub record IsAs (P : Graph → Type 0) (g h : Graph) : Type 0 where
  pub ok : P h
  pub keeps : KeepsMeaning g h
  pub types : KeepsTypes g h

pub as_self : (P : Graph → Type 0) (g : Graph) → P g → IsAs P g g
as_self P g ok = record { ok = ok; keeps = KeepsMeaning-self g; types = λ s t. t }

pub as_then : (P : Graph → Type 0) (g h i : Graph) → IsAs P g h → IsAs P h i → IsAs P g i
as_then P g h i a b = record {
  ok = b.ok;
  keeps = KeepsMeaning-then g h i a.keeps b.keeps;
  types = λ s t. b.types s (a.types s t);
}

-- The graph that a well-formed one becomes.
abbrev pub IsAsGood : Graph → Graph → Type 0
IsAsGood g h = IsAs IsGraphOk g h

-- what the laws of kids and of siblings say
rewritten_good : (g h : Graph) → IsGraphOk g → IsRewritten g h → IsAsGood g h
rewritten_good g h ok a = record { ok = a.formed ok; keeps = a.keeps; types = a.types }

kid_good : (g : Graph) (p k q : ℕ) (b : Bool) → IsGraphOk g → CanBeKid g p k q
    → IsAsGood g (cond b (kid_under_other g p k q) (kid_under g p k q))
kid_good g p k q true ok can =
    let h : Graph = swapped_at g p k q in
    let last : Graph = with_kid h q k p (input_at g p) (forest_at g p) (forest_at g q) in
    let a : IsAsGood g h = rewritten_good g h ok
    (swapped_kept g p k q (input_at g p) (forest_at g p) (forest_at g q) (IsSound-ok g ok) can) in
    let b : IsAsGood h last = rewritten_good h last a.ok
    (kid_sound h q k p (input_at g p) (forest_at g p) (forest_at g q) (IsSound-ok h a.ok)
    (swapped_can g p k q (input_at g p) (forest_at g p) (forest_at g q) (IsSound-ok g ok) can)) in
    as_then IsGraphOk g h last a b
kid_good g p k q false ok can =
    rewritten_good g (kid_under g p k q) ok
    (kid_sound g p k q (input_at g p) (forest_at g p) (forest_at g q) (IsSound-ok g ok) can)

pub apply_good : (b : Blocked) (r : Rewrite) → IsGraphOk b.graph → CanApply b r
    → IsAsGood b.graph (rewritten b.graph r)
apply_good b (Merge outer inner) ok can =
    let a = IsKept-nest b.graph (pair_of_nodes outer inner) ok can in
    record { ok = a.good.ok; keeps = a.good.keeps; types = a.types }
apply_good b (Sink flatten pdo) ok can =
    let a = IsKept-call b.graph (pair_of_nodes flatten pdo) ok can.0 can.1 in
    record { ok = a.good.ok; keeps = a.good.keeps; types = a.types }
apply_good b (Lift group) ok can = record {
  ok = IsGraphOk-lifted_at group b.graph ok;
  keeps = KeepsMeaning-remarked (λ m k. cond (m == group) (lift_of b.graph group) k) b.graph;
  types = KeepsTypes-remarked (λ m k. cond (m == group) (lift_of b.graph group) k) b.graph;
}
apply_good b (Kid keeper output reader) ok can =
    kid_good b.graph keeper output reader (nat_lt reader keeper) ok can
apply_good b (Sibling keeper other) ok can =
    let g : Graph = b.graph in
    rewritten_good g (rewritten g (Sibling keeper other)) ok
    (sibling_sound g keeper other (input_at g keeper) (forest_at g keeper) (forest_at g other)
    (IsSound-ok g ok) can.1)
apply_good b (Mark node output) ok can = as_self IsGraphOk b.graph ok
