-- Each rewrite that may be made of a sound graph, and lists of them.
use Rattle.std.proofs.Common.{◌≡◌, ℕ, Bool, true, false, cond, ◌==◌, List, [], ◌∷◌, Option, sym, ap, ◌∙◌, subst}
use Rattle.std.specs.Prelude.{nat_lt}
use Rattle.combine_table.specs.declared.comb.Comb.{Comb}
use Rattle.exec_graph.specs.Forests.{Forest}
use Rattle.exec_graph.specs.Meaning.{IsSound, SameMeaning, node_at, place}
use Rattle.exec_graph.specs.Wellformed.{IsForestOk, IsGraphOk, IsNodeOk}
use Rattle.exec_graph.specs.declared.graph.Place.{Place}
use Rattle.exec_graph.specs.declared.graph.Node.TheVariants.{Pdo}
use Rattle.exec_graph.specs.declared.graph.Graph.{Graph}
use Rattle.exec_graph.specs.declared.graph.Blocked.{Blocked}
use Rattle.exec_graph.proofs.Entries.{all_found}
use Rattle.exec_graph.proofs.Solving.{SameMeaning-from_kept}
use Rattle.graph_laws.specs.Kids.{with_kid}
use Rattle.graph_laws.specs.Lifting.{lift_of}
use Rattle.graph_laws.proofs.Kids.{IsKept, kid_sound, sibling_sound}
use Rattle.graph_laws.proofs.Lifting.{KeepsMeaning-remarked, KeepsTypes-remarked}
use Rattle.graph_laws.proofs.LiftChain.{IsSound-remarked}
use Rattle.sink_laws.specs.Chain.{ins_of}
use Rattle.graph_rewrites.specs.Replays.{Leads, rewrite_group}
use Rattle.graph_rewrites.specs.Rewrites.{CanApply, CanBeKid, applied, forest_at, input_at, kid_under, kid_under_other, rewritten, swapped_at}
use Rattle.graph_rewrites.specs.declared.rewrite.Rewrite.{Rewrite}
use Rattle.graph_rewrites.specs.declared.rewrite.Rewrite.TheVariants.{Merge, Sink, Lift, Kid, Sibling, Mark}
use Rattle.graph_rewrites.proofs.Exchange.{swapped_can, swapped_kept}
use Rattle.graph_rewrites.proofs.Keeping.{IsAs, apply_good, as_self, as_then}
use Rattle.sound_rewrites.specs.Making.{CanMake, MadeBy}
use Rattle.sound_rewrites.proofs.Refilling.{merge_as}
use Rattle.sound_rewrites.proofs.Sinking.{sink_as}

as_kept : (g h : Graph) → IsKept g h → IsAs IsSound g h
as_kept g h a = record { ok = a.sound; keeps = a.keeps; types = a.types }

kid_as : (g : Graph) (p k q : ℕ) (b : Bool) → IsSound g → CanBeKid g p k q
    → IsAs IsSound g (cond b (kid_under_other g p k q) (kid_under g p k q))
kid_as g p k q true ok can =
    let c : Place = input_at g p in
    let f : Forest = forest_at g p in
    let h : Forest = forest_at g q in
    let first : Graph = swapped_at g p k q in
    let last : Graph = with_kid first q k p c f h in
    let a : IsAs IsSound g first = as_kept g first (swapped_kept g p k q c f h ok can) in
    as_then IsSound g first last a
    (as_kept first last
    (kid_sound first q k p c f h a.ok (swapped_can g p k q c f h ok can)))
kid_as g p k q false ok can =
    as_kept g (kid_under g p k q)
    (kid_sound g p k q (input_at g p) (forest_at g p) (forest_at g q) ok can)

pub made_as : (g : Graph) (r : Rewrite) → IsSound g → CanMake g r → IsAs IsSound g (rewritten g r)
made_as g (Merge outer inner) ok can =
    merge_as g outer (ins_of (node_at g.nodes outer)) inner (ins_of (node_at g.nodes inner))
    ok can
made_as g (Sink flatten pdo) ok can =
    sink_as g flatten pdo (forest_at g pdo) (ins_of (node_at g.nodes flatten)) ok can.ascends
    can.below can.order can.reads
made_as g (Lift group) ok can =
    let s : ℕ → Option Comb → Option Comb = λ m k. cond (m == group) (lift_of g group) k in
    record {
      ok = IsSound-remarked s g ok;
      keeps = KeepsMeaning-remarked s g;
      types = KeepsTypes-remarked s g;
    }
made_as g (Kid keeper output reader) ok can =
    kid_as g keeper output reader (nat_lt reader keeper) ok can
made_as g (Sibling keeper other) ok can =
    as_kept g (rewritten g (Sibling keeper other))
    (sibling_sound g keeper other (input_at g keeper) (forest_at g keeper) (forest_at g other) ok
    can)
made_as g (Mark node output) ok can = as_self IsSound g ok

pub made_same : (g : Graph) (r : Rewrite) → IsSound g → CanMake g r
    → SameMeaning g (rewritten g r)
made_same g r ok can =
    let a : IsAs IsSound g (rewritten g r) = made_as g r ok can in
    SameMeaning-from_kept g (rewritten g r) ok a.ok a.keeps

-- ---- one after another

pub all_made : (rs : List Rewrite) (g h : Graph) → IsSound g → MadeBy rs g h → IsAs IsSound g h
all_made [] g h ok m = subst (IsAs IsSound g) m (as_self IsSound g ok)
all_made (r ∷ rs) g h ok m =
    let a : IsAs IsSound g (rewritten g r) = made_as g r ok m.0 in
    as_then IsSound g (rewritten g r) h a (all_made rs (rewritten g r) h a.ok m.1)

pub list_same : (rs : List Rewrite) (g h : Graph) → IsSound g → MadeBy rs g h → SameMeaning g h
list_same rs g h ok m =
    let a : IsAs IsSound g h = all_made rs g h ok m in SameMeaning-from_kept g h ok a.ok a.keeps

pub made_one : (rs : List Rewrite) (g h i : Graph) → MadeBy rs g h → MadeBy rs g i → h ≡ i
made_one [] g h i l m = sym l ∙ m
made_one (r ∷ rs) g h i l m = made_one rs (rewritten g r) h i l.1 m.1

-- ---- within the limits

pub can_make : (b : Blocked) (r : Rewrite) → IsGraphOk b.graph → CanApply b r
    → CanMake b.graph r
can_make b (Merge outer inner) ok can =
    record { outer = can.outer; inner = can.inner; nested = can.nested }
can_make b (Sink flatten pdo) ok can =
    let g : Graph = b.graph in
    let f : Forest = forest_at g pdo in
    let forest : IsForestOk g pdo f =
    all_found (λ e. IsNodeOk g e.number e.node) g.nodes pdo (Pdo (place flatten 0) f) can.0.pdo
    ok.nodes in
    record {
      reads = can.0;
      ascends = ok.founded.ascends;
      below = ok.founded.below;
      order = forest.order;
    }
can_make b (Lift group) ok can = can
can_make b (Kid keeper output reader) ok can = can
can_make b (Sibling keeper other) ok can = can.1
can_make b (Mark node output) ok can = can

pub leads_made : (group : ℕ) (rs : List Rewrite) (a b : Blocked) → IsGraphOk a.graph
    → Leads group rs a b → MadeBy rs a.graph b.graph
leads_made group [] a b ok l = ap (λ (x : Blocked). x.graph) l
leads_made group (r ∷ rs) a b ok l = (
  can_make a r ok l.0.1,
  leads_made (rewrite_group r) rs (applied a r) b (apply_good a r ok l.0.1).ok l.1,
)
