-- A graph that is ok has a meaning, and one alone.
use Rattle.std.proofs.Common.{◌≡◌, ℕ, ◌<◌, List, [], ◌∷◌, subst, arith}
use Rattle.exec_graph.specs.declared.graph.Node.{Node}
use Rattle.exec_graph.specs.declared.graph.Node.TheVariants.{Source, Flatten, Pdo, Gbk, Barrier}
use Rattle.exec_graph.specs.declared.graph.Entry.{Entry}
use Rattle.exec_graph.specs.declared.graph.Graph.{Graph}
use Rattle.exec_graph.specs.declared.graph.Place.{Place}
use Rattle.exec_graph.specs.Meaning.{Meets, IsThere, collection, AllDiffer, HasOuts, OutsDiffer, IsSound, KeepsMeaning, SameMeaning}
use Rattle.flume_collection.specs.Collection.{Collection}
use Rattle.exec_graph.specs.World.{World}
use Rattle.exec_graph.specs.Wellformed.{Ascends, IsNodeOk, IsGraphOk}
use Rattle.exec_graph.proofs.Numbered.{numbered_differ}
use Rattle.exec_graph.proofs.Solving.{SameMeaning-from_kept, collection_meets, only_meaning}
use Rattle.flume_value.proofs.EachLemmas.{Each-weaker}

pub differ_ascends : (es : List Entry) → Ascends es → AllDiffer es
differ_ascends [] a = tt
differ_ascends (e ∷ es) a = (
  Each-weaker (λ (d : Entry). e.number < d.number)
      (λ d. d.number ≡ e.number → ⊥) (λ d h i. omega arith) es a.0,
  differ_ascends es a.1,
)

outs_ok : (g : Graph) (n : ℕ) (x : Node) → IsNodeOk g n x → HasOuts x
outs_ok g n (Pdo c f) h = subst OutsDiffer h.order (numbered_differ 0 f)
outs_ok g n _ h = tt

pub IsSound-ok : (g : Graph) → IsGraphOk g → IsSound g
IsSound-ok g ok = record {
  differ = differ_ascends g.nodes ok.founded.ascends;
  there = ok.founded.there;
  told = ok.founded.told;
  outs = Each-weaker (λ (e : Entry). IsNodeOk g e.number e.node) (λ e. HasOuts e.node)
      (λ e h. outs_ok g e.number e.node h) g.nodes ok.nodes;
  ranked = ok.founded.ranked;
}

-- what is shown of each rewrite
pub SameMeaning-kept : (g h : Graph) → IsGraphOk g → IsGraphOk h → KeepsMeaning g h
    → SameMeaning g h
SameMeaning-kept g h a b k = SameMeaning-from_kept g h (IsSound-ok g a) (IsSound-ok h b) k

-- no other assignment meets the equations
pub one_meaning : (w : World) (g : Graph) (m : Place → Collection) → IsSound g → Meets w g.nodes m
    → (c : Place) → IsThere g.nodes c → m c ≡ collection w g c
one_meaning w g m ok h c t =
    only_meaning w g (collection w g) m ok (collection_meets w g ok) h c t
