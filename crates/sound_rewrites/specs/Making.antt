-- When a rewrite may be made of a graph that has a meaning, whatever the graph's size.
use Rattle.std.specs.Prelude.{◌≡◌, ℕ, ◌<◌, true, List, [], ◌∷◌, Some}
use Rattle.std.specs.List.{AllByRecursion}
use Rattle.exec_graph.specs.Forests.{numbered}
use Rattle.exec_graph.specs.Meaning.{node_at, place}
use Rattle.exec_graph.specs.Readers.{among}
use Rattle.exec_graph.specs.Wellformed.{Ascends}
use Rattle.exec_graph.specs.declared.graph.Place.{Place}
use Rattle.exec_graph.specs.declared.graph.Node.TheVariants.{Flatten}
use Rattle.exec_graph.specs.declared.graph.Graph.{Graph}
use Rattle.fusion_blocks.specs.Blocks.{CanMark}
use Rattle.graph_laws.specs.Lifting.{CanLift}
use Rattle.sink_laws.specs.Chain.{CanSinkPdo, ins_of}
use Rattle.graph_rewrites.specs.Rewrites.{CanBeKid, CanBeSibling, forest_at, pair_of_nodes, rewritten}
use Rattle.graph_rewrites.specs.declared.rewrite.Rewrite.{Rewrite}
use Rattle.graph_rewrites.specs.declared.rewrite.Rewrite.TheVariants.{Merge, Sink, Lift, Kid, Sibling, Mark}

-- The Flatten f of ins has the Flatten e of es among them.
pub record IsNested (g : Graph) (f : ℕ) (ins : List Place) (e : ℕ) (es : List Place) : Type 0 where
  pub outer : node_at g.nodes f ≡ Some (Flatten ins)
  pub inner : node_at g.nodes e ≡ Some (Flatten es)
  pub nested : among (place e 0) ins ≡ true

abbrev pub CanBeMerged : Graph → ℕ → ℕ → Type 0
CanBeMerged g f e =
    IsNested g f (ins_of (node_at g.nodes f)) e (ins_of (node_at g.nodes e))

-- The Pdo p reads the Flatten n. The numbers of nodes ascend and are below the next one, so that
-- its copies get new ones; and those of its outputs are all from 0 on in preorder, since there will
-- be a Flatten for each of these.
pub record CanBeSunk (g : Graph) (n p : ℕ) : Type 0 where
  pub reads : CanSinkPdo g (pair_of_nodes n p)
  pub ascends : Ascends g.nodes
  pub below : AllByRecursion (λ e. e.number < g.next) g.nodes
  pub order : numbered 0 (forest_at g p) ≡ forest_at g p

-- The rewrite may be made of the graph, with no limit on how large either may be.
abbrev pub CanMake : Graph → Rewrite → Type 0
CanMake g (Merge outer inner) = CanBeMerged g outer inner
CanMake g (Sink flatten pdo) = CanBeSunk g flatten pdo
CanMake g (Lift group) = CanLift g group
CanMake g (Kid keeper output reader) = CanBeKid g keeper output reader
CanMake g (Sibling keeper other) = CanBeSibling g keeper other
CanMake g (Mark node output) = CanMark g (place node output)

-- They make h of g, one after another, each of which may be made of what those before it made.
abbrev pub MadeBy : List Rewrite → Graph → Graph → Type 0
MadeBy [] g h = g ≡ h
MadeBy (r ∷ rs) g h = CanMake g r × MadeBy rs (rewritten g r) h
