-- What two Pdos become, in one go.
use Rattle.std.specs.Prelude.{◌≡◌, ◌⊎◌, ℕ, Some}
use Rattle.exec_graph.specs.Forests.{Forest}
use Rattle.exec_graph.specs.Meaning.{OutsDiffer, node_at}
use Rattle.exec_graph.specs.declared.graph.Graph.{Graph}
use Rattle.exec_graph.specs.declared.graph.Node.TheVariants.{Pdo}
use Rattle.exec_graph.specs.declared.graph.Place.{Place}
use Rattle.graph_laws.specs.Joining.{beside, grafted}
use Rattle.graph_laws.specs.Kids.{even, named_by, odd, renewed}
use Rattle.graph_rewrites.specs.Rewrites.{forest_at, input_at}
use Rattle.graph_joining.specs.declared.joining.Manner.{Manner}
use Rattle.graph_joining.specs.declared.joining.Manner.TheVariants.{Kid, Sibling}
use Rattle.graph_joining.specs.declared.moves.Apart.{Apart}
use Rattle.graph_joining.specs.inner.Apart.{gone_by, place_by}
use Rattle.graph_joining.specs.inner.Refits.{parted, refitted_by}

-- the one is not the other, and reads neither
pub record Differ (p q : ℕ) (c : Place) : Type 0 where
  pub apart : p ≡ q → ⊥
  pub own : c.node ≡ p → ⊥
  pub away : c.node ≡ q → ⊥

-- p and q are Pdos that may become one
pub record Stand (g : Graph) (p q : ℕ) : Type 0 where
  pub keeper : node_at g.nodes p ≡ Some (Pdo (input_at g p) (forest_at g p))
  pub other : node_at g.nodes q ≡ Some (Pdo (input_at g q) (forest_at g q))
  pub differ : Differ p q (input_at g p)
  pub outs : OutsDiffer (forest_at g p)

-- the number is that of one of the two
abbrev pub IsOfOne : Apart → Type 0
IsOfOne a = (a.number ≡ a.keeper) ⊎ (a.number ≡ a.other)

-- the steps of both, whose outputs have numbers that differ
abbrev pub together : Manner → Forest → Forest → Forest
together (Kid k) f h = grafted (even k) (named_by odd h) (named_by even f)
together Sibling f h = beside (named_by even f) (named_by odd h)

abbrev pub joined_by : Graph → Apart → Manner → Graph
joined_by g a m =
    let c = input_at g a.keeper in
    let all = together m (forest_at g a.keeper) (forest_at g a.other) in
    renewed (refitted_by (place_by a) (parted g a.number (gone_by a) c) a.number c all)
    a.number c all
