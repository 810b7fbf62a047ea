-- The merges and the steps that sinking makes, in the order in which it makes them.
use Rattle.std.specs.Prelude.{◌≡◌, List, [], ◌∷◌, Option, Some, None}
use Rattle.exec_graph.specs.declared.graph.Graph.{Graph}
use Rattle.graph_rewrites.specs.declared.rewrite.Rewrite.{Rewrite}
use Rattle.graph_rewrites.specs.declared.rewrite.Rewrite.TheVariants.{Merge, Sink}
use Rattle.sink_laws.specs.Chain.{next_call, next_graph, next_nest}
use Rattle.sink_laws.specs.declared.pair.Pair.{Pair}
use Rattle.graph_tracing.specs.Traces.{IsTrace}

-- the merge of the least pair of Flattens, or the step on the least Pdo where there is no such pair
abbrev pub least_rewrite : Option Pair → Option Pair → Option Rewrite
least_rewrite (Some nest) call = Some (Merge nest.flatten nest.other)
least_rewrite None (Some call) = Some (Sink call.flatten call.other)
least_rewrite None None = None

-- the rewrite that is next in a graph
abbrev pub next_rewrite : Graph → Option Rewrite
next_rewrite g = least_rewrite (next_nest g.nodes) (next_call g.nodes)

-- Each is the next rewrite of the graph that those before it make of g, and all of them make h.
abbrev pub AreNext : Graph → List Rewrite → Graph → Type 0
AreNext g [] h = g ≡ h
AreNext g (r ∷ rs) h =
    (i : Graph) × (next_rewrite g ≡ Some r) × (next_graph g ≡ Some i) × AreNext i rs h

-- they lead from g to h, each the next
pub record IsSinking (g : Graph) (rs : List Rewrite) (h : Graph) : Type 0 where
  pub traced : IsTrace 0 g rs h
  pub order : AreNext g rs h
