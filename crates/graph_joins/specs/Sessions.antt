-- A graph under names in which Pdos become one.
use Rattle.std.specs.Prelude.{◌≡◌, ℕ, ◌<◌, true, Some}
use Rattle.exec_graph.specs.Meaning.{has_out, node_at, place}
use Rattle.exec_graph.specs.Wellformed.{IsGraphOk}
use Rattle.exec_graph.specs.declared.graph.Graph.{Graph}
use Rattle.exec_graph.specs.declared.graph.Node.TheVariants.{Pdo}
use Rattle.graph_laws.specs.Kids.{number_after}
use Rattle.graph_states.specs.of_graph_names.Names.{unnamed}
use Rattle.graph_states.specs.of_graph_rewrites.Rewrites.{CanBeSibling, forest_at, input_at}
use Rattle.graph_states.specs.States.{Stands}
use Rattle.graph_joins.specs.Counts.{HasCounts}
use Rattle.graph_joins.specs.Lists.{HasLists}
use Rattle.graph_joins.specs.declared.session.Joins.{Joins}

-- it stands, and is well-formed without names; what is read is counted, and what is told of names
-- is so
pub record IsSession (j : Joins) : Type 0 where
  pub stands : Stands j.graph
  pub ok : IsGraphOk (unnamed j.graph)
  pub counts : HasCounts j.tables.counts j.graph
  pub lists : HasLists j.tables.lists j.graph.nodes

-- p and q are Pdos that read one collection
pub record ArePair (h : Graph) (p q : ℕ) : Type 0 where
  pub less : p < q
  pub can : CanBeSibling h p q

-- q is a Pdo that reads the k-th output of p, which has that name
pub record IsReader (h : Graph) (p k q n : ℕ) : Type 0 where
  pub less : p < q
  pub keeper : node_at h.nodes p ≡ Some (Pdo (input_at h p) (forest_at h p))
  pub other : node_at h.nodes q ≡ Some (Pdo (place n 0) (forest_at h q))
  pub has : has_out n (forest_at h p) ≡ true
  pub number : number_after 0 (forest_at h p) n ≡ k
