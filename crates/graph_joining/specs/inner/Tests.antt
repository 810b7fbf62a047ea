-- Whether two Pdos may become one, as tests.
use Rattle.std.specs.Prelude.{ℕ, nat_lt, ◌&&◌, Bool, List, Option}
use Rattle.exec_graph.specs.Meaning.{node_at, place}
use Rattle.exec_graph.specs.Readers.{same_place}
use Rattle.exec_graph.specs.declared.graph.Entry.{Entry}
use Rattle.exec_graph.specs.declared.graph.Node.{Node}
use Rattle.exec_graph.specs.declared.graph.Place.{Place}
use Rattle.graph_rewrites.specs.Rewrites.{input_of}
use Rattle.graph_rewrites.specs.of_graph_bounds.of_pardo_fuse.Readers.{is_pdo}

-- whether the node is a Pdo that reads c
abbrev pub calls_at : Place → Option Node → Bool
calls_at c x = is_pdo x && same_place c (input_of x)

abbrev pub can_kid : List Entry → ℕ → ℕ → ℕ → Bool
can_kid es p k q = is_pdo (node_at es p) && calls_at (place p k) (node_at es q)

abbrev pub can_sibling : List Entry → ℕ → ℕ → Bool
can_sibling es p q =
    nat_lt p q && (is_pdo (node_at es p) && calls_at (input_of (node_at es p)) (node_at es q))
