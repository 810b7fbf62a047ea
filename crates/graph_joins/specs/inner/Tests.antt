-- Whether a Pdo may become a kid under names, as a test.
use Rattle.std.specs.Prelude.{ℕ, ◌==◌, nat_lt, ◌&&◌, Bool, List}
use Rattle.exec_graph.specs.Meaning.{node_at}
use Rattle.exec_graph.specs.declared.graph.Entry.{Entry}
use Rattle.exec_graph.specs.declared.graph.Place.{Place}
use Rattle.graph_states.specs.of_pardo_fuse.Readers.{is_pdo}

-- whether both are Pdos, q has the greater number, and what it reads, c, may be a name
abbrev pub reads : List Entry → ℕ → ℕ → Place → Bool
reads es p q c =
    (nat_lt p q && (c.out == 0)) && (is_pdo (node_at es p) && is_pdo (node_at es q))
