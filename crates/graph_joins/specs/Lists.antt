-- The names that Pdos keep, in preorder.
use Rattle.std.specs.Prelude.{◌≡◌, ℕ, List, Some, nat_eq}
use Rattle.std.specs.HashMap.{HashMap, get}
use Rattle.exec_graph.specs.Meaning.{node_at}
use Rattle.exec_graph.specs.declared.graph.Entry.{Entry}
use Rattle.flatten_sink.specs.of_sink_laws.Chain.{forest_of}
use Rattle.graph_walks.specs.Outs.{outs}

-- what the map tells of a Pdo is so
abbrev pub HasLists : {S : Type 0} → HashMap ℕ (List ℕ) S → List Entry → Type 0
HasLists m es = (p : ℕ) (ns : List ℕ) → get nat_eq m p ≡ Some ns
    → ns ≡ outs (forest_of (node_at es p))
