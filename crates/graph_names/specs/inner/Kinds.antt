-- Whether a node is a Pdo, as a map has it of the nodes so far.
use Rattle.std.specs.Prelude.{ℕ, ◌==◌, Bool, cond, List, [], ◌∷◌, Option, Some, None}
use Rattle.exec_graph.specs.declared.graph.Entry.{Entry}
use Rattle.pardo_fuse.specs.Readers.{is_pdo}

abbrev pub first_kind : Option Bool → Option Bool → Option Bool
first_kind None o = o
first_kind (Some b) o = Some b

abbrev pub kind_in : List Entry → ℕ → Option Bool
kind_in [] n = None
kind_in (e ∷ es) n = cond (e.number == n) (Some (is_pdo (Some e.node))) (kind_in es n)
