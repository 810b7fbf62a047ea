-- Where a node stands in the list of nodes.
use Rattle.std.specs.Prelude.{ℕ, ◌==◌, cond, List, [], ◌∷◌, Option, Some, None}
use Rattle.std.proofs.Common.{suc}
use Rattle.exec_graph.specs.declared.graph.Entry.{Entry}

abbrev pub one_on : Option ℕ → Option ℕ
one_on None = None
one_on (Some i) = Some (suc i)

-- The place of the node n.
abbrev pub index_at : List Entry → ℕ → Option ℕ
index_at [] n = None
index_at (e ∷ es) n = cond (e.number == n) (Some 0) (one_on (index_at es n))
