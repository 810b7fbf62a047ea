-- Whether rewrites may be made, as tests.
use Rattle.std.specs.Prelude.{ℕ, ◌==◌, Bool, true, false, List, [], ◌∷◌, Option, Some, None}
use Rattle.exec_graph.specs.Meaning.{has_out}
use Rattle.exec_graph.specs.declared.graph.Node.{Node}
use Rattle.exec_graph.specs.declared.graph.Node.TheVariants.{Pdo, Gbk}

abbrev pub is_gbk : Option Node → Bool
is_gbk (Some (Gbk c o l k)) = true
is_gbk _ = false

-- the only one of a list
abbrev pub only : List ℕ → Option ℕ
only [] = None
only (n ∷ []) = Some n
only (n ∷ (m ∷ ns)) = None

-- those that were found, as a list
abbrev pub found_list : Option ℕ → List ℕ
found_list None = []
found_list (Some n) = n ∷ []

-- whether an output of the node may be marked
abbrev pub can_mark : Option Node → ℕ → Bool
can_mark (Some (Pdo c f)) j = has_out j f
can_mark (Some (Gbk c o l None)) j = j == 0
can_mark _ j = false
