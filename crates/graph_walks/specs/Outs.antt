-- The outputs that a forest keeps, in preorder.
use Rattle.std.specs.Prelude.{ℕ, ◌==◌, cond, Bool, false, List, [], ◌∷◌, ◌++◌, Option, Some, None, slice_index_or}
use Rattle.std.proofs.Common.{suc}
use Rattle.graph_laws.specs.of_exec_graph.Forests.{Forest, Bare, Grow}

abbrev pub out_list : Option ℕ → List ℕ
out_list None = []
out_list (Some j) = j ∷ []

abbrev pub outs : Forest → List ℕ
outs Bare = []
outs (Grow l kids rest) = out_list l.out ++ (outs kids ++ outs rest)

-- where a number stands first, or how many numbers there are where it does not
abbrev pub place_of : List ℕ → ℕ → ℕ
place_of [] j = 0
place_of (k ∷ ks) j = cond (k == j) 0 (suc (place_of ks j))

-- a flag of a list, or false behind its end
abbrev pub flag : List Bool → ℕ → Bool
flag flags j = slice_index_or flags j false
