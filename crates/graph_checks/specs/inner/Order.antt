-- Ways along edges that never return: each node has a rank above those that it leads to.
use Rattle.std.specs.Prelude.{◌≡◌, ℕ, ◌<◌, Bool, true, false, List, [], length}
use Rattle.std.specs.List.{AllByRecursion, count_by}
use Rattle.std.proofs.Common.{get_or}
use Rattle.graph_checks.specs.declared.order.Mark.{Mark}
use Rattle.graph_checks.specs.declared.order.Mark.TheVariants.{Fresh, Open, Done}

abbrev pub edges_at : List (List ℕ) → ℕ → List ℕ
edges_at es i = get_or es i []

abbrev pub IsWithin : List (List ℕ) → Type 0
IsWithin es = (i : ℕ) → AllByRecursion (λ j. j < length es) (edges_at es i)

abbrev pub IsRank : List (List ℕ) → (ℕ → ℕ) → Type 0
IsRank es r = (i : ℕ) → AllByRecursion (λ j. r j < r i) (edges_at es i)

abbrev pub HasRank : List (List ℕ) → Type 0
HasRank es = (r : ℕ → ℕ) × IsRank es r

-- ---- a walk
abbrev pub mark_at : List Mark → ℕ → Mark
mark_at ms i = get_or ms i Done

abbrev pub is_fresh : Mark → Bool
is_fresh Fresh = true
is_fresh Open = false
is_fresh Done = false

-- how many nodes it has not been at
abbrev pub fresh : List Mark → ℕ
fresh ms = count_by is_fresh ms

abbrev pub HasNoOpen : List Mark → Type 0
HasNoOpen ms = (j : ℕ) → mark_at ms j ≡ Open → ⊥

-- the nodes that are done lead to such nodes alone, and have ranks
pub record IsPartly (es : List (List ℕ)) (ms : List Mark) : Type 0 where
  pub rank : ℕ → ℕ
  pub done : (i : ℕ) → mark_at ms i ≡ Done → AllByRecursion
      (λ j. (mark_at ms j ≡ Done) × (rank j < rank i)) (edges_at es i)

-- what has changed where the walk was at a node and all behind it
pub record Reached (es : List (List ℕ)) (i : ℕ) (old new : List Mark) : Type 0 where
  pub done : mark_at new i ≡ Done
  pub partly : IsPartly es new
  pub kept : (j : ℕ) → (mark_at old j ≡ Fresh → ⊥) → mark_at new j ≡ mark_at old j
  pub opened : (j : ℕ) → mark_at new j ≡ Open → mark_at old j ≡ Open

-- no ranks put all open nodes above the node
abbrev pub NoWay : List (List ℕ) → ℕ → List Mark → Type 0
NoWay es i old = (r : ℕ → ℕ) → IsRank es r → ((j : ℕ) → mark_at old j ≡ Open → r i < r j) → ⊥
