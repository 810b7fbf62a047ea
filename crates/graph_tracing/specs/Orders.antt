-- In which order rewrites are written: siblings before kids, in both ascending by the number that
-- the Pdo that goes had before all kids, and marks ascending by their nodes and then by outputs.
-- Merges, sinks and lifts may stand anywhere among them: of the order of sinking's rewrites speaks
-- `IsSinking`.
use Rattle.std.specs.Prelude.{◌≡◌, ◌⊎◌, ℕ, ◌<◌, ltb, cond, List, [], ◌∷◌}
use Rattle.std.specs.List.{AllByRecursion}
use Rattle.pass_rewrites.specs.of_fuse_chain.Numbers.{other_of_two}
use Rattle.graph_rewrites.specs.declared.rewrite.Rewrite.{Rewrite}
use Rattle.graph_rewrites.specs.declared.rewrite.Rewrite.TheVariants.{Merge, Sink, Lift, Kid, Sibling, Mark}

-- what may stand behind a kid by which the Pdo of that number went
abbrev pub BehindKid : ℕ → Rewrite → Type 0
BehindKid reader (Merge outer inner) = Unit {0}
BehindKid reader (Sink flatten pdo) = Unit {0}
BehindKid reader (Lift group) = Unit {0}
BehindKid reader (Kid keeper output other) = reader < other
BehindKid reader (Sibling keeper other) = ⊥
BehindKid reader (Mark node output) = Unit {0}

-- what may stand behind a sibling by which it went
abbrev pub BehindSibling : ℕ → Rewrite → Type 0
BehindSibling first (Merge outer inner) = Unit {0}
BehindSibling first (Sink flatten pdo) = Unit {0}
BehindSibling first (Lift group) = Unit {0}
BehindSibling first (Kid keeper output other) = Unit {0}
BehindSibling first (Sibling keeper other) = first < other
BehindSibling first (Mark node output) = Unit {0}

-- what may stand behind a mark
abbrev pub BehindMark : ℕ → ℕ → Rewrite → Type 0
BehindMark node output (Merge outer inner) = Unit {0}
BehindMark node output (Sink flatten pdo) = Unit {0}
BehindMark node output (Lift group) = Unit {0}
BehindMark node output (Kid keeper out other) = Unit {0}
BehindMark node output (Sibling keeper other) = Unit {0}
BehindMark node output (Mark n k) = (node < n) ⊎ ((node ≡ n) × (output < k))

-- the first may stand before the other
abbrev pub Precedes : Rewrite → Rewrite → Type 0
Precedes (Merge outer inner) s = Unit {0}
Precedes (Sink flatten pdo) s = Unit {0}
Precedes (Lift group) s = Unit {0}
Precedes (Kid keeper output reader) s = BehindKid reader s
Precedes (Sibling keeper other) s = BehindSibling other s
Precedes (Mark node output) s = BehindMark node output s

-- each may stand before all that follow it
abbrev pub Ascend : List Rewrite → Type 0
Ascend [] = Unit {0}
Ascend (r ∷ rs) = AllByRecursion (Precedes r) rs × Ascend rs

-- where f tells the number that a Pdo had, it does so after a kid, by which p has the lesser of
-- both numbers
abbrev pub had_after : (ℕ → ℕ) → ℕ → ℕ → ℕ → ℕ
had_after f p q n = f (cond (ltb q p) (other_of_two p q n) n)

-- the same rewrites, each kid with the number that its Pdo had before all of them
abbrev pub with_formers : (ℕ → ℕ) → List Rewrite → List Rewrite
with_formers f [] = []
with_formers f (Merge outer inner ∷ rs) = Merge outer inner ∷ with_formers f rs
with_formers f (Sink flatten pdo ∷ rs) = Sink flatten pdo ∷ with_formers f rs
with_formers f (Lift group ∷ rs) = Lift group ∷ with_formers f rs
with_formers f (Kid keeper output reader ∷ rs) =
    Kid keeper output (f reader) ∷ with_formers (had_after f keeper reader) rs
with_formers f (Sibling keeper other ∷ rs) = Sibling keeper other ∷ with_formers f rs
with_formers f (Mark node output ∷ rs) = Mark node output ∷ with_formers f rs

abbrev pub AreInOrder : List Rewrite → Type 0
AreInOrder rs = Ascend (with_formers (λ n. n) rs)
