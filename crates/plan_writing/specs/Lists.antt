-- Lists of texts, lists whose members are numbered, and lists side by side.
use Rattle.std.specs.Prelude.{ℕ, List, [], ◌∷◌, ◌++◌, codes}
use Rattle.std.proofs.Common.{suc}
use Rattle.std.specs.List.{flat_map}

-- a text for each member, one after the other, each behind a space
abbrev pub spaced : {X : Type 0} → (X → List ℕ) → List X → List ℕ
spaced print xs = flat_map (λ x. codes " " ++ print x) xs

-- what is made of each member and its number, where the first has number n
abbrev pub numbered_texts : {X Y : Type 0} → (ℕ → X → Y) → ℕ → List X → List Y
numbered_texts make n [] = []
numbered_texts make n (x ∷ xs) = make n x ∷ numbered_texts make (suc n) xs

-- what is made of the members at each place of both lists
abbrev pub paired : {X Y Z : Type 0} → (X → Y → Z) → List X → List Y → List Z
paired make [] ys = []
paired make (x ∷ xs) [] = []
paired make (x ∷ xs) (y ∷ ys) = make x y ∷ paired make xs ys

-- the texts one after the other
abbrev pub one_text : List (List ℕ) → List ℕ
one_text texts = flat_map (λ text. text) texts
