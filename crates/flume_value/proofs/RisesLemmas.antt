-- Parts of a list that rises.
use Rattle.std.proofs.Common.{ℕ, zero, suc, List, [], ◌∷◌, ◌++◌, take, drop}
use Rattle.flume_value.specs.declared.value.Value.{Value}
use Rattle.flume_value.proofs.EachLemmas.{Each-left, Each-take}
use Rattle.flume_value.proofs.BagLemmas.{NotBelow, Rises}

pub Rises-take : (n : ℕ) (xs : List Value) → Rises xs → Rises (take n xs)
Rises-take zero xs r = tt
Rises-take (suc n) [] r = tt
Rises-take (suc n) (x ∷ xs) r = (Each-take (NotBelow x) n xs r.0, Rises-take n xs r.1)

pub Rises-drop : (n : ℕ) (xs : List Value) → Rises xs → Rises (drop n xs)
Rises-drop zero xs r = r
Rises-drop (suc n) [] r = tt
Rises-drop (suc n) (x ∷ xs) r = Rises-drop n xs r.1

pub Rises-left : (xs ys : List Value) → Rises (xs ++ ys) → Rises xs
Rises-left [] ys r = tt
Rises-left (x ∷ xs) ys r = (Each-left (NotBelow x) xs ys r.0, Rises-left xs ys r.1)

Rises-right : (xs ys : List Value) → Rises (xs ++ ys) → Rises ys
Rises-right [] ys r = r
Rises-right (x ∷ xs) ys r = Rises-right xs ys r.1
