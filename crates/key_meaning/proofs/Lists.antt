-- Pairs of numbers that follow one another, and lists by their places.
use Rattle.std.proofs.Common.{◌≡◌, ℕ, zero, suc, ◌+◌, ◌<◌, List, [], ◌∷◌, ◌++◌, Some, slice_get, ap, ◌∙◌, subst, arith, ⊎_elim}
use Rattle.std.specs.List.{AllZip, Contains}
use Rattle.flume_collection.proofs.Members.{at_head, at_tail, head_or_tail, not_in_none}
use Rattle.key_meaning.proofs.Alike.{Pairs, Paired}

-- so many pairs from two numbers on
abbrev pub along : ℕ → ℕ → ℕ → Pairs
along m n zero = []
along m n (suc k) = (m, n) ∷ along (suc m) (suc n) k

pub along_at : (m n k i : ℕ) → i < k → Paired (along m n k) (m + i) (n + i)
along_at m n zero i below = absurd (omega arith)
along_at m n (suc k) zero below =
    let here : m ≡ m + 0 = omega arith in
    let there : n ≡ n + 0 = omega arith in
    subst (Contains (along m n (suc k))) (λ j. (here j, there j))
    (at_head (m, n) (along (suc m) (suc n) k))
along_at m n (suc k) (suc i) below =
    let here : suc m + i ≡ m + suc i = omega arith in
    let there : suc n + i ≡ n + suc i = omega arith in
    at_tail (m, n) (along (suc m) (suc n) k) (m + suc i, n + suc i)
    (subst (Contains (along (suc m) (suc n) k)) (λ j. (here j, there j))
    (along_at (suc m) (suc n) k i (omega arith)))

-- what is among them is so far behind both numbers
pub record Behind (m n k a b : ℕ) : Type 0 where
  pub place : ℕ
  pub below : place < k
  pub here : a ≡ m + place
  pub there : b ≡ n + place

pub along_from : (m n k a b : ℕ) → Paired (along m n k) a b → Behind m n k a b
along_from m n zero a b among = absurd (not_in_none (a, b) among)
along_from m n (suc k) a b among =
    ⊎_elim
    (λ (e : (m, n) ≡ (a, b)). record {
      place = 0;
      below = omega arith;
      here = omega (arith, ap (λ (p : ℕ × ℕ). p.0) e);
      there = omega (arith, ap (λ (p : ℕ × ℕ). p.1) e);
    })
    (λ (behind : Paired (along (suc m) (suc n) k) a b).
    let it = along_from (suc m) (suc n) k a b behind in
    record {
      place = suc it.place;
      below = omega (arith, it.below);
      here = omega (arith, it.here);
      there = omega (arith, it.there);
    })
    (head_or_tail (m, n) (along (suc m) (suc n) k) (a, b) among)

-- some, and then more
pub along_more : (m n k more : ℕ) → along m n k ++ along (m + k) (n + k) more ≡ along m n (k + more)
along_more m n zero more =
    let here : m + 0 ≡ m = omega arith in
    let there : n + 0 ≡ n = omega arith in
    let all : more ≡ 0 + more = omega arith in
    (λ j. along (here j) (there j) more) ∙ ap (along m n) all
along_more m n (suc k) more =
    let here : m + suc k ≡ suc m + k = omega arith in
    let there : n + suc k ≡ suc n + k = omega arith in
    let all : suc (k + more) ≡ suc k + more = omega arith in
    (λ j. (m, n) ∷ (along (suc m) (suc n) k ++ along (here j) (there j) more))
    ∙ ap (λ l. (m, n) ∷ l) (along_more (suc m) (suc n) k more)
    ∙ ap (along m n) all

-- ---- lists by their places

pub zip_at : {A B : Type 0} (R : A → B → Type 0) (xs : List A) (ys : List B) → AllZip R xs ys
    → (i : ℕ) (x : A) (y : B) → slice_get xs i ≡ Some x → slice_get ys i ≡ Some y → R x y
zip_at R [] ys zipped i x y here there = cc
zip_at R (z ∷ xs) [] zipped i x y here there = absurd zipped
zip_at R (z ∷ xs) (w ∷ ys) zipped zero x y here there =
    let first : z ≡ x = cc in
    let second : w ≡ y = cc in
    subst (λ v. R v y) first (subst (R z) second zipped.0)
zip_at R (z ∷ xs) (w ∷ ys) zipped (suc i) x y here there =
    zip_at R xs ys zipped.1 i x y here there

pub zip_among : {A B : Type 0} (R : A → B → Type 0) (xs : List A) (ys : List B) → AllZip R xs ys
    → (x : A) → Contains xs x → (y : B) × (Contains ys y × R x y)
zip_among R [] [] zipped x among = absurd (not_in_none x among)
zip_among R [] (w ∷ ys) zipped x among = absurd zipped
zip_among R (z ∷ xs) [] zipped x among = absurd zipped
zip_among R (z ∷ xs) (w ∷ ys) zipped x among =
    ⊎_elim (λ (e : z ≡ x). (w, (at_head w ys, subst (λ v. R v w) e zipped.0)))
    (λ (behind : Contains xs x).
    let it = zip_among R xs ys zipped.1 x behind in
    (it.0, (at_tail w ys it.0 it.1.0, it.1.1)))
    (head_or_tail z xs x among)

-- from the other side
pub zip_back : {A B : Type 0} (R : A → B → Type 0) (xs : List A) (ys : List B) → AllZip R xs ys
    → AllZip (λ y x. R x y) ys xs
zip_back R [] [] zipped = tt
zip_back R [] (w ∷ ys) zipped = absurd zipped
zip_back R (z ∷ xs) [] zipped = absurd zipped
zip_back R (z ∷ xs) (w ∷ ys) zipped = (zipped.0, zip_back R xs ys zipped.1)
