-- Lists one after another, by number.
use Rattle.std.proofs.Common.{◌≡◌, ◌<◌, ◌≤◌, ◌+◌, ◌-◌, ◌*◌, ◌/◌, ℕ, zero, suc, true, false, cond, Bool, List, [], ◌∷◌, ◌++◌, length, take, drop, refl, sym, ap, ◌∙◌, arith, append-nil, add-one}
use Rattle.std.specs.Prelude.{◌==◌}
use Rattle.std.specs.List.{flat_map}
use Rattle.std.proofs.Math.Nat.{zero-div, div-mul-le_self, mul-div_cancel_left}
use Rattle.std.proofs.lemmas.Nat.{le-div}
use Rattle.std.proofs.lemmas.Grind.{flat_map-append}
use Rattle.std.proofs.lemmas.List.{take_all}
use Rattle.shards.specs.Shards.{concatenated, begins, shard}
use Rattle.shards.proofs.Alike.{Alike, alike_is, alike_back, alike_then, alike_append, alike_each, alike_both, flat_map-nothing}

pub joined_same : {A : Type 0} (f g : ℕ → List A) → ((i : ℕ) → f i ≡ g i) → (n : ℕ)
    → concatenated f n ≡ concatenated g n
joined_same f g h n = λ i. concatenated (λ k. h k i) n

pub joined_alike : {A : Type 0} (f g : ℕ → List A) → ((i : ℕ) → Alike (f i) (g i)) → (n : ℕ)
    → Alike (concatenated f n) (concatenated g n)
joined_alike f g h zero = λ w. refl
joined_alike f g h (suc n) =
    alike_append (concatenated f n) (concatenated g n) (f n) (g n) (joined_alike f g h n) (h n)

pub flat_map-joined : {A B : Type 0} (h : A → List B) (f : ℕ → List A) (n : ℕ)
    → flat_map h (concatenated f n) ≡ concatenated (λ i. flat_map h (f i)) n
flat_map-joined h f zero = refl
flat_map-joined h f (suc n) =
    flat_map-append h (concatenated f n) (f n)
    ∙ ap (λ l. l ++ flat_map h (f n)) (flat_map-joined h f n)

-- by number and then by member, or by member and then by number
pub joined_each : {X Y : Type 0} (f : ℕ → X → List Y) (xs : List X) (n : ℕ)
    → Alike (concatenated (λ i. flat_map (f i) xs) n) (flat_map (λ x. concatenated (λ i. f i x) n)
    xs)
joined_each f xs zero = alike_is [] (flat_map (λ x. []) xs) (sym (flat_map-nothing xs))
joined_each f xs (suc n) =
    alike_then (concatenated (λ i. flat_map (f i) xs) n ++ flat_map (f n) xs)
    (flat_map (λ x. concatenated (λ i. f i x) n) xs ++ flat_map (f n) xs)
    (flat_map (λ x. concatenated (λ i. f i x) n ++ f n x) xs)
    (alike_append (concatenated (λ i. flat_map (f i) xs) n)
    (flat_map (λ x. concatenated (λ i. f i x) n) xs)
    (flat_map (f n) xs) (flat_map (f n) xs) (joined_each f xs n) (λ w. refl))
    (alike_back (flat_map (λ x. concatenated (λ i. f i x) n ++ f n x) xs)
    (flat_map (λ x. concatenated (λ i. f i x) n) xs ++ flat_map (f n) xs)
    (alike_both (λ x. concatenated (λ i. f i x) n) (f n) xs))

pub joined_nothing : {A : Type 0} (n : ℕ) → concatenated {A = A} (λ i. []) n ≡ []
joined_nothing zero = refl
joined_nothing (suc n) = append-nil (concatenated (λ i. []) n) ∙ joined_nothing n

-- one number alone gives something
pub joined_if : {A : Type 0} (b : Bool) (f : ℕ → List A) (n : ℕ)
    → concatenated (λ i. cond b (f i) []) n ≡ cond b (concatenated f n) []
joined_if true f n = refl
joined_if false f n = joined_nothing n

pub joined_before : {A : Type 0} (c : ℕ) (l : List A) (n : ℕ) → n ≤ c
    → concatenated (λ m. cond (c == m) l []) n ≡ []
joined_before c l zero h = refl
joined_before c l (suc n) h =
    let other : (c == n) ≡ false = grind arith in
    let rest : concatenated (λ m. cond (c == m) l []) n ≡ [] = joined_before c l n (omega arith) in
    (λ i. rest i ++ cond (other i) l [])

pub joined_at : {A : Type 0} (c : ℕ) (l : List A) (n : ℕ) → c < n
    → concatenated (λ m. cond (c == m) l []) n ≡ l
joined_at c l zero h = absurd (omega arith)
joined_at c l (suc n) h =
    elim (c == n) as (λ b. (c == n) ≡ b → concatenated (λ m. cond (c == m) l []) n ++ cond b l [] ≡
    l) [
      | true ↦ λ e.
          let is : n ≤ c = grind (arith, e) in ap (λ xs. xs ++ l) (joined_before c l n is)
      | false ↦ λ e.
          let is : c < n = grind (arith, e) in
          append-nil (concatenated (λ m. cond (c == m) l []) n) ∙ joined_at c l n is
    ] refl

-- ---- the parts of a list by a number
pub joined_parts : {X Y : Type 0} (h : X → List Y) (t : X → ℕ) (n : ℕ) → ((x : X) → t x < n)
    → (xs : List X)
    → Alike (concatenated (λ p. flat_map (λ x. cond (t x == p) (h x) []) xs) n) (flat_map h xs)
joined_parts h t n small xs =
    alike_then (concatenated (λ p. flat_map (λ x. cond (t x == p) (h x) []) xs) n)
    (flat_map (λ x. concatenated (λ p. cond (t x == p) (h x) []) n) xs) (flat_map h xs)
    (joined_each (λ p x. cond (t x == p) (h x) []) xs n)
    (alike_each (λ x. concatenated (λ p. cond (t x == p) (h x) []) n) h
    (λ x. alike_is (concatenated (λ p. cond (t x == p) (h x) []) n) (h x)
    (joined_at (t x) (h x) n (small x))) xs)

-- ---- the ranges of a list
begins_rises : (s i n : ℕ) → 0 < s → begins s i n ≤ begins s (i + 1) n
begins_rises s i n h =
    let part : i * n / s * s ≤ i * n = div-mul-le_self (i * n) s in
    le-div (i * n / s) ((i + 1) * n) s h (omega arith)

take_none : {A : Type 0} (n : ℕ) → take {A = A} n [] ≡ []
take_none zero = refl
take_none (suc n) = refl

begins_none : (s n : ℕ) → begins s 0 n ≡ 0
begins_none s n = let none : 0 * n ≡ 0 = omega arith in ap (λ m. m / s) none ∙ zero-div s

take_further : {A : Type 0} (a b : ℕ) (xs : List A) → a ≤ b
    → take a xs ++ take (b - a) (drop a xs) ≡ take b xs
take_further zero b xs h = let e : b - 0 ≡ b = omega arith in ap (λ n. take n xs) e
take_further (suc a) zero xs h = absurd (omega arith)
take_further (suc a) (suc b) [] h =
    let e : (suc b - suc a) ≡ b - a = omega arith in take_none (suc b - suc a)
take_further (suc a) (suc b) (x ∷ xs) h =
    let e : (suc b - suc a) ≡ b - a = omega arith in
    ap (λ n. x ∷ (take a xs ++ take n (drop a xs))) e
    ∙ ap (λ l. x ∷ l) (take_further a b xs (omega arith))

shards_up_to : {A : Type 0} (s : ℕ) (xs : List A) (k : ℕ) → 0 < s
    → concatenated (λ i. shard s i xs) k ≡ take (begins s k (length xs)) xs
unfolding shard
shards_up_to s xs zero h = ap (λ n. take n xs) (sym (begins_none s (length xs)))
shards_up_to s xs (suc k) h =
    let n = length xs in
    ap (λ l. l ++ take (begins s (k + 1) n - begins s k n) (drop (begins s k n) xs))
    (shards_up_to s xs k h)
    ∙ take_further (begins s k n) (begins s (k + 1) n) xs (begins_rises s k n h)
    ∙ ap (λ i. take (begins s i n) xs) (add-one k)

pub shards_join : {A : Type 0} (s : ℕ) (xs : List A) → 0 < s
    → concatenated (λ i. shard s i xs) s ≡ xs
shards_join s xs h =
    shards_up_to s xs s h ∙ ap (λ n. take n xs) (mul-div_cancel_left (length xs) h)
    ∙ take_all (length xs) xs (omega arith)
