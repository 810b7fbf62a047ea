-- Numbers of collections in ascending order, each once, tell them so.
use Rattle.std.proofs.Common.{◌≡◌, ℕ, zero, suc, ◌/◌, ◌<◌, ◌≤◌, ◌^◌, Bool, true, false, cond, eqb, ltb, ◌&&◌, ◌||◌, List, [], ◌∷◌, map, length, get_or, refl, sym, ap, ◌∙◌, inl, inr, arith}
use Rattle.std.specs.List.{AllByRecursion as Each, Contains, dedup, list_any}
use Rattle.std.specs.List.Sorted.{IsPermutation, IsSorted, IsStrictlySortedBy}
use Rattle.std.specs.Ordering.{nat_cmp}
use Rattle.std.specs.declared.cmp.Ordering.TheVariants.{Less, Equal, Greater}
use Rattle.std.proofs.lemmas.Bool.{eq-eqb, eqb-true, false≢true, ltb-true, cases_lt}
use Rattle.std.proofs.lemmas.List.Kept.{Contains-dedup_nat, Contains-from_dedup}
use Rattle.std.proofs.lemmas.List.Sorted.{Contains-permutation, IsPermutation-sym}
use Rattle.std.proofs.lemmas.Map.Keys.{IsStrictlyIncreasing-dedup, sorted_from_strictly_increasing}
use Rattle.exec_graph.specs.Places.{code}
use Rattle.exec_graph.specs.Readers.{among}
use Rattle.exec_graph.specs.declared.graph.Place.{Place}
use Rattle.exec_graph.proofs.Coding.{code_same}
use Rattle.plan_tracing.specs.Lists.{IsBefore, Rise}
use Rattle.plan_tracing.specs.inner.Codes.{place_at}

-- ---- lists of numbers

abbrev holds : ℕ → List ℕ → Bool
holds k ks = list_any (eqb k) ks

contains_some : (k : ℕ) (ks : List ℕ) → holds k ks ≡ true → Contains ks k
contains_some k [] h = absurd (false≢true h)
contains_some k (j ∷ ks) h = by (eqb k j) refl h (contains_some k ks)
  where
    by : (b : Bool) → eqb k j ≡ b → (b || holds k ks) ≡ true
        → (holds k ks ≡ true → Contains ks k) → Contains (j ∷ ks) k
    by true i g f = (0, omega arith, sym (eqb-true k j i))
    by false i g f =
        let c = f g in (suc c.0, let l : c.0 < length ks = c.1 in omega arith, c.2)

some_contains : (k : ℕ) (ks : List ℕ) (i : ℕ) → i < length ks → get_or ks i k ≡ k
    → holds k ks ≡ true
some_contains k [] i l e = absurd (omega arith)
some_contains k (j ∷ ks) zero l e =
    ap (λ (b : Bool). b || holds k ks) (eq-eqb k j (sym e))
some_contains k (j ∷ ks) (suc i) l e =
    or_later (eqb k j) (holds k ks) (some_contains k ks i (omega arith) e)
  where
    or_later : (a b : Bool) → b ≡ true → (a || b) ≡ true
    or_later true b h = refl
    or_later false b h = h

alike : (a b : Bool) → (a ≡ true → b ≡ true) → (b ≡ true → a ≡ true) → a ≡ b
alike true b f g = sym (f refl)
alike false true f g = g refl
alike false false f g = refl

same_holds : (xs ys : List ℕ) → IsPermutation xs ys → (k : ℕ)
    → holds k (dedup eqb ys) ≡ holds k xs
same_holds xs ys p k =
    alike (holds k (dedup eqb ys)) (holds k xs)
    (λ h.
    let c : Contains xs k =
    Contains-permutation ys xs k (IsPermutation-sym xs ys p)
    (Contains-from_dedup eqb ys k (contains_some k (dedup eqb ys) h)) in
    some_contains k xs c.0 c.1 c.2)
    (λ h.
    let c : Contains (dedup eqb ys) k =
    Contains-dedup_nat ys k (Contains-permutation xs ys k p (contains_some k xs h)) in
    some_contains k (dedup eqb ys) c.0 c.1 c.2)

-- ---- collections and their numbers

code_at : (k : ℕ) → code (place_at k) ≡ k
code_at k = omega arith

small_at : (k : ℕ) → (place_at k).out < 2 ^ 32
small_at k = omega arith

codes_at : (ks : List ℕ) → map code (map place_at ks) ≡ ks
codes_at [] = refl
codes_at (k ∷ ks) = ap (λ (x : ℕ). x ∷ map code (map place_at ks)) (code_at k)
    ∙ ap (λ (xs : List ℕ). k ∷ xs) (codes_at ks)

all_small_at : (ks : List ℕ) → Each (λ c. c.out < 2 ^ 32) (map place_at ks)
all_small_at [] = tt
all_small_at (k ∷ ks) = (small_at k, all_small_at ks)

held_by_code : (d : Place) (cs : List Place) → d.out < 2 ^ 32 → Each (λ c. c.out < 2 ^ 32) cs
    → among d cs ≡ holds (code d) (map code cs)
held_by_code d [] s a = refl
held_by_code d (c ∷ cs) s a =
    ap (λ (b : Bool). b || among d cs) (sym (code_same d c s a.0))
    ∙ ap (λ (b : Bool). eqb (code d) (code c) || b) (held_by_code d cs s a.1)

-- what has a greater output is not among them
not_held : (d : Place) (cs : List Place) → 2 ^ 32 ≤ d.out → Each (λ c. c.out < 2 ^ 32) cs
    → among d cs ≡ false
not_held d [] big a = refl
not_held d (c ∷ cs) big a =
    ap (λ (b : Bool). b || among d cs) (no_and (eqb d.node c.node) (eqb d.out c.out)
    (not_same (eqb d.out c.out) refl)) ∙ not_held d cs big a.1
  where
    no_and : (x y : Bool) → y ≡ false → (x && y) ≡ false
    no_and true y h = h
    no_and false y h = refl

    not_same : (b : Bool) → eqb d.out c.out ≡ b → eqb d.out c.out ≡ false
    not_same true i =
        let same : d.out ≡ c.out = eqb-true d.out c.out i in
        let few : c.out < 2 ^ 32 = a.0 in absurd (omega arith)
    not_same false i = i

among_codes : (cs : List Place) (ks : List ℕ) → Each (λ c. c.out < 2 ^ 32) cs
    → ((k : ℕ) → holds k ks ≡ holds k (map code cs)) → (d : Place)
    → among d (map place_at ks) ≡ among d cs
among_codes cs ks a same d = elim (cases_lt d.out (2 ^ 32)) [
  | inl few ↦ held_by_code d (map place_at ks) few (all_small_at ks)
      ∙ ap (holds (code d)) (codes_at ks) ∙ same (code d) ∙ sym (held_by_code d cs few a)
  | inr big ↦ not_held d (map place_at ks) big (all_small_at ks) ∙ sym (not_held d cs big a)
]

-- ---- their order

less_of : (x y : ℕ) → nat_cmp x y ≡ Less → x < y
less_of x y h = by (ltb x y) (eqb x y) refl h
  where
    by : (b d : Bool) → ltb x y ≡ b → cond b Less (cond d Equal Greater) ≡ Less → x < y
    by true d i e = ltb-true x y i
    by false true i e = let bad : ⊥ = cc in absurd bad
    by false false i e = let bad : ⊥ = cc in absurd bad

place_before : (x y : ℕ) → x < y → IsBefore (place_at x) (place_at y)
place_before x y h = elim (cases_lt (x / 4294967296) (y / 4294967296)) [
  | inl less ↦ inl less
  | inr more ↦ inr ((omega arith, omega arith))
]

all_before : (x : ℕ) (ks : List ℕ) → Each (λ k. nat_cmp x k ≡ Less) ks
    → Each (IsBefore (place_at x)) (map place_at ks)
all_before x [] a = tt
all_before x (k ∷ ks) a = (place_before x k (less_of x k a.0), all_before x ks a.1)

rise_by : (ks : List ℕ) → IsStrictlySortedBy nat_cmp ks → Rise (map place_at ks)
unfolding IsStrictlySortedBy
rise_by [] s = tt
rise_by (k ∷ ks) s = (all_before k ks s.0, rise_by ks s.1)

pub rise_codes : (ks : List ℕ) → IsSorted nat_cmp ks → Rise (map place_at (dedup eqb ks))
rise_codes ks s =
    rise_by (dedup eqb ks)
    (sorted_from_strictly_increasing (dedup eqb ks) (IsStrictlyIncreasing-dedup ks s))

pub same_codes : (cs : List Place) (ks : List ℕ) → Each (λ c. c.out < 2 ^ 32) cs
    → IsPermutation (map code cs) ks → (d : Place)
    → among d (map place_at (dedup eqb ks)) ≡ among d cs
same_codes cs ks a p d =
    among_codes cs (dedup eqb ks) a (λ k. same_holds (map code cs) ks p k) d
