-- Where lists are taken last, one take after another.
use Rattle.std.proofs.Common.{◌≡◌, ◌≢◌, ◌<◌, ◌≤◌, ◌+◌, ◌==◌, ◌&&◌, ◌||◌, ℕ, zero, suc, Bool, true, false, List, [], ◌∷◌, ◌++◌, Some, map, length, get_or, drop, take, replicate, set, slice_get, refl, sym, ap, ◌∙◌, subst, arith}
use Rattle.std.specs.List.{list_any}
use Rattle.std.proofs.lemmas.List.{take_more, take_all, length-take}
use Rattle.std.proofs.lemmas.Option.{slice_get_within}
use Rattle.flume_value.specs.declared.value.Value.{Value}
use Rattle.exec_plan.specs.declared.plan.Take.{Take}
use Rattle.map_shard.specs.inner.Sending.{taken_by}
use Rattle.map_shard.specs.inner.Takes.{AreLast, is_of}
use Rattle.map_shard.proofs.Later.{kept_if, lists_on}

module _ {A : Type 0} (p : A → Bool) where
  none_more : (xs : List A) (n : ℕ) (x : A) → list_any p (drop n xs) ≡ false → p x ≡ false
      → list_any p (drop n (xs ++ x ∷ [])) ≡ false
  none_more [] zero x none other = ap (λ b. b || false) other
  none_more [] (suc zero) x none other = refl
  none_more [] (suc (suc n)) x none other = refl
  none_more (y ∷ ys) zero x none other = elim (p y) as
      (λ b. b || list_any p ys ≡ false → b || list_any p (ys ++ x ∷ []) ≡ false) [
        | true ↦ λ e. absurd (cc)
        | false ↦ λ e. none_more ys zero x e other
      ] none
  none_more (y ∷ ys) (suc n) x none other = none_more ys n x none other

  none_behind : (xs : List A) (n : ℕ) → length xs ≤ n → list_any p (drop n xs) ≡ false
  none_behind [] zero h = refl
  none_behind [] (suc n) h = refl
  none_behind (x ∷ xs) zero h = absurd (omega arith)
  none_behind (x ∷ xs) (suc n) h = none_behind xs n (omega arith)

not_of : (m n : ℕ) (x : Take) → n ≢ x.out → is_of m n x ≡ false
not_of m n x apart = elim (x.channel == m) as (λ b. b && (x.out == n) ≡ false) [
  | true ↦ grind (arith, apart)
  | false ↦ refl
]

not_in : (m n : ℕ) (x : Take) → x.channel ≢ m → is_of m n x ≡ false
not_in m n x apart =
    let no : (x.channel == m) ≡ false = grind (arith, apart) in ap (λ b. b && (x.out == n)) no

-- ---- with the take at place i
module _ (m : ℕ) (takes : List Take) (i : ℕ) (other : Take) (below : i < length takes)
    (last : List ℕ) (so_far : AreLast m (take i takes) last) where
  abbrev here : Take
  here = get_or takes i other

  stays : (n k : ℕ) → slice_get last n ≡ Some k → is_of m n here ≡ false
      → list_any (is_of m n) (drop (k + 1) (take (i + 1) takes)) ≡ false
  stays n k at apart =
      subst (λ l. list_any (is_of m n) (drop (k + 1) l) ≡ false)
      (sym (take_more takes i other below))
      (none_more (is_of m n) (take i takes) (k + 1) here (so_far n k at) apart)

  -- it is of another input channel
  pub last_stays : here.channel ≢ m → AreLast m (take (i + 1) takes) last
  last_stays apart n k at = stays n k at (not_in m n here apart)

  -- it was put into the table
  pub last_put : (next : List ℕ)
      → ((n k : ℕ) → slice_get next n ≡ Some k → k ≢ i
      → (n ≢ here.out) × (slice_get last n ≡ Some k))
      → AreLast m (take (i + 1) takes) next
  last_put next put n k at = by (k == i) refl where
    by : (b : Bool) → (k == i) ≡ b
        → list_any (is_of m n) (drop (k + 1) (take (i + 1) takes)) ≡ false
    by true same =
        let is : k ≡ i = grind (arith, same) in
        let long = length-take (i + 1) takes in
        none_behind (is_of m n) (take (i + 1) takes) (k + 1) (omega (arith, long, is))
    by false apart =
        let was = put n k at (λ e. grind (arith, apart, e)) in
        stays n k was.1 (not_of m n here was.0)

-- ---- before the first take, and at the end
pub last_none : (m : ℕ) (takes : List Take) (last : List ℕ) → AreLast m (take 0 takes) last
last_none m takes last n k at = none_behind (is_of m n) [] (k + 1) (omega arith)

pub last_all : (m : ℕ) (takes : List Take) (i : ℕ) (last : List ℕ) → length takes ≤ i
    → AreLast m (take i takes) last → AreLast m takes last
last_all m takes i last h all = subst (λ l. AreLast m l last) (take_all i takes h) all

-- ---- a place put at a number
pub written : (places : List ℕ) (number place n k : ℕ) → number < length places
    → slice_get (set places number place) n ≡ Some k → k ≢ place
    → (n ≢ number) × (slice_get places n ≡ Some k)
written [] number place n k h at apart = absurd (omega arith)
written (p ∷ ps) zero place zero k h at apart = absurd (apart (cc))
written (p ∷ ps) zero place (suc n) k h at apart = (λ e. absurd (omega arith), at)
written (p ∷ ps) (suc i) place zero k h at apart = (λ e. absurd (omega arith), at)
written (p ∷ ps) (suc i) place (suc n) k h at apart =
    let was = written ps i place n k (omega arith) at apart in
    (λ e. was.0 (omega arith), was.1)

all_place : (c place n k : ℕ) → slice_get (replicate c place) n ≡ Some k → k ≡ place
all_place zero place n k at = cc
all_place (suc c) place zero k at = cc
all_place (suc c) place (suc n) k at = all_place c place n k at

filled : (places : List ℕ) (c place n k : ℕ)
    → slice_get (places ++ replicate c place) n ≡ Some k → k ≢ place
    → slice_get places n ≡ Some k
filled [] c place n k at apart = absurd (apart (all_place c place n k at))
filled (p ∷ ps) c place zero k at apart = at
filled (p ∷ ps) c place (suc n) k at apart = filled ps c place n k at apart

pub filled_up : (places next : List ℕ) (number place n k c : ℕ) → length places ≤ number
    → next ≡ take (number + 1) places ++ replicate c place
    → slice_get next n ≡ Some k → k ≢ place → (n ≢ number) × (slice_get places n ≡ Some k)
filled_up places next number place n k c short is at apart =
    let all : take (number + 1) places ≡ places = take_all (number + 1) places (omega arith) in
    let was = filled places c place n k
    (subst (λ l. slice_get l n ≡ Some k) (is ∙ ap (λ l. l ++ replicate c place) all) at) apart in
    let below = slice_get_within places n k was in
    (λ e. absurd (omega arith), was)

-- ---- a take gets its list, and later ones what they got
pub taken_on : (m : ℕ) (takes : List Take) (last : List ℕ) → AreLast m takes last
    → (old now new : List (List Value)) (k : ℕ) (items : List Take) (other : Take)
    (is_last : Bool) (lists next : List (List Value)) (x : List Value) → items ≡ takes
    → k < length items
    → (is_last ≡ true → slice_get last (get_or items k other).out ≡ Some k)
    → x ≡ taken_by m now (get_or items k other)
    → ((q : Take) → (is_last ≡ true → is_of m (get_or items k other).out q ≡ false)
    → taken_by m new q ≡ taken_by m now q)
    → next ≡ lists ++ x ∷ []
    → lists ++ map (taken_by m now) (drop k takes) ≡ map (taken_by m old) takes
    → next ++ map (taken_by m new) (drop (k + 1) takes) ≡ map (taken_by m old) takes
taken_on m takes last are old now new k items other is_last lists next x same below at list
    others push so_far =
    lists_on (taken_by m now) (taken_by m new) takes k other lists next
    (map (taken_by m old) takes) x (subst (λ (l : List Take). k < length l) same below)
    (list ∙ ap (λ (l : List Take). taken_by m now (get_or l k other)) same) push
    (kept_if (taken_by m now) (taken_by m new) is_last (is_of m (get_or items k other).out)
    others (drop (k + 1) takes) (λ t. are (get_or items k other).out k (at t))) so_far
