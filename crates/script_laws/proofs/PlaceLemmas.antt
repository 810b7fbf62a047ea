-- Where names stand: under the number of its place stands what a name stands for.
use Rattle.std.proofs.Common.{◌≡◌, ℕ, zero, suc, ◌+◌, Bool, true, false, cond, List, [], ◌∷◌, ◌++◌, Option, Some, None, length, slice_get, refl, sym, ap, ◌∙◌, arith, ⊎_elim}
use Rattle.std.proofs.Common.{◌⊎◌, inl, inr}
use Rattle.std.specs.List.{position_or_len}
use Rattle.std.specs.Option.{option_map}
use Rattle.std.specs.Str.{bytes_eq}
use Rattle.std.specs.Map.{keys_of}
use Rattle.std.proofs.lemmas.List.Recursion.{is_position_or_len}
use Rattle.script_rules.specs.of_written_types.Named.{Named, find}
use Rattle.script_rules.specs.of_script_program.Script.{name_place}

-- ---- look-ups by place

abbrev first : (List ℕ → Bool) → List (List ℕ) → ℕ
first test [] = 0
first test (key ∷ keys) = cond (test key) 0 (suc (first test keys))

one-more : (n : ℕ) → suc n ≡ 1 + n
one-more n = omega arith

first-is : (test : List ℕ → Bool) (keys : List (List ℕ))
    → first test keys ≡ position_or_len test keys
first-is test keys =
    is_position_or_len (first test) test refl
    (λ key keys. ap (cond (test key) 0) (one-more (first test keys))) keys

-- what an entry's name stands for
abbrev pub meaning : {A : Type 0} → Option (List ℕ × A) → Option A
meaning o = option_map (λ entry. entry.1) o

at-first : {A : Type 0} (test : Bool) (y x : A) (rest : Option A) (k : List ℕ) (i : ℕ)
    (names : Named A)
    → (rest ≡ Some x → meaning (slice_get names i) ≡ Some x)
    → cond test (Some y) rest ≡ Some x
    → meaning (slice_get ((k, y) ∷ names) (cond test 0 (suc i))) ≡ Some x
at-first true y x rest k i names later e = e
at-first false y x rest k i names later e = later e

found-first : {A : Type 0} (name : List ℕ) (names : Named A) (x : A) → find name names ≡ Some x
    → meaning (slice_get names (first (bytes_eq name) (keys_of names))) ≡ Some x
found-first name [] x e = cc
found-first name (entry ∷ names) x e =
    at-first (bytes_eq name entry.0) entry.1 x (find name names) entry.0
    (first (bytes_eq name) (keys_of names)) names (found-first name names x) e

pub found-at : {A : Type 0} (name : List ℕ) (names : Named A) (x : A) → find name names ≡ Some x
    → meaning (slice_get names (name_place name names)) ≡ Some x
found-at name names x e =
    ap (λ i. meaning (slice_get names i)) (sym (first-is (bytes_eq name) (keys_of names)))
    ∙ found-first name names x e

-- ---- more behind

pub front-kept : {A : Type 0} (xs : List A) (more : List A) (i : ℕ) (x : A)
    → slice_get xs i ≡ Some x → slice_get (xs ++ more) i ≡ Some x
front-kept [] more i x e = cc
front-kept (y ∷ xs) more zero x e = e
front-kept (y ∷ xs) more (suc i) x e = front-kept xs more i x e

kept-mapped : {A B : Type 0} (f : A → B) (xs more : List A) (i : ℕ) (y : B) (o : Option A)
    → ((x : A) → o ≡ Some x → slice_get (xs ++ more) i ≡ Some x) → option_map f o ≡ Some y
    → option_map f (slice_get (xs ++ more) i) ≡ Some y
kept-mapped f xs more i y None kept e = cc
kept-mapped f xs more i y (Some x) kept e = ap (option_map f) (kept x refl) ∙ e

pub mapped-kept : {A B : Type 0} (f : A → B) (xs more : List A) (i : ℕ) (y : B)
    → option_map f (slice_get xs i) ≡ Some y → option_map f (slice_get (xs ++ more) i) ≡ Some y
mapped-kept f xs more i y e =
    kept-mapped f xs more i y (slice_get xs i) (λ x. front-kept xs more i x) e

-- what stands at a number stands in front, or behind
pub record IsBehind {A : Type 0} (xs ys : List A) (i : ℕ) (x : A) : Type 0 where
  pub number : ℕ
  pub at : i ≡ length xs + number
  pub is : slice_get ys number ≡ Some x

pub front-or-behind : {A : Type 0} (xs ys : List A) (i : ℕ) (x : A)
    → slice_get (xs ++ ys) i ≡ Some x → (slice_get xs i ≡ Some x) ⊎ IsBehind xs ys i x
front-or-behind [] ys i x e = inr (record { number = i; at = omega arith; is = e })
front-or-behind (y ∷ xs) ys zero x e = inl e
front-or-behind (y ∷ xs) ys (suc i) x e =
    ⊎_elim (λ (front : slice_get xs i ≡ Some x). inl front)
    (λ (behind : IsBehind xs ys i x). inr (record {
      number = behind.number;
      at = omega (arith, behind.at);
      is = behind.is;
    }))
    (front-or-behind xs ys i x e)

pub behind-is : {A : Type 0} (xs ys : List A) (i : ℕ)
    → slice_get (xs ++ ys) (length xs + i) ≡ slice_get ys i
behind-is [] ys i =
    let here : 0 + i ≡ i = omega arith in
    ap (slice_get ys) here
behind-is (y ∷ xs) ys i =
    let next : length (y ∷ xs) + i ≡ suc (length xs + i) = omega arith in
    ap (slice_get ((y ∷ xs) ++ ys)) next ∙ behind-is xs ys i
