-- Lists of collections that stand one after another: which of them are needed of a call, and which
-- are kept.
use Rattle.std.proofs.Common.{inl, inr, ◌≡◌, ◌⊎◌, ℕ, zero, suc, ◌+◌, ◌<◌, ◌≤◌, Bool, true, false, List, [], ◌∷◌}
use Rattle.std.proofs.Common.{◌++◌, length, Some, refl, sym, ap, ◌∙◌}
use Rattle.std.proofs.Common.{subst, arith, add-zero, append_assoc, length-append}
use Rattle.std.specs.Prelude.{if◌then◌else◌, slice_get}
use Rattle.graph_build.specs.of_script_program.Script.{Script}
use Rattle.graph_build.specs.Calls.{emitted_at, first_emitted, is_kept_at, numbers_kept_from, needed_from}
use Rattle.graph_build.specs.Wanted.{wanted_at}
use Rattle.build_law.proofs.MadeKinds.{kept_apart}
use Rattle.build_law.proofs.Outputs.{EachName}

-- ---- of two lists

-- what stands in two lists, one behind the other, stands in one of them
pub in_either : (xs ys : List ℕ) (i x : ℕ) → slice_get (xs ++ ys) i ≡ Some x
    → (slice_get xs i ≡ Some x) ⊎ ((k : ℕ) × (length xs + k ≡ i) × (slice_get ys k ≡ Some x))
in_either [] ys i x h = inr (i, omega arith, h)
in_either (y ∷ xs) ys zero x h = inl h
in_either (y ∷ xs) ys (suc i) x h = later (in_either xs ys i x h)
  where
    later : (slice_get xs i ≡ Some x)
        ⊎ ((k : ℕ) × (length xs + k ≡ i) × (slice_get ys k ≡ Some x))
        → (slice_get xs i ≡ Some x)
        ⊎ ((k : ℕ) × (length (y ∷ xs) + k ≡ suc i) × (slice_get ys k ≡ Some x))
    later (inl here) = inl here
    later (inr there) = let same = there.1 in inr (there.0, omega (arith, same), there.2)

if_kept : (b : Bool) (name : ℕ) (rest : List ℕ)
    → length ((if b then name ∷ [] else []) ++ rest) ≤ suc (length rest)
if_kept true name rest = omega arith
if_kept false name rest = omega arith

both_few : (b c : Bool) (name more : ℕ) (ks fs : List ℕ) → (b ≡ true → c ≡ false)
    → length ks ≤ more → length ks + length fs ≤ more
    → length ((if b then name ∷ [] else []) ++ ks) + length (if c then name ∷ [] else fs)
    ≤ suc more
both_few true true name more ks fs apart few both = let e = apart refl in cc
both_few true false name more ks fs apart few both = omega (arith, both)
both_few false true name more ks fs apart few both = omega (arith, few)
both_few false false name more ks fs apart few both = omega (arith, both)

module _ (script : Script) where
  -- ---- needed of a call

  pub length_needed : (number more : ℕ) → length (needed_from script number more) ≡ more
  length_needed number zero = refl
  length_needed number (suc more) = ap suc (length_needed (suc number) more)

  -- what holds of each of so many, by its number and its place
  pub each_name : (P : ℕ → ℕ → Bool → Type 0) (number k more : ℕ)
      → ((i : ℕ) → i < more → P (number + i) (k + i) (emitted_at script (number + i)))
      → EachName P number k (needed_from script number more)
  each_name P number k zero h = tt
  each_name P number k (suc more) h = (
    subst (λ n. P n k (emitted_at script n)) (add-zero number)
        (subst (λ j. P (number + 0) j (emitted_at script (number + 0))) (add-zero k)
        (h 0 (omega arith))),
    each_name P (suc number) (suc k) more
        (λ i below.
        let e : number + suc i ≡ suc number + i = omega arith in
        let f : k + suc i ≡ suc k + i = omega arith in
        subst (λ n. P n (suc k + i) (emitted_at script n)) e
        (subst (λ j. P (number + suc i) j (emitted_at script (number + suc i))) f
        (h (suc i) (omega arith)))),
  )

  -- a needed one stands behind those before it
  pub split_at : (number more k : ℕ) → k < more → emitted_at script (number + k) ≡ true
      → (back : List Bool)
      × (needed_from script number more ≡ needed_from script number k ++ true ∷ back)
  split_at number zero k below h = absurd (omega arith)
  split_at number (suc more) zero below h = (
    needed_from script (suc number) more,
    ap (λ x. x ∷ needed_from script (suc number) more)
        (subst (λ n. emitted_at script n ≡ true) (add-zero number) h),
  )
  split_at number (suc more) (suc k) below h =
      let e : number + suc k ≡ suc number + k = omega arith in
      let rest = split_at (suc number) more k (omega arith)
      (subst (λ n. emitted_at script n ≡ true) e h) in
      (rest.0, ap (λ xs. emitted_at script number ∷ xs) rest.1)

  -- and what stands behind some is needed
  pub record IsSplit (number more : ℕ) (front : List Bool) : Type 0 where
    pub below : length front < more
    pub needed : emitted_at script (number + length front) ≡ true
    pub same : needed_from script number (length front) ≡ front

  pub parts : (number more : ℕ) (front back : List Bool)
      → needed_from script number more ≡ front ++ true ∷ back → IsSplit number more front
  parts number zero [] back h = cc
  parts number zero (x ∷ front) back h = cc
  parts number (suc more) [] back h = record {
    below = omega arith;
    needed =
        let e : emitted_at script number ≡ true = cc in
        subst (λ n. emitted_at script n ≡ true) (sym (add-zero number)) e;
    same = refl;
  }
  parts number (suc more) (x ∷ front) back h =
      let e : suc number + length front ≡ number + suc (length front) = omega arith in
      let head : emitted_at script number ≡ x = cc in
      let tail : needed_from script (suc number) more ≡ front ++ true ∷ back = cc in
      let rest = parts (suc number) more front back tail in
      let below = rest.below in
      record {
        below = omega arith;
        needed = subst (λ n. emitted_at script n ≡ true) e rest.needed;
        same = λ i. head i ∷ rest.same i;
      }

  -- ---- kept

  abbrev own_name : ℕ → List ℕ
  own_name name = if is_kept_at script name then name ∷ [] else []

  -- no more than so many are kept, and where one is emitted not all
  pub few_kept : (name more : ℕ) → length (numbers_kept_from script name more) ≤ more
  few_kept name zero = omega arith
  few_kept name (suc more) =
      let rest = few_kept (suc name) more in
      let one = if_kept (is_kept_at script name) name (numbers_kept_from script (suc name) more) in
      omega (arith, rest, one)

  pub few_built : (name more : ℕ)
      → length (numbers_kept_from script name more) + length (first_emitted script name more) ≤ more
  few_built name zero = omega arith
  few_built name (suc more) =
      both_few (is_kept_at script name) (emitted_at script name) name more
      (numbers_kept_from script (suc name) more) (first_emitted script (suc name) more)
      (kept_apart (wanted_at script name)) (few_kept (suc name) more)
      (few_built (suc name) more)

  -- a kept one stands behind those before it
  pub kept_seam : (name more k : ℕ) → k < more → is_kept_at script (name + k) ≡ true
      → (rest : List ℕ)
      × (numbers_kept_from script name more ≡ numbers_kept_from script name k ++ (name + k) ∷ rest)
  kept_seam name zero k below h = absurd (omega arith)
  kept_seam name (suc more) zero below h =
      let here : is_kept_at script name ≡ true =
      subst (λ n. is_kept_at script n ≡ true) (add-zero name) h in
      let rest : List ℕ = numbers_kept_from script (suc name) more in (
        rest,
        ap (λ (b : Bool). (if b then name ∷ [] else []) ++ rest) here
            ∙ ap (λ n. n ∷ rest) (sym (add-zero name)),
      )
  kept_seam name (suc more) (suc k) below h =
      let e : name + suc k ≡ suc name + k = omega arith in
      let it = kept_seam (suc name) more k (omega arith)
      (subst (λ n. is_kept_at script n ≡ true) e h) in
      let front : List ℕ = numbers_kept_from script (suc name) k in (
        it.0,
        ap (λ l. own_name name ++ l) it.1
            ∙ sym (append_assoc (own_name name) front ((suc name + k) ∷ it.0))
            ∙ ap (λ n. (own_name name ++ front) ++ n ∷ it.0) (sym e),
      )

  pub kept_before : (name more k : ℕ) → k < more → is_kept_at script (name + k) ≡ true
      → length (numbers_kept_from script name k) < length (numbers_kept_from script name more)
  kept_before name more k below h =
      let seam = kept_seam name more k below h in
      let both = length-append (numbers_kept_from script name k) ((name + k) ∷ seam.0) in
      let size = ap length seam.1 in
      omega (arith, both, size)

  -- one of those that are kept: it stands at so many behind the first, and so many before it are
  -- kept
  pub record IsAmong (name more i x : ℕ) : Type 0 where
    pub place : ℕ
    pub below : place < more
    pub number : name + place ≡ x
    pub kept : is_kept_at script x ≡ true
    pub before : length (numbers_kept_from script name place) ≡ i

  among_first : (name more x : ℕ) → is_kept_at script name ≡ true → name ≡ x
      → IsAmong name (suc more) 0 x
  among_first name more x here same = record {
    place = 0;
    below = omega arith;
    number = add-zero name ∙ same;
    kept = subst (λ n. is_kept_at script n ≡ true) same here;
    before = refl;
  }

  among_later : (name more i j x : ℕ) (b : Bool) → is_kept_at script name ≡ b
      → length (if b then name ∷ [] else []) + i ≡ j → IsAmong (suc name) more i x
      → IsAmong name (suc more) j x
  among_later name more i j x b is size it =
      let e : suc name + it.place ≡ name + suc it.place = omega arith in
      let low = it.below in
      let front : List ℕ = numbers_kept_from script (suc name) it.place in
      record {
        place = suc it.place;
        below = omega arith;
        number = sym e ∙ it.number;
        kept = it.kept;
        before =
            ap (λ (c : Bool). length ((if c then name ∷ [] else []) ++ front)) is
            ∙ by_flag b size front it.before;
      }
    where
      by_flag : (c : Bool) → length (if c then name ∷ [] else []) + i ≡ j → (front : List ℕ)
          → length front ≡ i → length ((if c then name ∷ [] else []) ++ front) ≡ j
      by_flag true size front same = omega (arith, size, same)
      by_flag false size front same = omega (arith, size, same)

  among_by : (b : Bool) (name more i x : ℕ) → is_kept_at script name ≡ b
      → ((k : ℕ) → slice_get (numbers_kept_from script (suc name) more) k ≡ Some x
      → IsAmong (suc name) more k x)
      → slice_get ((if b then name ∷ [] else []) ++ numbers_kept_from script (suc name) more) i
      ≡ Some x
      → IsAmong name (suc more) i x
  among_by true name more zero x is rest h =
      let same : name ≡ x = cc in among_first name more x is same
  among_by true name more (suc i) x is rest h =
      among_later name more i (suc i) x true is (omega arith) (rest i h)
  among_by false name more i x is rest h =
      among_later name more i i x false is (omega arith) (rest i h)

  pub among : (name more i x : ℕ) → slice_get (numbers_kept_from script name more) i ≡ Some x
      → IsAmong name more i x
  among name zero i x h = cc
  among name (suc more) i x h =
      among_by (is_kept_at script name) name more i x refl (λ k. among (suc name) more k x) h

  -- ---- the first that a call emits

  pub record IsFirst (name more x : ℕ) : Type 0 where
    pub place : ℕ
    pub below : place < more
    pub number : name + place ≡ x
    pub emitted : emitted_at script x ≡ true
    pub earlier : (i : ℕ) → i < place → emitted_at script (name + i) ≡ false

  first_by : (b : Bool) (name more i x : ℕ) → emitted_at script name ≡ b
      → (slice_get (first_emitted script (suc name) more) i ≡ Some x
      → (i ≡ 0) × IsFirst (suc name) more x)
      → slice_get (if b then name ∷ [] else first_emitted script (suc name) more) i ≡ Some x
      → (i ≡ 0) × IsFirst name (suc more) x
  first_by true name more zero x is rest h =
      let same : name ≡ x = cc in (
        refl,
        record {
          place = 0;
          below = omega arith;
          number = add-zero name ∙ same;
          emitted = subst (λ n. emitted_at script n ≡ true) same is;
          earlier = λ i low. absurd (omega arith);
        },
      )
  first_by true name more (suc i) x is rest h = cc
  first_by false name more i x is rest h =
      let it = rest h in
      let low = it.1.below in
      let e : suc name + it.1.place ≡ name + suc it.1.place = omega arith in (
        it.0,
        record {
          place = suc it.1.place;
          below = omega arith;
          number = sym e ∙ it.1.number;
          emitted = it.1.emitted;
          earlier = none it.1;
        },
      )
    where
      none : (it : IsFirst (suc name) more x) → (i : ℕ) → i < suc it.place
          → emitted_at script (name + i) ≡ false
      none it zero low = subst (λ n. emitted_at script n ≡ false) (sym (add-zero name)) is
      none it (suc i) low =
          let e : suc name + i ≡ name + suc i = omega arith in
          subst (λ n. emitted_at script n ≡ false) e (it.earlier i (omega arith))

  pub first_is : (name more i x : ℕ) → slice_get (first_emitted script name more) i ≡ Some x
      → (i ≡ 0) × IsFirst name more x
  first_is name zero i x h = cc
  first_is name (suc more) i x h =
      first_by (emitted_at script name) name more i x refl (first_is (suc name) more i x) h

  -- where one is emitted there is a first
  some_by : (b : Bool) (name more x : ℕ)
      → slice_get (first_emitted script (suc name) more) 0 ≡ Some x → (y : ℕ)
      × (slice_get (if b then name ∷ [] else first_emitted script (suc name) more) 0 ≡ Some y)
  some_by true name more x h = (name, refl)
  some_by false name more x h = (x, h)

  pub some_first : (name more k : ℕ) → k < more → emitted_at script (name + k) ≡ true
      → (x : ℕ) × (slice_get (first_emitted script name more) 0 ≡ Some x)
  some_first name zero k below h = absurd (omega arith)
  some_first name (suc more) zero below h = (
    name,
    ap (λ (b : Bool). slice_get (if b then name ∷ [] else first_emitted script (suc name) more) 0)
        (subst (λ n. emitted_at script n ≡ true) (add-zero name) h),
  )
  some_first name (suc more) (suc k) below h =
      let e : name + suc k ≡ suc name + k = omega arith in
      let rest = some_first (suc name) more k (omega arith)
      (subst (λ n. emitted_at script n ≡ true) e h) in
      some_by (emitted_at script name) name more rest.0 rest.1
