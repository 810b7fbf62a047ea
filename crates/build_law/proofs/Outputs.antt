-- The step of a call: its outputs, of which those have numbers that are needed.
use Rattle.std.proofs.Common.{◌≡◌, ℕ, zero, suc, ◌+◌, ◌<◌, Bool, true, false, cond, List, [], ◌∷◌, ◌++◌, map, length, get_or, Option, Some, None, refl, sym, ap, ◌∙◌, subst, arith, add-zero, append-nil}
use Rattle.std.specs.Prelude.{◌==◌, ◌||◌, ◌&&◌}
use Rattle.std.specs.List.{AllByRecursion, flat_map, list_any}
use Rattle.std.proofs.lemmas.Bool.{eq-eqb, eqb-true}
use Rattle.flume_value.specs.declared.value.Value.{Value}
use Rattle.flume_collection.specs.Collection.{Collection}
use Rattle.exec_graph.specs.Calls.{emitted}
use Rattle.exec_graph.specs.Forests.{Branch, Forest, Label, Twig, Bare, Grow, label_at, numbered, steps, twigs}
use Rattle.exec_graph.specs.Meaning.{FitsForest, has_out, nothing, place, step_own, through, total}
use Rattle.exec_graph.specs.World.{World}
use Rattle.exec_graph.specs.declared.graph.Place.{Place}
use Rattle.graph_build.specs.Calls.{next_if, number_behind, output_numbers}
use Rattle.graph_build.specs.Nodes.{bud}
use Rattle.graph_laws.specs.Single.{width}

-- the outputs of a step from place k on, of which the first that is needed has the number next
abbrev pub buds : Branch → ℕ → ℕ → List Bool → Forest
buds b k next needed = twigs b k (map bud (output_numbers next needed)) Bare

abbrev pub bud_at : Branch → ℕ → Option ℕ → Label
bud_at b k out = label_at b k (bud out)

-- ---- how many

pub buds_width : (b : Branch) (k next : ℕ) (needed : List Bool)
    → width (buds b k next needed) ≡ length needed
buds_width b k next [] = refl
buds_width b k next (x ∷ xs) = ap suc (buds_width b (suc k) (next_if x next) xs)

no_first : (k : ℕ) (x : Bool) → (suc k == 0) ≡ x → ◌≡◌ {A = ℕ} (cond x 1 0) 0
no_first k true is = let no_ : suc k ≡ 0 = eqb-true (suc k) 0 is in absurd (omega arith)
no_first k false is = refl

none_more : (b : Branch) (k next : ℕ) (needed : List Bool)
    → steps (buds b (suc k) next needed) ≡ 0
none_more b k next [] = refl
none_more b k next (x ∷ xs) =
    λ i. no_first k (suc k == 0) refl i + (0 + none_more b (suc k) (next_if x next) xs i)

pub one_step_of : (b : Branch) (next : ℕ) (x : Bool) (xs : List Bool)
    → steps (buds b 0 next (x ∷ xs)) ≡ 1
one_step_of b next x xs = λ i. 1 + (0 + none_more b 0 (next_if x next) xs i)

pub no_kids : (os : List (Option ℕ)) → AllByRecursion (λ (t : Twig). t.kids ≡ Bare) (map bud os)
no_kids [] = tt
no_kids (o ∷ os) = (refl, no_kids os)

-- ---- numbers

pub in_order : (b : Branch) (k next : ℕ) (needed : List Bool)
    → numbered next (buds b k next needed) ≡ buds b k next needed
in_order b k next [] = refl
in_order b k next (true ∷ xs) =
    ap (Grow (bud_at b k (Some next)) Bare) (in_order b (suc k) (next + 1) xs)
in_order b k next (false ∷ xs) =
    ap (Grow (bud_at b k None) Bare) (in_order b (suc k) next xs)

-- the output number j stands behind these
pub record IsAt (needed : List Bool) (next j : ℕ) : Type 0 where
  pub front : List Bool
  pub back : List Bool
  pub is : needed ≡ front ++ true ∷ back
  pub number : number_behind next front ≡ j

behind_one : (x : Bool) (xs : List Bool) (next j : ℕ) → IsAt xs (next_if x next) j
    → IsAt (x ∷ xs) next j
behind_one x xs next j h = record {
  front = x ∷ h.front;
  back = h.back;
  is = ap (λ ys. x ∷ ys) h.is;
  number = h.number;
}

here_or : (b : Bool) (xs : List Bool) (next j : ℕ) → (next == j) ≡ b → (rest : Bool)
    → (b || (false || rest)) ≡ true → (rest ≡ true → IsAt xs (next + 1) j)
    → IsAt (true ∷ xs) next j
here_or true xs next j is rest h later =
    record { front = []; back = xs; is = refl; number = eqb-true next j is }
here_or false xs next j is rest h later = behind_one true xs next j (later h)

pub where_out : (b : Branch) (k next j : ℕ) (needed : List Bool)
    → has_out j (buds b k next needed) ≡ true → IsAt needed next j
where_out b k next j [] h = cc
where_out b k next j (true ∷ xs) h =
    here_or (next == j) xs next j refl (has_out j (buds b (suc k) (next + 1) xs)) h
    (where_out b (suc k) (next + 1) j xs)
where_out b k next j (false ∷ xs) h =
    behind_one false xs next j (where_out b (suc k) next j xs h)

or_first : (a b : Bool) → a ≡ true → (a || b) ≡ true
or_first true b h = refl
or_first false b h = cc

or_last : (a b : Bool) → b ≡ true → (a || (false || b)) ≡ true
or_last true b h = refl
or_last false b h = h

pub out_there : (b : Branch) (k next : ℕ) (front back : List Bool)
    → has_out (number_behind next front) (buds b k next (front ++ true ∷ back)) ≡ true
out_there b k next [] back = or_first (next == next) _ (eq-eqb next next refl)
out_there b k next (true ∷ front) back =
    or_last (next == number_behind (next + 1) front) _
    (out_there b (suc k) (next + 1) front back)
out_there b k next (false ∷ front) back = out_there b (suc k) next front back

pub first_there : (b : Branch) (k next : ℕ) (needed : List Bool)
    → list_any (λ one. one) needed ≡ true → has_out next (buds b k next needed) ≡ true
first_there b k next [] h = cc
first_there b k next (true ∷ xs) h = or_first (next == next) _ (eq-eqb next next refl)
first_there b k next (false ∷ xs) h = first_there b (suc k) next xs h

-- ---- the collections of needed names

-- what is needed of those from one number on
abbrev pub kept : {A : Type 0} → (ℕ → A) → ℕ → List Bool → List A
kept at number [] = []
kept at number (true ∷ xs) = at number ∷ kept at (suc number) xs
kept at number (false ∷ xs) = kept at (suc number) xs

counted_on : (next : ℕ) (xs : List Bool) → number_behind (next + 1) xs ≡ suc (number_behind next xs)
counted_on next [] = omega arith
counted_on next (true ∷ xs) = counted_on (next + 1) xs
counted_on next (false ∷ xs) = counted_on next xs

pub kept_at : {A : Type 0} (at : ℕ → A) (number : ℕ) (front back : List Bool) (d : A)
    → get_or (kept at number (front ++ true ∷ back)) (number_behind 0 front) d
    ≡ at (number + length front)
kept_at at number [] back d = ap at (sym (add-zero number))
kept_at at number (true ∷ front) back d =
    let e : suc number + length front ≡ number + suc (length front) = omega arith in
    ap (λ i. get_or (at number ∷ kept at (suc number) (front ++ true ∷ back)) i d)
    (counted_on 0 front)
    ∙ kept_at at (suc number) front back d ∙ ap at e
kept_at at number (false ∷ front) back d =
    let e : suc number + length front ≡ number + suc (length front) = omega arith in
    kept_at at (suc number) front back d ∙ ap at e

-- it holds of each name, by its number, its place and whether it is needed
abbrev pub EachName : (ℕ → ℕ → Bool → Type 0) → ℕ → ℕ → List Bool → Type 0
EachName P number k [] = Unit {0}
EachName P number k (x ∷ xs) = P number k x × EachName P (suc number) (suc k) xs

-- ---- what a call gives

module _ (w : World) (b : Branch) (v : Collection) where
  -- what it gives to its output of a place
  abbrev pub given_to : ℕ → Collection
  given_to k = through w (bud_at b k None) v

  pub buds_fit : (m : Place → Collection) (n : ℕ) (at : ℕ → Collection) (number k next : ℕ)
      (needed : List Bool)
      → ((i : ℕ) → m (place n (next + i)) ≡ get_or (kept at number needed) i nothing)
      → EachName (λ number k x. x ≡ true → at number ≡ given_to k) number k needed
      → FitsForest w m n v (buds b k next needed)
  buds_fit m n at number k next [] row each = tt
  buds_fit m n at number k next (true ∷ xs) row each = (
    subst (λ i. m (place n i) ≡ at number) (add-zero next) (row 0) ∙ each.0 refl,
    tt,
    buds_fit m n at (suc number) (suc k) (next + 1) xs
        (λ i. subst (λ j. m (place n j) ≡ get_or (kept at (suc number) xs) i nothing)
        (let e : next + suc i ≡ (next + 1) + i = omega arith in e) (row (suc i)))
        each.1,
  )
  buds_fit m n at number k next (false ∷ xs) row each =
      (tt, tt, buds_fit m n at (suc number) (suc k) next xs row each.1)

  -- ---- its own bags

  abbrev own_of : ℕ → ℕ → ℕ → List Bool → List Value
  own_of i k next needed = total w (step_own w i) v (buds b k next needed)

  one_of : (i k : ℕ) (x : Bool) → (b.last && (b.origin + k == i)) ≡ x → (rest : List Value)
      → cond (b.last && (b.origin + k == i)) (flat_map (emitted w (bud_at b k None)) v.bag) []
      ++ ([] ++ rest)
      ≡ cond x (flat_map (emitted w (bud_at b k None)) v.bag) [] ++ rest
  one_of i k x is rest =
      ap (λ y. cond y (flat_map (emitted w (bud_at b k None)) v.bag) [] ++ rest) is

  no_name : (i k : ℕ) → (b.origin + k ≡ i → ⊥) → (y : Bool) → (b.origin + k == i) ≡ y
      → (b.last && y) ≡ false
  no_name i k differ true is = absurd (differ (eqb-true (b.origin + k) i is))
  no_name i k differ false is = never b.last
    where
      never : (z : Bool) → (z && false) ≡ false
      never true = refl
      never false = refl

  not_this : (i k : ℕ) → (b.origin + k ≡ i → ⊥) → (b.last && (b.origin + k == i)) ≡ false
  not_this i k differ = no_name i k differ (b.origin + k == i) refl

  -- none of the names is i
  pub none_own : (i k next : ℕ) (needed : List Bool)
      → ((j : ℕ) → j < length needed → b.origin + (k + j) ≡ i → ⊥)
      → own_of i k next needed ≡ []
  none_own i k next [] apart = refl
  none_own i k next (x ∷ xs) apart =
      let here : b.origin + k ≡ i → ⊥ =
      λ same. apart 0 (omega arith) (let e : b.origin + (k + 0) ≡ i = omega arith in e) in
      one_of i k false (not_this i k here) (own_of i (suc k) (next_if x next) xs)
      ∙ none_own i (suc k) (next_if x next) xs
      (λ j below same. apart (suc j) (omega arith)
      (let e : b.origin + (k + suc j) ≡ i = omega arith in e))

  module _ (last : b.last ≡ true) where
    is_this : (i k : ℕ) → b.origin + k ≡ i → (b.last && (b.origin + k == i)) ≡ true
    is_this i k same =
        (λ t. last t && eq-eqb (b.origin + k) i same t)

    -- the name of place j is i
    pub one_own : (i k next : ℕ) (needed : List Bool) (j : ℕ) → j < length needed
        → b.origin + (k + j) ≡ i
        → own_of i k next needed ≡ flat_map (emitted w (bud_at b (k + j) None)) v.bag
    one_own i k next [] j below is = absurd (omega arith)
    one_own i k next (x ∷ xs) zero below is =
        let e : k + 0 ≡ k = add-zero k in
        one_of i k true (is_this i k (let h : b.origin + k ≡ i = omega (arith, e, is) in h))
        (own_of i (suc k) (next_if x next) xs)
        ∙ (λ t. flat_map (emitted w (bud_at b (sym e t) None)) v.bag
        ++ none_own i (suc k) (next_if x next) xs
        (λ j below same. absurd (omega arith)) t)
        ∙ append-nil (flat_map (emitted w (bud_at b (k + 0) None)) v.bag)
    one_own i k next (x ∷ xs) (suc j) below is =
        let e : suc k + j ≡ k + suc j = omega arith in
        one_of i k false
        (not_this i k (λ same. absurd (omega arith))) (own_of i (suc k) (next_if x next) xs)
        ∙ one_own i (suc k) (next_if x next) xs j (omega arith)
        (let h : b.origin + (suc k + j) ≡ i = omega arith in h)
        ∙ ap (λ p. flat_map (emitted w (bud_at b p None)) v.bag) e
