-- Lists with the same members, as often: each weight of members sums to the same.
use Rattle.std.proofs.Common.{◌≡◌, ◌+◌, ℕ, true, false, cond, Bool, List, [], ◌∷◌, ◌++◌, length, refl, sym, ap, ◌∙◌, arith}
use Rattle.std.specs.List.{sum_by, flat_map, filter}
use Rattle.std.proofs.lemmas.List.Sums.{sum_by-cons, sum_by-append}
use Rattle.std.proofs.lemmas.List.Concat.{length-flat_map}
use Rattle.std.proofs.lemmas.Grind.{flat_map-append}
use Rattle.std.proofs.lemmas.List.Sorted.{sum_by-IsPermutation}
use Rattle.flume_value.specs.declared.value.Value.{Value}
use Rattle.flume_value.specs.Order.{value_cmp}
use Rattle.std.specs.Ordering.{is_eq}
use Rattle.flume_value.specs.Bag.{bag_of}
use Rattle.flume_value.proofs.BagLemmas.{bag_of-times, IsPermutation-bag_of}

abbrev pub Alike : {X : Type 0} → List X → List X → Type 0
Alike {X} xs ys = (w : X → ℕ) → sum_by w xs ≡ sum_by w ys

pub alike_is : {X : Type 0} (xs ys : List X) → xs ≡ ys → Alike xs ys
alike_is xs ys e w = ap (sum_by w) e

pub alike_back : {X : Type 0} (xs ys : List X) → Alike xs ys → Alike ys xs
alike_back xs ys h w = sym (h w)

pub alike_then : {X : Type 0} (xs ys zs : List X) → Alike xs ys → Alike ys zs → Alike xs zs
alike_then xs ys zs g h w = g w ∙ h w

pub alike_append : {X : Type 0} (xs ys us vs : List X) → Alike xs ys → Alike us vs
    → Alike (xs ++ us) (ys ++ vs)
alike_append xs ys us vs g h w =
    omega (arith, g w, h w, sum_by-append w xs us, sum_by-append w ys vs)

-- ---- bags
pub alike_bag : (xs : List Value) → Alike (bag_of xs) xs
alike_bag xs w = sum_by-IsPermutation w xs (bag_of xs) (IsPermutation-bag_of xs)

pub bag_alike : (xs ys : List Value) → Alike xs ys → bag_of xs ≡ bag_of ys
bag_alike xs ys h = bag_of-times xs ys (λ v. h (λ x. cond (is_eq (value_cmp x v)) 1 0))

-- ---- flat_map
sum_by-flat_map : {X Y : Type 0} (w : Y → ℕ) (f : X → List Y) (xs : List X)
    → sum_by w (flat_map f xs) ≡ sum_by (λ x. sum_by w (f x)) xs
sum_by-flat_map w f [] = refl
sum_by-flat_map w f (x ∷ xs) =
    let first = sum_by-append w (f x) (flat_map f xs) in
    omega (arith, first, sum_by-flat_map w f xs, sum_by-cons (λ y. sum_by w (f y)) x xs)

sum_by-same : {X : Type 0} (f g : X → ℕ) → ((x : X) → f x ≡ g x) → (xs : List X)
    → sum_by f xs ≡ sum_by g xs
sum_by-same f g h xs = λ i. sum_by (λ x. h x i) xs

sum_by-plus : {X : Type 0} (f g : X → ℕ) (xs : List X)
    → sum_by (λ x. f x + g x) xs ≡ sum_by f xs + sum_by g xs
sum_by-plus f g [] = refl
sum_by-plus f g (x ∷ xs) =
    let both = sum_by-cons (λ y. f y + g y) x xs in
    omega (arith, sum_by-plus f g xs, sum_by-cons f x xs, sum_by-cons g x xs, both)

-- the same function of lists that are alike
pub alike_flat_map : {X Y : Type 0} (f : X → List Y) (xs ys : List X) → Alike xs ys
    → Alike (flat_map f xs) (flat_map f ys)
alike_flat_map f xs ys h w =
    sum_by-flat_map w f xs ∙ h (λ x. sum_by w (f x)) ∙ sym (sum_by-flat_map w f ys)

-- two functions that give alike lists
pub alike_each : {X Y : Type 0} (f g : X → List Y) → ((x : X) → Alike (f x) (g x)) → (xs : List X)
    → Alike (flat_map f xs) (flat_map g xs)
alike_each f g h xs w =
    sum_by-flat_map w f xs
    ∙ sum_by-same (λ x. sum_by w (f x)) (λ x. sum_by w (g x)) (λ x. h x w) xs
    ∙ sym (sum_by-flat_map w g xs)

-- what two functions give side by side, or one after the other
pub alike_both : {X Y : Type 0} (f g : X → List Y) (xs : List X)
    → Alike (flat_map (λ x. f x ++ g x) xs) (flat_map f xs ++ flat_map g xs)
alike_both f g xs w =
    let parts = sum_by-append w (flat_map f xs) (flat_map g xs) in
    sum_by-flat_map w (λ x. f x ++ g x) xs
    ∙ sum_by-same (λ x. sum_by w (f x ++ g x)) (λ x. sum_by w (f x) + sum_by w (g x))
    (λ x. sum_by-append w (f x) (g x)) xs
    ∙ sum_by-plus (λ x. sum_by w (f x)) (λ x. sum_by w (g x)) xs
    ∙ omega (arith, parts, sum_by-flat_map w f xs, sum_by-flat_map w g xs)

pub flat_map-flat_map : {X Y Z : Type 0} (g : Y → List Z) (f : X → List Y) (xs : List X)
    → flat_map g (flat_map f xs) ≡ flat_map (λ x. flat_map g (f x)) xs
flat_map-flat_map g f [] = refl
flat_map-flat_map g f (x ∷ xs) =
    flat_map-append g (f x) (flat_map f xs)
    ∙ ap (λ l. flat_map g (f x) ++ l) (flat_map-flat_map g f xs)

pub flat_map-nothing : {X Y : Type 0} (xs : List X) → flat_map {X = X} {A = Y} (λ x. []) xs ≡ []
flat_map-nothing [] = refl
flat_map-nothing (x ∷ xs) = flat_map-nothing xs

pub flat_map-itself : {X : Type 0} (xs : List X) → flat_map (λ x. x ∷ []) xs ≡ xs
flat_map-itself [] = refl
flat_map-itself (x ∷ xs) = ap (λ l. x ∷ l) (flat_map-itself xs)

pub flat_map-filter : {X Y : Type 0} (f : X → List Y) (t : X → Bool) (xs : List X)
    → flat_map f (filter t xs) ≡ flat_map (λ x. cond (t x) (f x) []) xs
flat_map-filter f t [] = refl
flat_map-filter f t (x ∷ xs) =
    elim (t x) as
    (λ b. flat_map f (cond b (x ∷ filter t xs) (filter t xs))
    ≡ cond b (f x) [] ++ flat_map (λ y. cond (t y) (f y) []) xs) [
      | true ↦ ap (λ l. f x ++ l) (flat_map-filter f t xs)
      | false ↦ flat_map-filter f t xs
    ]

-- ---- empty lists, and lengths
pub append_empty : {X : Type 0} (xs ys : List X) → xs ++ ys ≡ [] → (xs ≡ []) × (ys ≡ [])
append_empty [] ys e = (refl, e)
append_empty (x ∷ xs) ys e = cc

pub alike_length : {X : Type 0} (xs ys : List X) → Alike xs ys → length xs ≡ length ys
alike_length xs ys h =
    ap length (sym (flat_map-itself xs)) ∙ length-flat_map (λ x. x ∷ []) xs ∙ h (λ x. 1)
    ∙ sym (length-flat_map (λ x. x ∷ []) ys) ∙ ap length (flat_map-itself ys)

pub alike_empty : {X : Type 0} (xs ys : List X) → Alike xs ys → xs ≡ [] → ys ≡ []
alike_empty xs [] h e = refl
alike_empty xs (y ∷ ys) h e = absurd (omega (arith, alike_length xs (y ∷ ys) h, ap length e))
