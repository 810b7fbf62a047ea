-- The members of a list that is put into a set, and sets with the same members.
use Rattle.std.proofs.Common.{◌≡◌, ◌↔◌, ℕ, zero, suc, ◌<◌, Bool, true, false, cond, List, [], ◌∷◌, ◌++◌, length, slice_index_or, inl, inr, ◌⊎◌, refl, sym, ap, ◌∙◌, subst, arith}
use Rattle.std.specs.List.{Contains}
use Rattle.flume_collection.specs.Sets.{IsOrder, put_new, gather, set_of}
use Rattle.flume_collection.proofs.Bagging.{gather-append, gather-gather, new_same, new_swaps, set-gathered}

-- ---- members of lists
pub at_head : {X : Type 0} (x : X) (xs : List X) → Contains (x ∷ xs) x
at_head x xs = (0, omega arith, refl)

pub at_tail : {X : Type 0} (y : X) (xs : List X) (x : X) → Contains xs x → Contains (y ∷ xs) x
at_tail y xs x at = (suc at.0, (let below = at.1 in omega arith), at.2)

split_at : {X : Type 0} (y : X) (xs : List X) (x : X) (k : ℕ) → k < suc (length xs)
    → slice_index_or (y ∷ xs) k x ≡ x → (y ≡ x) ⊎ Contains xs x
split_at y xs x zero l e = inl e
split_at y xs x (suc k) l e = inr (k, omega arith, e)

pub head_or_tail : {X : Type 0} (y : X) (xs : List X) (x : X) → Contains (y ∷ xs) x
    → (y ≡ x) ⊎ Contains xs x
head_or_tail y xs x at = split_at y xs x at.0 at.1 at.2

pub not_in_none : {X : Type 0} (x : X) → Contains [] x → ⊥
not_in_none x at = let below = at.1 in absurd (omega arith)

-- ---- members of sets
put_from : {X : Type 0} (le : X → X → Bool) (x : X) (ys : List X) (t : X)
    → Contains (put_new le x ys) t → (x ≡ t) ⊎ Contains ys t
put_from le x [] t h = head_or_tail x [] t h
put_from le x (y ∷ ys) t h = by (put_from le x ys t) (le x y) (le y x) h
  where
    by : (Contains (put_new le x ys) t → (x ≡ t) ⊎ Contains ys t) → (r s : Bool)
        → Contains (cond r (cond s (y ∷ ys) (x ∷ (y ∷ ys))) (y ∷ put_new le x ys)) t
        → (x ≡ t) ⊎ Contains (y ∷ ys) t
    by f true true i = inr i
    by f true false i = head_or_tail x (y ∷ ys) t i
    by f false s i = elim (head_or_tail y (put_new le x ys) t i) [
      | inl e ↦ inr (subst (Contains (y ∷ ys)) e (at_head y ys))
      | inr j ↦ elim (f j) [
        | inl e ↦ inl e
        | inr k ↦ inr (at_tail y ys t k)
      ]
    ]

put_keeps : {X : Type 0} (le : X → X → Bool) (x : X) (ys : List X) (t : X)
    → Contains ys t → Contains (put_new le x ys) t
put_keeps le x [] t h = absurd (not_in_none t h)
put_keeps le x (y ∷ ys) t h = by (put_keeps le x ys t) (le x y) (le y x)
  where
    by : (Contains ys t → Contains (put_new le x ys) t) → (r s : Bool)
        → Contains (cond r (cond s (y ∷ ys) (x ∷ (y ∷ ys))) (y ∷ put_new le x ys)) t
    by f true true = h
    by f true false = at_tail x (y ∷ ys) t h
    by f false s = elim (head_or_tail y ys t h) [
      | inl e ↦ subst (Contains (y ∷ put_new le x ys)) e (at_head y (put_new le x ys))
      | inr k ↦ at_tail y (put_new le x ys) t (f k)
    ]

put_has : {X : Type 0} (le : X → X → Bool) → IsOrder le → (x : X) (ys : List X)
    → Contains (put_new le x ys) x
put_has le o x [] = at_head x []
put_has le o x (y ∷ ys) = by (put_has le o x ys) (le x y) (le y x) refl refl
  where
    by : Contains (put_new le x ys) x → (r s : Bool) → le x y ≡ r → le y x ≡ s
        → Contains (cond r (cond s (y ∷ ys) (x ∷ (y ∷ ys))) (y ∷ put_new le x ys)) x
    by f true true e g =
        subst (Contains (y ∷ ys)) (sym (o.anti x y e g)) (at_head y ys)
    by f true false e g = at_head x (y ∷ ys)
    by f false s e g = at_tail y (put_new le x ys) x f

from_set : {X : Type 0} (le : X → X → Bool) (xs : List X) (t : X) → Contains (set_of le xs) t
    → Contains xs t
from_set le [] t h = h
from_set le (x ∷ xs) t h = elim (put_from le x (set_of le xs) t h) [
  | inl e ↦ subst (Contains (x ∷ xs)) e (at_head x xs)
  | inr i ↦ at_tail x xs t (from_set le xs t i)
]

in_set : {X : Type 0} (le : X → X → Bool) → IsOrder le → (xs : List X) (t : X) → Contains xs t
    → Contains (set_of le xs) t
in_set le o [] t h = h
in_set le o (x ∷ xs) t h = elim (head_or_tail x xs t h) [
  | inl e ↦ subst (Contains (put_new le x (set_of le xs))) e (put_has le o x (set_of le xs))
  | inr i ↦ put_keeps le x (set_of le xs) t (in_set le o xs t i)
]

-- a set has the members of its list
pub set_members : {X : Type 0} (le : X → X → Bool) → IsOrder le → (xs : List X) (t : X)
    → Contains (set_of le xs) t ↔ Contains xs t
set_members le o xs t = (from_set le xs t, in_set le o xs t)

-- ---- what is there already adds nothing
put_known : {X : Type 0} (le : X → X → Bool) → IsOrder le → (t : X) (xs : List X) → Contains xs t
    → put_new le t (set_of le xs) ≡ set_of le xs
put_known le o t [] h = absurd (not_in_none t h)
put_known le o t (x ∷ xs) h = elim (head_or_tail x xs t h) [
  | inl e ↦ ap (λ (u : _). put_new le u (set_of le (x ∷ xs))) (sym e)
      ∙ new_same le o x (set_of le xs)
  | inr i ↦ new_swaps le o t x (set_of le xs) ∙ ap (put_new le x) (put_known le o t xs i)
]

gather_known : {X : Type 0} (le : X → X → Bool) → IsOrder le → (ys xs : List X)
    → ((t : X) → Contains ys t → Contains xs t) → gather (put_new le) ys (set_of le xs)
    ≡ set_of le xs
gather_known le o [] xs h = refl
gather_known le o (y ∷ ys) xs h =
    ap (put_new le y) (gather_known le o ys xs (λ t i. h t (at_tail y ys t i)))
    ∙ put_known le o y xs (h y (at_head y ys))

pub set_known : {X : Type 0} (le : X → X → Bool) → IsOrder le → (xs ys : List X)
    → ((t : X) → Contains ys t → Contains xs t) → set_of le (xs ++ ys) ≡ set_of le xs
set_known le o xs ys h =
    gather-append (put_new le) xs ys []
    ∙ gather-gather (put_new le) (new_swaps le o) xs ys [] ∙ gather_known le o ys xs h

pub set_sum : {X : Type 0} (le : X → X → Bool) → IsOrder le → (xs ys : List X)
    → set_of le (xs ++ set_of le ys) ≡ set_of le (xs ++ ys)
set_sum le o xs ys =
    gather-append (put_new le) xs (set_of le ys) []
    ∙ ap (gather (put_new le) xs) (set-gathered le o ys [])
    ∙ sym (gather-append (put_new le) xs ys [])

-- lists with the same members have one set
pub same_set : {X : Type 0} (le : X → X → Bool) → IsOrder le → (xs ys : List X)
    → ((t : X) → Contains xs t ↔ Contains ys t) → set_of le xs ≡ set_of le ys
same_set le o xs ys h =
    sym (gather_known le o ys xs (λ t. (h t).1))
    ∙ gather-gather (put_new le) (new_swaps le o) ys xs []
    ∙ gather_known le o xs ys (λ t. (h t).0)

pub one_set : {X : Type 0} (le : X → X → Bool) → IsOrder le → (xs ys : List X)
    → set_of le xs ≡ set_of le ys → (t : X) → Contains xs t ↔ Contains ys t
one_set le o xs ys e t = (
  λ h. from_set le ys t (subst (λ s. Contains s t) e (in_set le o xs t h)),
  λ h. from_set le xs t (subst (λ s. Contains s t) (sym e) (in_set le o ys t h)),
)

pub no_members : {X : Type 0} (le : X → X → Bool) → IsOrder le → (xs : List X) → set_of le xs ≡ []
    → xs ≡ []
no_members le o [] e = refl
no_members le o (x ∷ xs) e =
    absurd (not_in_none x (subst (λ s. Contains s x) e (put_has le o x (set_of le xs))))
