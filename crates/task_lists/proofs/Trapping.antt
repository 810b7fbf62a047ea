-- A trap of a list is one of any list with the same members.
use Rattle.std.proofs.Common.{◌≡◌, ◌<◌, ◌+◌, ℕ, true, false, cond, List, [], ◌∷◌, ◌++◌, Some, refl, ap, ◌∙◌, subst, arith, inl, inr}
use Rattle.std.specs.List.{sum_by, slice_get, flat_map, Contains}
use Rattle.std.specs.Ordering.{is_eq}
use Rattle.std.specs.Cmp.{Equal-is}
use Rattle.std.proofs.lemmas.Cmp.{tied_itself}
use Rattle.std.proofs.lemmas.List.Sums.{sum_by-cons}
use Rattle.std.proofs.lemmas.List.Elements.{Contains-append_left, Contains-append_right, Contains-append_cases}
use Rattle.flume_collection.specs.declared.trap.Trap.{Trap}
use Rattle.flume_collection.specs.Traps.{trap_cmp}
use Rattle.flume_collection.proofs.Members.{at_head, at_tail, head_or_tail, not_in_none}
use Rattle.flume_collection.proofs.Orders.{trap_cmp-total, trap_cmp-IsAntisymmetric}
use Rattle.shards.proofs.Alike.{Alike}

abbrev weight : Trap → Trap → ℕ
weight e x = cond (is_eq (trap_cmp x e)) 1 0

weight_itself : (e : Trap) → weight e e ≡ 1
weight_itself e = ap (λ r. cond (is_eq r) 1 0) (tied_itself trap_cmp-total e)

counted : (e : Trap) (xs : List Trap) → Contains xs e → 0 < sum_by (weight e) xs
counted e [] h = absurd (not_in_none e h)
counted e (x ∷ xs) h =
    let more = sum_by-cons (weight e) x xs in
    elim (head_or_tail x xs e h) [
      | inl is ↦ let one : weight e x ≡ 1 = ap (weight e) is ∙ weight_itself e in
          omega (arith, more, one)
      | inr rest ↦ omega (arith, more, counted e xs rest)
    ]

found : (e : Trap) (xs : List Trap) → 0 < sum_by (weight e) xs → Contains xs e
found e [] h = absurd (omega arith)
found e (x ∷ xs) h =
    elim (is_eq (trap_cmp x e)) as
    (λ b. is_eq (trap_cmp x e) ≡ b → 0 < cond b 1 0 + sum_by (weight e) xs → Contains (x ∷ xs) e) [
      | true ↦ λ is more. subst (Contains (x ∷ xs))
          (trap_cmp-IsAntisymmetric x e ((Equal-is (trap_cmp x e)).0 is)) (at_head x xs)
      | false ↦ λ is more. at_tail x xs e (found e xs (omega arith))
    ] refl (subst (λ n. 0 < n) (sum_by-cons (weight e) x xs) h)

pub first_in : (e : Trap) (xs : List Trap) → slice_get xs 0 ≡ Some e → Contains xs e
first_in e [] h = cc
first_in e (x ∷ xs) h = let is : x ≡ e = cc in subst (Contains (x ∷ xs)) is (at_head x xs)

-- the first of a list is one of any list with the same members
pub first_among : (e : Trap) (xs ys : List Trap) → Alike xs ys → slice_get xs 0 ≡ Some e
    → Contains ys e
first_among e xs ys h first =
    found e ys (subst (λ n. 0 < n) (h (weight e)) (counted e xs (first_in e xs first)))

-- the first of two lists together is in the first, or in the second where the first is empty
pub first_of_both : (e : Trap) (xs ys us vs : List Trap)
    → ((f : Trap) → slice_get xs 0 ≡ Some f → Contains us f)
    → (xs ≡ [] → (f : Trap) → slice_get ys 0 ≡ Some f → Contains vs f)
    → slice_get (xs ++ ys) 0 ≡ Some e → Contains (us ++ vs) e
first_of_both e [] ys us vs g h first = Contains-append_right us vs e (h refl e first)
first_of_both e (x ∷ xs) ys us vs g h first = Contains-append_left us vs e (g e first)

pub contains_both : {X : Type 0} (e : X) (xs ys us vs : List X) → (Contains xs e → Contains us e)
    → (Contains ys e → Contains vs e) → Contains (xs ++ ys) e → Contains (us ++ vs) e
contains_both e xs ys us vs g h c =
    elim (Contains-append_cases xs ys e c) [
      | inl a ↦ Contains-append_left us vs e (g a)
      | inr b ↦ Contains-append_right us vs e (h b)
    ]

pub contains_each : {X Y : Type 0} (e : Y) (f g : X → List Y)
    → ((x : X) → Contains (f x) e → Contains (g x) e) → (xs : List X)
    → Contains (flat_map f xs) e → Contains (flat_map g xs) e
contains_each e f g h [] c = c
contains_each e f g h (x ∷ xs) c =
    contains_both e (f x) (flat_map f xs) (g x) (flat_map g xs) (h x) (contains_each e f g h xs) c
