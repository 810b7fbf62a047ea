-- Sets of traps are ascending lists, their first is the least, and sorting makes them.
use Rattle.std.proofs.Common.{◌≡◌, get_or, Bool, true, false, not, cond, List, [], ◌∷◌, refl, sym, ap, ◌∙◌, subst}
use Rattle.std.specs.Prelude.{All}
use Rattle.std.specs.List.{AllByRecursion as Each, Contains, dedup}
use Rattle.std.specs.List.Sorted.{IsSorted, IsPermutation, IsStrictlySortedBy}
use Rattle.std.specs.declared.cmp.Ordering.{Ordering}
use Rattle.std.specs.declared.cmp.Ordering.TheVariants.{Less, Equal, Greater}
use Rattle.std.specs.Ordering.{eq_by_cmp, is_lt}
use Rattle.std.specs.Cmp.{Equal-is}
use Rattle.std.proofs.lemmas.List.Elements.{All-from_recursion, All-contains, Contains-get_or}
use Rattle.std.proofs.lemmas.List.Kept.{IsStrictlySortedBy-dedup, Contains-dedup, Contains-from_dedup}
use Rattle.std.proofs.lemmas.List.Sorted.{Contains-permutation, IsPermutation-sym}
use Rattle.std.proofs.lemmas.Cmp.{eq_by_cmp_equiv, tied_itself}
use Rattle.flume_value.proofs.EachLemmas.{Each-weaker}
use Rattle.flume_collection.specs.declared.trap.Trap.{Trap}
use Rattle.flume_collection.specs.Sets.{put_new}
use Rattle.flume_collection.specs.Traps.{IsLeast, trap_cmp, trap_le, trap_set}
use Rattle.flume_collection.proofs.Orders.{tied, trap_cmp-total, trap_cmp-IsAntisymmetric, trap_order}
use Rattle.flume_collection.proofs.Members.{at_head, no_members, same_set, set_members}

-- ---- ascending
abbrev Before : Trap → Trap → Type 0
Before a b = trap_cmp a b ≡ Less

before : (a b : Trap) → trap_le a b ≡ true → trap_le b a ≡ false → Before a b
before a b e f = is_less (trap_cmp a b) f
  where
    is_less : (r : Ordering) → not (is_lt r) ≡ false → r ≡ Less
    is_less Less h = refl
    is_less Equal h = cc
    is_less Greater h = cc

not_le : (a b : Trap) → trap_le a b ≡ false → Before b a
not_le a b e = is_less (trap_cmp b a) e
  where
    is_less : (r : Ordering) → not (is_lt r) ≡ false → r ≡ Less
    is_less Less h = refl
    is_less Equal h = cc
    is_less Greater h = cc

each_put : (P : Trap → Type 0) (t : Trap) (ts : List Trap) → P t → Each P ts
    → Each P (put_new trap_le t ts)
each_put P t [] p a = (p, tt)
each_put P t (u ∷ us) p a = by (each_put P t us p a.1) (trap_le t u) (trap_le u t)
  where
    by : Each P (put_new trap_le t us) → (r s : Bool)
        → Each P (cond r (cond s (u ∷ us) (t ∷ (u ∷ us))) (u ∷ put_new trap_le t us))
    by f true true = a
    by f true false = (p, a)
    by f false s = (a.0, f)

put_rises : (t : Trap) (ts : List Trap) → IsStrictlySortedBy trap_cmp ts
    → IsStrictlySortedBy trap_cmp (put_new trap_le t ts)
unfolding IsStrictlySortedBy
put_rises t [] a = (tt, tt)
put_rises t (u ∷ us) a = by (put_rises t us a.1) (trap_le t u) (trap_le u t) refl refl
  where
    by : IsStrictlySortedBy trap_cmp (put_new trap_le t us) → (r s : Bool) → trap_le t u ≡ r
        → trap_le u t ≡ s → IsStrictlySortedBy trap_cmp
        (cond r (cond s (u ∷ us) (t ∷ (u ∷ us))) (u ∷ put_new trap_le t us))
    by f true true e g = a
    by f true false e g = (
      (
        before t u e g,
        Each-weaker (Before u) (Before t)
            (λ x h. trap_cmp-total.trans t u x (before t u e g) h) us a.0,
      ),
      a,
    )
    by f false s e g = (each_put (Before u) t us (not_le t u e) a.0, f)

pub set_rises : (ts : List Trap) → IsStrictlySortedBy trap_cmp (trap_set ts)
unfolding IsStrictlySortedBy
set_rises [] = tt
set_rises (t ∷ ts) = put_rises t (trap_set ts) (set_rises ts)

-- an ascending list is its set
above_is : (a b : Trap) → Before a b → trap_le b a ≡ false
above_is a b e = ap (λ r. not (is_lt r)) e

below_is : (a b : Trap) → Before a b → trap_le a b ≡ true
below_is a b e = by (trap_le a b) refl
  where
    by : (r : Bool) → trap_le a b ≡ r → r ≡ true
    by true h = refl
    by false h = let i = trap_order.total a b h in let j = above_is a b e in cc

put_first : (t : Trap) (ts : List Trap) → Each (Before t) ts → put_new trap_le t ts ≡ t ∷ ts
put_first t [] a = refl
put_first t (u ∷ us) a = rw (below_is t u a.0, above_is t u a.0) refl

pub set_settled : (ts : List Trap) → IsStrictlySortedBy trap_cmp ts → trap_set ts ≡ ts
unfolding IsStrictlySortedBy
set_settled [] a = refl
set_settled (t ∷ ts) a = ap (put_new trap_le t) (set_settled ts a.1) ∙ put_first t ts a.0

-- ---- the least
not_before_itself : (t : Trap) → is_lt (trap_cmp t t) ≡ false
not_before_itself t = ap is_lt (tied_itself trap_cmp-total t)

one_way : (t u : Trap) → Before t u → is_lt (trap_cmp u t) ≡ false
one_way t u e = by (is_lt (trap_cmp u t)) refl
  where
    by : (r : Bool) → is_lt (trap_cmp u t) ≡ r → r ≡ false
    by true h = let i = below_is t u e in cc
    by false h = refl

pub first_least : (ts us : List Trap) (t : Trap) → trap_set ts ≡ t ∷ us → IsLeast ts t
unfolding IsStrictlySortedBy
first_least ts us t e =
    let rises : IsStrictlySortedBy trap_cmp (t ∷ us) =
    subst (IsStrictlySortedBy trap_cmp) e (set_rises ts) in
    let none : All (λ u. is_lt (trap_cmp u t) ≡ false) (t ∷ us) =
    All-from_recursion (λ u. is_lt (trap_cmp u t) ≡ false) (t ∷ us) (
      not_before_itself t,
      Each-weaker (Before t) (λ u. is_lt (trap_cmp u t) ≡ false) (one_way t) us rises.0,
    ) in (
      (set_members trap_le trap_order ts t).0 (subst (λ s. Contains s t) (sym e) (at_head t us)),
      λ k d l. All-contains (λ u. is_lt (trap_cmp u t) ≡ false) (t ∷ us) (get_or ts k d) none
          (subst (λ s. Contains s (get_or ts k d)) e
          ((set_members trap_le trap_order ts (get_or ts k d)).1 (Contains-get_or ts k d l))),
    )

pub one_least : (ts : List Trap) (a b : Trap) → IsLeast ts a → IsLeast ts b → a ≡ b
one_least ts a b first second =
    tied trap_cmp trap_cmp-total trap_cmp-IsAntisymmetric a b
    (All-contains (λ u. is_lt (trap_cmp u a) ≡ false) ts b first.1 second.0)
    (All-contains (λ u. is_lt (trap_cmp u b) ≡ false) ts a second.1 first.0)

pub some_least : (t : Trap) (ts : List Trap) → (least : Trap) × IsLeast (t ∷ ts) least
some_least t ts = by (trap_set (t ∷ ts)) refl
  where
    by : (s : List Trap) → trap_set (t ∷ ts) ≡ s → (least : Trap) × IsLeast (t ∷ ts) least
    by [] e =
        let none = no_members trap_le trap_order (t ∷ ts) e in
        let bad : ⊥ = cc in absurd bad
    by (u ∷ us) e = (u, first_least (t ∷ ts) us u e)

-- ---- a sorted list without repeats
eq_exact : (a b : Trap) → eq_by_cmp trap_cmp a b ≡ true → a ≡ b
eq_exact a b e = trap_cmp-IsAntisymmetric a b ((Equal-is (trap_cmp a b)).0 e)

pub set_dedup : (ts us : List Trap) → IsPermutation ts us → IsSorted trap_cmp us
    → dedup (eq_by_cmp trap_cmp) us ≡ trap_set ts
set_dedup ts us moved sorted =
    let once : List Trap = dedup (eq_by_cmp trap_cmp) us in
    sym (set_settled once
    (IsStrictlySortedBy-dedup trap_cmp-total (λ a b. refl) us sorted))
    ∙ same_set trap_le trap_order once ts (λ t. (
      λ h. Contains-permutation us ts t (IsPermutation-sym ts us moved)
          (Contains-from_dedup (eq_by_cmp trap_cmp) us t h),
      λ h. Contains-dedup (eq_by_cmp_equiv trap_cmp-total) eq_exact us t
          (Contains-permutation ts us t moved h),
    ))
