-- The last of two ascending lists' members.
use Rattle.std.proofs.Common.{◌≡◌, ℕ, ◌-◌, ◌<◌, true, List, [], ◌∷◌, ◌++◌, length, Option, None, Some, IsSome, ◌↔◌, refl, sym, ap, ◌∙◌, subst, suc, arith, append_assoc}
use Rattle.std.specs.Prelude.{slice_get}
use Rattle.std.specs.Option.{option_to_list}
use Rattle.std.specs.Ordering.{is_lt}
use Rattle.std.specs.List.Sorted.{IsSorted}
use Rattle.std.proofs.lemmas.List.Sorted.{IsPermutation-append_left}
use Rattle.flume_value.specs.declared.value.Value.{Value}
use Rattle.flume_value.specs.Order.{value_cmp}
use Rattle.flume_value.specs.Bag.{bag_of}
use Rattle.flume_value.proofs.OrderLemmas.{value_cmp-same}
use Rattle.std.specs.List.{AllByRecursion as Each}
use Rattle.flume_value.proofs.EachLemmas.{Each-append, Each-at, Each-left, Each-weaker}
use Rattle.flume_value.proofs.RisesLemmas.{Rises-left}
use Rattle.flume_value.proofs.BagLemmas.{NotBelow, Rises, Each-bag_of, NotBelow-trans, ranks, rises_from, sorted_from, Rises-bag_of, bag_of-settled, bag_of-sorted, bag_of-either_order, IsPermutation-bag_of}

-- no member is above y
abbrev pub UpTo : Value → List Value → Type 0
UpTo y = Each (λ x. NotBelow x y)

Each-last : (P : Value → Type 0) (xs : List Value) (y : Value) → Each P (xs ++ y ∷ []) → P y
Each-last P [] y e = e.0
Each-last P (x ∷ xs) y e = Each-last P xs y e.1

Rises-push : (xs : List Value) (y : Value) → Rises xs → UpTo y xs → Rises (xs ++ y ∷ [])
Rises-push [] y r u = (tt, tt)
Rises-push (x ∷ xs) y r u = (
  Each-append (NotBelow x) xs (y ∷ []) r.0 (u.0, tt),
  Rises-push xs y r.1 u.1,
)

NotBelow-same : (x : Value) → NotBelow x x
NotBelow-same x = ap is_lt (value_cmp-same x)

-- the last of a list that rises is above none
UpTo-last : (xs : List Value) (y : Value) → Rises (xs ++ y ∷ []) → UpTo y (xs ++ y ∷ [])
UpTo-last [] y r = (NotBelow-same y, tt)
UpTo-last (x ∷ xs) y r = (Each-last (NotBelow x) xs y r.0, UpTo-last xs y r.1)

-- a member that is below none comes last in the bag
bag_of-push_greatest : (xs : List Value) (y : Value) → UpTo y xs → bag_of (xs ++ y ∷ [])
    ≡ bag_of xs ++ y ∷ []
bag_of-push_greatest xs y u =
    sym (bag_of-sorted (xs ++ y ∷ []) (bag_of xs ++ y ∷ [])
    (IsPermutation-append_left (y ∷ []) xs (bag_of xs) (IsPermutation-bag_of xs))
    (sorted_from (bag_of xs ++ y ∷ [])
    (Rises-push (bag_of xs) y (Rises-bag_of xs) (Each-bag_of (λ x. NotBelow x y) xs u))))

UpTo-higher : (x y : Value) (xs : List Value) → NotBelow x y → UpTo x xs → UpTo y xs
UpTo-higher x y xs h u = Each-weaker (λ z. NotBelow z x) (λ z. NotBelow z y)
    (λ z k. NotBelow-trans z x y k h) xs u

-- the greatest member of the two, y, is the last of the right one
popped_right : (xs ys : List Value) (x y : Value) → UpTo x xs → Rises (ys ++ y ∷ [])
    → NotBelow x y → bag_of (xs ++ (ys ++ y ∷ [])) ≡ bag_of (xs ++ ys) ++ y ∷ []
popped_right xs ys x y u r h =
    ap bag_of (sym (append_assoc xs ys (y ∷ [])))
    ∙ bag_of-push_greatest (xs ++ ys) y
    (Each-append (λ z. NotBelow z y) xs ys (UpTo-higher x y xs h u)
    (Each-left (λ z. NotBelow z y) ys (y ∷ []) (UpTo-last ys y r)))

-- ---- as the calls of `last` and `pop` tell it: d is what `last` saw of xs, ys and r what `pop`
-- left and gave

UpTo-at_last : (xs : List Value) (x : Value) → Rises xs → Some x ≡ slice_get xs (length xs - 1)
    → UpTo x xs
UpTo-at_last [] x r h = tt
UpTo-at_last (y ∷ []) x r h = let same : y
    ≡ x = cc in (subst (NotBelow y) same (NotBelow-same y), tt)
UpTo-at_last (y ∷ z ∷ zs) x r h =
    let at : length (y ∷ z ∷ zs) - 1 ≡ suc (length (z ∷ zs) - 1) = omega arith in
    let rest = subst (λ n. Some x ≡ slice_get (y ∷ z ∷ zs) n) at h in (
      Each-at (NotBelow y) (z ∷ zs) (length (z ∷ zs) - 1) x r.0 rest,
      UpTo-at_last (z ∷ zs) x r.1 rest,
    )

pub upto_last : (d xs : List Value) (x : Value) → IsSorted value_cmp xs → d ≡ xs → Some x
    ≡ slice_get d (length d - 1) → UpTo x xs
upto_last d xs x up e h = UpTo-at_last xs x (rises_from xs up)
    (subst (λ l. Some x ≡ slice_get l (length l - 1)) e h)

slice_get-last : (ys : List Value) (y : Value)
    → slice_get (ys ++ y ∷ []) (length (ys ++ y ∷ []) - 1) ≡ Some y
slice_get-last [] y = refl
slice_get-last (x ∷ []) y = refl
slice_get-last (x ∷ z ∷ zs) y =
    let at : length (x ∷ ((z ∷ zs) ++ y ∷ [])) - 1
    ≡ suc (length ((z ∷ zs) ++ y ∷ []) - 1) = omega arith in
    ap (slice_get (x ∷ ((z ∷ zs) ++ y ∷ []))) at ∙ slice_get-last (z ∷ zs) y

slice_get-nonempty : (d : List Value) (x : Value) → Some x ≡ slice_get d (length d - 1)
    → 0 < length d
slice_get-nonempty [] x h = cc
slice_get-nonempty (y ∷ ys) x h = omega arith

pub popped_last : (d xs ys : List Value) (n : ℕ) (r : Option Value) (x : Value) → d ≡ xs → length d
    ≡ n → Some x ≡ slice_get d (length d - 1) → xs ≡ ys ++ option_to_list r → IsSome r ↔ (0 < n) → r
    ≡ Some x
popped_last d xs ys n None x e len h popped some = let nonempty = slice_get-nonempty d x h in
    let given = some.1 (omega arith) in cc
popped_last d xs ys n (Some y) x e len h popped some =
    let l = e ∙ popped in
    let at = subst (λ l. Some x ≡ slice_get l (length l - 1)) l h in
    sym (at ∙ slice_get-last ys y)

pub right_greatest : (xs rs rs' : List Value) (x y : Value) (r : Option Value) → UpTo x xs
    → IsSorted value_cmp rs → rs ≡ rs' ++ option_to_list r → r ≡ Some y → NotBelow x y
    → bag_of (xs ++ rs) ≡ bag_of (xs ++ rs') ++ option_to_list r
right_greatest xs rs rs' x y r u up e some h =
    let last = e ∙ ap (λ o. rs' ++ option_to_list o) some in
    ap (λ l. bag_of (xs ++ l)) last
    ∙ popped_right xs rs' x y u (subst Rises last (rises_from rs up)) h
    ∙ sym (ap (λ o. bag_of (xs ++ rs') ++ option_to_list o) some)

pub left_greatest : (ls ls' ys : List Value) (x y : Value) (r : Option Value) → UpTo y ys
    → IsSorted value_cmp ls → ls ≡ ls' ++ option_to_list r → r ≡ Some x → NotBelow y x
    → bag_of (ls ++ ys) ≡ bag_of (ls' ++ ys) ++ option_to_list r
left_greatest ls ls' ys x y r u up e some h =
    bag_of-either_order ys ls ∙ right_greatest ys ls ls' y x r u up e some h
    ∙ ap (λ b. b ++ option_to_list r) (bag_of-either_order ls' ys)

popped-IsSorted : (xs ys : List Value) (r : Option Value) → IsSorted value_cmp xs → xs
    ≡ ys ++ option_to_list r → IsSorted value_cmp ys
popped-IsSorted xs ys r up e =
    sorted_from ys (Rises-left ys (option_to_list r) (subst Rises e (rises_from xs up)))

none_empty : (d : List Value) → None ≡ slice_get d (length d - 1) → d ≡ []
none_empty [] h = refl
none_empty (x ∷ []) h = cc
none_empty (x ∷ y ∷ ys) h =
    let at : length (x ∷ y ∷ ys) - 1 ≡ suc (length (y ∷ ys) - 1) = omega arith in
    let rest = subst (λ n. None ≡ slice_get (x ∷ y ∷ ys) n) at h in
    let none = none_empty (y ∷ ys) rest in cc

pub right_alone : (d ls rs rs' : List Value) (r : Option Value) → d ≡ ls → None
    ≡ slice_get d (length d - 1) → IsSorted value_cmp rs → rs ≡ rs' ++ option_to_list r
    → bag_of (ls ++ rs) ≡ bag_of (ls ++ rs') ++ option_to_list r
right_alone d ls rs rs' r e none up popped =
    let empty = sym e ∙ none_empty d none in
    ap (λ l. bag_of (l ++ rs)) empty ∙ bag_of-settled rs up ∙ popped
    ∙ ap (λ l. l ++ option_to_list r)
    (sym (ap (λ l. bag_of (l ++ rs')) empty
    ∙ bag_of-settled rs' (popped-IsSorted rs rs' r up popped)))

pub left_alone : (d ls ls' rs : List Value) (r : Option Value) → d ≡ rs → None
    ≡ slice_get d (length d - 1) → IsSorted value_cmp ls → ls ≡ ls' ++ option_to_list r
    → bag_of (ls ++ rs) ≡ bag_of (ls' ++ rs) ++ option_to_list r
left_alone d ls ls' rs r e none up popped =
    bag_of-either_order rs ls ∙ right_alone d rs ls ls' r e none up popped
    ∙ ap (λ b. b ++ option_to_list r) (bag_of-either_order ls' rs)

pub lower : (x y : Value) → is_lt (value_cmp x y) ≡ true → NotBelow x y
lower x y h = ranks.one_way x y h
