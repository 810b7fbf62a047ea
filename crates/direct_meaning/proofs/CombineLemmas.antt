-- Groups combined one after another.
use Rattle.std.proofs.Common.{◌≡◌, ◌++◌, ◌+◌, ◌<◌, ℕ, List, [], ◌∷◌, get_or, length, map, take, sym, ap, ◌∙◌, append_assoc, append-nil}
use Rattle.std.proofs.lemmas.List.{map-append, take_more}
use Rattle.std.proofs.lemmas.List.Concat.{flat_map-append}
use Rattle.flume_value.proofs.BagLemmas.{bag_of-sum, bag_of-twice}
use Rattle.flume_value.specs.Bag.{bag_of}
use Rattle.flume_value.specs.declared.fault.Kind.{Kind}
use Rattle.flume_value.specs.declared.value.Value.{Value}
use Rattle.bag_groups.proofs.CombiningLemmas.{combined_each-append, given, traps_of_each-append}
use Rattle.bag_groups.specs.Combining.{combined_each, groups_in, traps_of_each}
use Rattle.std.specs.Prelude.{Result}
use Rattle.std.specs.List.{flat_map}

abbrev Combines : Type 0
Combines = List Value → Result Value Kind

values_more : (f : Combines) (groups values : List Value) (group : Value)
    → bag_of values ≡ combined_each f groups
    → bag_of (values ++ combined_each f (group ∷ [])) ≡ combined_each f (groups ++ group ∷ [])
values_more f groups values group is =
    let last = combined_each f (group ∷ []) in
    sym (bag_of-sum values last)
    ∙ ((λ i. bag_of (is i ++ bag_of-twice (flat_map (given f) (groups_in (group ∷ []))) i))
    ∙ sym (combined_each-append f groups (group ∷ [])))

one_further : (groups : List Value) (i : ℕ) (group : Value) → i < length groups
    → group ≡ get_or groups i group → take (i + 1) groups ≡ take i groups ++ group ∷ []
one_further groups i group below at =
    take_more groups i group below ∙ ap (λ (g : Value). take i groups ++ g ∷ []) (sym at)

-- what is made of each of some values, and of the next
pub flat_further : {B : Type 0} (f : Value → List B) (xs : List Value) (i : ℕ) (x : Value)
    → i < length xs → x ≡ get_or xs i x
    → flat_map f (take i xs) ++ f x ≡ flat_map f (take (i + 1) xs)
flat_further f xs i x below at =
    ap (λ l. flat_map f (take i xs) ++ l) (sym (append-nil (f x)))
    ∙ (sym (flat_map-append f (take i xs) (x ∷ []))
    ∙ ap (flat_map f) (sym (one_further xs i x below at)))

pub values_further : (f : Combines) (groups values : List Value) (i : ℕ) (group : Value)
    → i < length groups → group ≡ get_or groups i group
    → bag_of values ≡ combined_each f (take i groups)
    → bag_of (values ++ combined_each f (group ∷ [])) ≡ combined_each f (take (i + 1) groups)
values_further f groups values i group below at is =
    values_more f (take i groups) values group is
    ∙ ap (combined_each f) (sym (one_further groups i group below at))

pub traps_further : {T : Type 0} (named : Kind × Value → T) (f : Combines) (groups : List Value)
    (before : List T) (i : ℕ) (group : Value) → i < length groups
    → group ≡ get_or groups i group
    → (before ++ map named (traps_of_each f (take i groups)))
    ++ map named (traps_of_each f (group ∷ []))
    ≡ before ++ map named (traps_of_each f (take (i + 1) groups))
traps_further named f groups before i group below at =
    append_assoc before (map named (traps_of_each f (take i groups)))
    (map named (traps_of_each f (group ∷ [])))
    ∙ ap (λ l. before ++ l)
    (sym (map-append named (traps_of_each f (take i groups)) (traps_of_each f (group ∷ [])))
    ∙ ap (map named)
    (sym (traps_of_each-append f (take i groups) (group ∷ []))
    ∙ ap (traps_of_each f) (sym (one_further groups i group below at))))
