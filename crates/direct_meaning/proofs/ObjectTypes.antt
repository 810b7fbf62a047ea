-- What is made of values of objects has its type, and is an object.
use Rattle.std.proofs.Common.{◌≡◌, ◌||◌, ℕ, zero, suc, pos, Bool, true, false, List, [], ◌∷◌, ◌++◌, length, Option, Some, None, refl, sym, ap, ◌∙◌, subst, arith, append-nil}
use Rattle.std.specs.Prelude.{Result, Ok, Err, IsSomeAnd, option_map}
use Rattle.std.specs.List.{All, AllByRecursion as Each, AllZip, cons_option, flat_map}
use Rattle.std.specs.Option.{option_and_then}
use Rattle.std.proofs.lemmas.List.Elements.{All-from_recursion, All-nil}
use Rattle.flume_value.proofs.BagLemmas.{IsSorted-bag_of, bag_of-settled}
use Rattle.flume_value.proofs.EachLemmas.{each_from}
use Rattle.flume_value.specs.Bag.{bag_of}
use Rattle.flume_value.specs.Parts.{list_layer}
use Rattle.flume_value.specs.declared.fault.Kind.{Kind}
use Rattle.flume_value.specs.declared.value.Value.{Value}
use Rattle.flume_value.specs.declared.value.Value.TheVariants as value
use Rattle.flume_types.proofs.PartLemmas.{has_int, has_list, has_record}
use Rattle.flume_types.specs.Tables.{table_of}
use Rattle.flume_types.specs.Typing.{AllHave, Has, HaveTypes}
use Rattle.flume_types.specs.declared.types.Ty.{Ty}
use Rattle.flume_types.specs.declared.types.Ty.TheVariants as ty
use Rattle.bag_groups.proofs.CombiningLemmas.{Group, given, group_by}
use Rattle.bag_groups.proofs.PairLemmas.{Parts, parts_of-pair}
use Rattle.bag_groups.specs.Combining.{combined_pair, group_of}
use Rattle.bag_groups.specs.Pairs.{pair}
use Rattle.combine_table.specs.Combinations.{Suits, combined}
use Rattle.combine_table.specs.declared.comb.Comb.{Comb}
use Rattle.keyed_steps.proofs.TypedFacts.{Has-pair, combined_pairs_have, group_suits, table_pair}
use Rattle.keyed_steps.specs.Types.{TakesType, gives_type}
use Rattle.flume_collection.specs.Collection.{Collection, unless_trapped}
use Rattle.flume_collection.specs.Traps.{trap_set}
use Rattle.flume_collection.specs.declared.trap.Trap.{Trap}
use Rattle.script_laws.specs.of_script_rules.Operations.{combined_type}
use Rattle.script_laws.specs.WellFormed.{IsArgument, IsRecord}
use Rattle.direct_meaning.proofs.TrapLemmas.{traps-append, traps-set}
use Rattle.direct_meaning.proofs.TypeLemmas.{set_again, taken}
use Rattle.direct_meaning.specs.Made.{IsCollectionOf}
use Rattle.direct_meaning.specs.Objects.{IsObject, argument_of, combined_whole, members_behind, nothing_behind, object_as, only, value_of, object_values, whole_behind, whole_value}
use Rattle.direct_meaning.specs.inner.Kept.{has_traps}

-- ---- objects

pub as_object : (single : Result Value Trap) → IsObject (object_as single)
as_object (Ok v) = refl
as_object (Err trap) = refl

none_sorted : (type : Ty) (traps : List Trap) → trap_set traps ≡ traps
    → IsCollectionOf type (record { bag = []; traps = traps })
none_sorted type traps set = record {
  typed = All-nil (Has type);
  ascending = IsSorted-bag_of [];
  set = set;
}

pub object_is : (type : Ty) (single : Result Value Trap)
    → ((v : Value) → single ≡ Ok v → Has type v) → IsCollectionOf type (object_as single)
object_is type (Ok v) has = record {
  typed = All-from_recursion (Has type) (v ∷ []) (has v refl, tt);
  ascending = IsSorted-bag_of (v ∷ []);
  set = refl;
}
object_is type (Err trap) has = none_sorted type (trap ∷ []) refl

pub nothing_is : (type : Ty) (cs : List Collection) → IsCollectionOf type (nothing_behind cs)
nothing_is type cs =
    none_sorted type (nothing_behind cs).traps
    (set_again (flat_map (λ (c : Collection). c.traps) cs))

-- ---- all members combined

abbrev zero_key : Value
zero_key = value.Int (pos 0)

-- all members as the list of one group
as_group : (members : List Value)
    → group_of (pair zero_key (value.List members)) ≡ Some (zero_key, members)
as_group members =
    group_by (pair zero_key (value.List members)) zero_key (value.List members) (Some members)
    (ap (option_map (λ (it : Parts). it.0)) (parts_of-pair zero_key (value.List members)))
    (ap (option_map (λ (it : Parts). it.1)) (parts_of-pair zero_key (value.List members)))
    (ap list_layer (value.outs-List members))

group_has : (type : Ty) (members : List Value) → AllHave type members
    → Has (table_of ty.Int (ty.List type)) (pair zero_key (value.List members))
group_has type members all =
    Has-pair ty.Int (ty.List type) zero_key (value.List members) (has_int (pos 0))
    (has_list type members (each_from (Has type) members all))

-- members of a type that a combiner takes suit it
pub all_suit : (comb : Comb) (type : Ty) (members : List Value) → TakesType comb type
    → AllHave type members → All (Suits comb) members
all_suit comb type members takes all =
    subst (λ (o : Option Group). IsSomeAnd o (λ it. All (Suits comb) it.1)) (as_group members)
    (group_suits comb ty.Int type takes (pair zero_key (value.List members))
    (group_has type members all))

second_is : (p q : Parts) → Some p ≡ Some q → p.1 ≡ q.1
second_is p q e = let same : p ≡ q = cc in ap (λ (x : Parts). x.1) same

of_pair : (type : Ty) (v : Value) → Has (table_of ty.Int type) (pair zero_key v) → Has type v
of_pair type v has =
    let (k, x, is, typed, held) = table_pair ty.Int type (pair zero_key v) has in
    let p : Parts = (zero_key, v) in
    let q : Parts = (k, x) in
    let e : v ≡ x = second_is p q (sym (parts_of-pair zero_key v) ∙ is) in
    subst (Has type) (sym e) held

pairs_of_all : (comb : Comb) (type : Ty) (members : List Value) → AllHave type members
    → Each (Has (table_of ty.Int (gives_type comb type)))
    (combined_pair zero_key (combined comb (bag_of members)))
pairs_of_all comb type members all =
    let P = Has (table_of ty.Int (gives_type comb type)) in
    let g : Value = pair zero_key (value.List members) in
    let have : Each P (flat_map (given (combined comb)) (cons_option (group_of g) [])) =
    combined_pairs_have comb ty.Int type (g ∷ []) (group_has type members all, tt) in
    subst (Each P) (append-nil (combined_pair zero_key (combined comb (bag_of members))))
    (subst (λ (o : Option Group). Each P (flat_map (given (combined comb)) (cons_option o [])))
    (as_group members) have)

ok_has : (type : Ty) (whole : Result Value Kind)
    → Each (Has (table_of ty.Int type)) (combined_pair zero_key whole) → (v : Value)
    → whole ≡ Ok v → Has type v
ok_has type (Ok w) have v is =
    let same : w ≡ v = cc in
    subst (Has type) same (of_pair type w have.0)
ok_has type (Err why) have v is = cc

whole_ok : (origin : ℕ) (whole : Result Value Kind) (v : Value)
    → whole_value origin whole ≡ Ok v → whole ≡ Ok v
whole_ok origin (Ok w) v is = let same : w ≡ v = cc in ap (λ (x : Value). Ok x) same
whole_ok origin (Err why) v is = cc

whole_typed : (origin : ℕ) (type : Ty) (traps : List Trap) (whole : Result Value Kind)
    → trap_set traps ≡ traps → ((v : Value) → whole ≡ Ok v → Has type v)
    → IsCollectionOf type (whole_behind origin traps whole)
whole_typed origin type [] whole set has =
    object_is type (whole_value origin whole) (λ v is. has v (whole_ok origin whole v is))
whole_typed origin type (trap ∷ traps) whole set has = none_sorted type (trap ∷ traps) set

pub whole_is : (origin : ℕ) (comb : Comb) (member type : Ty) (c : Collection)
    → combined_type comb member ≡ Some type → IsCollectionOf member c
    → IsCollectionOf type (combined_whole origin comb c)
whole_is origin comb member type c suits it =
    let takes = taken comb member type suits in
    let same : combined comb (bag_of c.bag) ≡ combined comb c.bag
    = ap (combined comb) (bag_of-settled c.bag it.ascending) in
    whole_typed origin type c.traps (combined comb c.bag) it.set
    (λ v is. subst (λ (t : Ty). Has t v) (sym takes.1)
    (ok_has (gives_type comb member) (combined comb (bag_of c.bag))
    (pairs_of_all comb member c.bag it.typed) v (same ∙ is)))

pub whole_object : (origin : ℕ) (traps : List Trap) (whole : Result Value Kind)
    → IsObject (whole_behind origin traps whole)
whole_object origin [] whole = as_object (whole_value origin whole)
whole_object origin (trap ∷ traps) whole = refl

-- ---- values of objects

only_has : (P : Value → Type 0) (xs : List Value) (x : Value) → Each P xs → only xs ≡ Some x → P x
only_has P [] x each is = cc
only_has P (y ∷ []) x each is = let same : y ≡ x = cc in subst P same each.0
only_has P (y ∷ (z ∷ zs)) x each is = cc

unless_has : (type : Ty) (traps : List Trap) (bag : List Value) → Each (Has type) bag
    → Each (Has type) (unless_trapped traps bag)
unless_has type [] bag each = each
unless_has type (trap ∷ traps) bag each = tt

pub value_has : (type : Ty) (c : Collection) → IsCollectionOf type c → (v : Value)
    → value_of c ≡ Some v → Has type v
value_has type c it v is =
    only_has (Has type) (unless_trapped c.traps c.bag) v
    (unless_has type c.traps c.bag (each_from (Has type) c.bag it.typed)) is

first_have : (types : List Ty) (type : Ty) (first : Option Value) (rest : Option (List Value))
    (values : List Value)
    → option_and_then (λ v. option_map (λ vs. v ∷ vs) rest) first ≡ Some values
    → ((v : Value) → first ≡ Some v → Has type v)
    → ((vs : List Value) → rest ≡ Some vs → HaveTypes types vs)
    → HaveTypes (type ∷ types) values
first_have types type None rest values is f g = cc
first_have types type (Some v) None values is f g = cc
first_have types type (Some v) (Some vs) values is f g =
    let same : v ∷ vs ≡ values = cc in
    let both : HaveTypes (type ∷ types) (v ∷ vs) = (f v refl, g vs refl) in
    subst (HaveTypes (type ∷ types)) same both

no_values : (values : List Value) → object_values [] ≡ Some values → HaveTypes [] values
no_values values is =
    let same : [] ≡ values = cc in
    let none : HaveTypes [] [] = tt in
    subst (HaveTypes []) same none

pub values_have : (types : List Ty) (cs : List Collection) → AllZip IsCollectionOf types cs
    → (values : List Value) → object_values cs ≡ Some values → HaveTypes types values
values_have [] [] are values is = no_values values is
values_have [] (c ∷ cs) are values is = absurd are
values_have (type ∷ types) [] are values is = absurd are
values_have (type ∷ types) (c ∷ cs) are values is =
    first_have types type (value_of c) (object_values cs) values is
    (λ v at. value_has type c are.0 v at) (λ vs at. values_have types cs are.1 vs at)

pub record_has : (types : List Ty) (type : Ty) (values : List Value) → IsRecord types type
    → HaveTypes types values → Has type (value.Rec values)
record_has types type values is have =
    subst (λ (t : Ty). Has t (value.Rec values)) (sym is.record_of)
    (has_record is.fields values
    (subst (λ (ts : List Ty). HaveTypes ts values) (sym is.in_order) have))

pub argument_has : (types : List Ty) (type : Ty) (values : List Value) → IsArgument types type
    → HaveTypes types values → Has type (argument_of values)
argument_has [] type values is have = absurd is
argument_has (t ∷ []) type [] is have = absurd have
argument_has (t ∷ []) type (v ∷ []) is have =
    subst (λ (u : Ty). Has u v) (sym is) have.0
argument_has (t ∷ []) type (v ∷ (w ∷ values)) is have = absurd have.1
argument_has (t ∷ (u ∷ types)) type [] is have = absurd have
argument_has (t ∷ (u ∷ types)) type (v ∷ []) is have = absurd have.1
argument_has (t ∷ (u ∷ types)) type (v ∷ (w ∷ values)) is have =
    record_has (t ∷ (u ∷ types)) type (v ∷ (w ∷ values)) is have

-- ---- objects without a value have traps

or_true : (b : Bool) → (b || true) ≡ true
or_true true = refl
or_true false = refl

lost_one : (traps : List Trap) (bag : List Value) → length bag ≡ members_behind traps
    → only (unless_trapped traps bag) ≡ None → has_traps traps ≡ true
lost_one [] [] object none = let e : zero ≡ suc zero = object in absurd (omega arith)
lost_one [] (x ∷ []) object none = cc
lost_one [] (x ∷ (y ∷ ys)) object none =
    let e : suc (suc (length ys)) ≡ 1 = object in absurd (omega arith)
lost_one (trap ∷ traps) bag object none = refl

lost_first : (c : Collection) (traps : List Trap) (first : Option Value)
    (rest : Option (List Value)) → IsObject c → value_of c ≡ first
    → (rest ≡ None → has_traps traps ≡ true)
    → option_and_then (λ v. option_map (λ vs. v ∷ vs) rest) first ≡ None
    → has_traps (c.traps ++ traps) ≡ true
lost_first c traps None rest object first others none =
    traps-append c.traps traps
    ∙ ap (λ (b : Bool). b || has_traps traps) (lost_one c.traps c.bag object first)
lost_first c traps (Some v) None object first others none =
    traps-append c.traps traps
    ∙ ap (λ (b : Bool). has_traps c.traps || b) (others refl)
    ∙ or_true (has_traps c.traps)
lost_first c traps (Some v) (Some vs) object first others none = cc

lost_all : (cs : List Collection) → Each IsObject cs → object_values cs ≡ None
    → has_traps (flat_map (λ c. c.traps) cs) ≡ true
lost_all [] objects none = cc
lost_all (c ∷ cs) objects none =
    lost_first c (flat_map (λ (d : Collection). d.traps) cs) (value_of c) (object_values cs)
    objects.0 refl (lost_all cs objects.1) none

none_behind : (traps : List Trap) → has_traps traps ≡ true → 0 ≡ members_behind traps
none_behind [] has = cc
none_behind (trap ∷ traps) has = refl

-- nothing behind objects of which one has no value is an object
pub nothing_object : (cs : List Collection) → Each IsObject cs → object_values cs ≡ None
    → IsObject (nothing_behind cs)
nothing_object cs objects none =
    none_behind (nothing_behind cs).traps
    (traps-set (flat_map (λ (c : Collection). c.traps) cs) ∙ lost_all cs objects none)
