-- What each step makes of collections of their types is a collection of its type.
use Rattle.std.proofs.Common.{◌≡◌, ℕ, List, [], ◌∷◌, ◌++◌, Bool, true, false, cond, Some, None, map, refl, sym, subst}
use Rattle.std.specs.List.{All, AllByRecursion as Each, flat_map}
use Rattle.std.specs.List.Sorted.{IsSorted}
use Rattle.std.proofs.lemmas.List.Elements.{All-from_recursion, All-nil}
use Rattle.flume_value.proofs.BagLemmas.{Each-bag_of, IsSorted-bag_of, bag_of-settled}
use Rattle.flume_value.proofs.EachLemmas.{Each-append, each_from}
use Rattle.flume_value.specs.Bag.{bag_of}
use Rattle.flume_value.specs.Order.{value_cmp}
use Rattle.flume_value.specs.declared.value.Value.{Value}
use Rattle.flume_types.proofs.SameLemmas.{tells_apart}
use Rattle.flume_types.specs.Equality.{type_eq}
use Rattle.flume_types.specs.Tables.{table_of}
use Rattle.flume_types.specs.Typing.{Has, AllHave}
use Rattle.flume_types.specs.declared.types.Ty.{Ty}
use Rattle.flume_types.specs.declared.types.Ty.TheVariants as ty
use Rattle.bag_groups.proofs.Grouping.{grouped-IsSorted}
use Rattle.bag_groups.specs.Combining.{combined_each, traps_of_each, groups_in}
use Rattle.bag_groups.proofs.CombiningLemmas.{given}
use Rattle.bag_groups.specs.Groups.{grouped}
use Rattle.combine_table.specs.Combinations.{combined, greatest}
use Rattle.combine_table.specs.declared.comb.Comb.{Comb}
use Rattle.combine_table.specs.declared.comb.Comb.TheVariants as by
use Rattle.keyed_steps.proofs.TypedFacts.{all_groups, combined_pairs_have}
use Rattle.keyed_steps.specs.Types.{TakesType, gives_type}
use Rattle.bag_steps.specs.Counts.{counted_traps}
use Rattle.bag_steps.specs.Joins.{joined}
use Rattle.bag_steps.proofs.RowOrder.{counted-IsSorted, greatest-IsSorted, joined-IsSorted}
use Rattle.bag_steps.proofs.TypedRows.{counted-typed, greatest-typed, joined-typed}
use Rattle.flume_collection.proofs.Members.{set_sum}
use Rattle.flume_collection.proofs.Orders.{trap_order}
use Rattle.flume_collection.specs.Calls.{trap_named}
use Rattle.flume_collection.specs.Collection.{Collection, by_key, together, unless_trapped}
use Rattle.flume_collection.specs.Traps.{trap_le, trap_set}
use Rattle.flume_collection.specs.declared.trap.Trap.{Trap}
use Rattle.script_laws.specs.of_script_rules.Operations.{combined_type, sides_of}
use Rattle.direct_meaning.specs.Direct.{combined_by, counted_by, counts_behind, joined_collections, rows_as, top_by}
use Rattle.direct_meaning.specs.Made.{IsCollectionOf}

-- ---- parts

unless-all : (P : Value → Type 0) (traps : List Trap) (bag : List Value) → All P bag
    → All P (unless_trapped traps bag)
unless-all P [] bag all = all
unless-all P (trap ∷ traps) bag all = All-nil P

unless-sorted : (traps : List Trap) (bag : List Value) → IsSorted value_cmp bag
    → IsSorted value_cmp (unless_trapped traps bag)
unless-sorted [] bag sorted = sorted
unless-sorted (trap ∷ traps) bag sorted = IsSorted-bag_of []

pub set_again : (traps : List Trap) → trap_set (trap_set traps) ≡ trap_set traps
set_again traps = set_sum trap_le trap_order [] traps

all_bag : (type : Ty) (xs : List Value) → Each (Has type) xs → AllHave type (bag_of xs)
all_bag type xs all =
    All-from_recursion (Has type) (bag_of xs) (Each-bag_of (Has type) xs all)

-- ---- rows

pub rows_are : (type : Ty) (rows : List Value) → AllHave type rows
    → IsCollectionOf type (rows_as rows)
rows_are type rows all = record {
  typed = all_bag type rows (each_from (Has type) rows all);
  ascending = IsSorted-bag_of rows;
  set = refl;
}

-- ---- steps by key

pub grouped_is : (key value : Ty) (c : Collection) → IsCollectionOf (table_of key value) c
    → IsCollectionOf (table_of key (ty.List value)) (by_key c)
grouped_is key value c it = record {
  typed = unless-all (Has (table_of key (ty.List value))) c.traps (grouped c.bag)
      (all_groups key value c.bag it.typed);
  ascending = unless-sorted c.traps (grouped c.bag) (grouped-IsSorted c.bag);
  set = it.set;
}

-- ---- combiners

some_is : (t u : Ty) → Some t ≡ Some u → t ≡ u
some_is t u same = cc

picked : (b : Bool) (t u : Ty) → cond b (Some t) None ≡ Some u → (b ≡ true) × (t ≡ u)
picked true t u is = (refl, cc)
picked false t u is = cc

-- where members of a type suit a combiner, the combiner takes them, and gives the type
pub taken : (comb : Comb) (t u : Ty) → combined_type comb t ≡ Some u
    → TakesType comb t × (u ≡ gives_type comb t)
taken by.Sum t u is =
    let same = picked (type_eq t ty.Int) ty.Int u is in
    (tells_apart t ty.Int same.0, sym same.1)
taken by.Count t u is = (tt, sym (some_is ty.Int u is))
taken by.Min t u is = (tt, sym (some_is t u is))
taken by.Max t u is = (tt, sym (some_is t u is))
taken by.All t u is =
    let same = picked (type_eq t ty.Bool) ty.Bool u is in
    (tells_apart t ty.Bool same.0, sym same.1)
taken by.Any t u is =
    let same = picked (type_eq t ty.Bool) ty.Bool u is in
    (tells_apart t ty.Bool same.0, sym same.1)
taken (by.Top n) t u is = (tt, sym (some_is (ty.List t) u is))
taken by.Mean t u is =
    let same = picked (type_eq t ty.Int) ty.Int u is in
    (tells_apart t ty.Int same.0, sym same.1)
taken by.Distinct t u is = (tt, sym (some_is (ty.List t) u is))

combined_has : (comb : Comb) (key member : Ty) (bag : List Value)
    → AllHave (table_of key (ty.List member)) bag
    → AllHave (table_of key (gives_type comb member)) (combined_each (combined comb) bag)
combined_has comb key member bag all =
    all_bag (table_of key (gives_type comb member))
    (flat_map (given (combined comb)) (groups_in bag))
    (combined_pairs_have comb key member bag
    (each_from (Has (table_of key (ty.List member))) bag all))

pub combined_is : (origin : ℕ) (comb : Comb) (key member value : Ty) (c : Collection)
    → combined_type comb member ≡ Some value → IsCollectionOf (table_of key (ty.List member)) c
    → IsCollectionOf (table_of key value) (combined_by origin comb c)
combined_is origin comb key member value c suits it = record {
  typed = subst (λ (t : Ty). AllHave (table_of key t) (combined_each (combined comb) c.bag))
      (sym (taken comb member value suits).1) (combined_has comb key member c.bag it.typed);
  ascending = IsSorted-bag_of (flat_map (given (combined comb)) (groups_in c.bag));
  set = set_again (c.traps ++ map (trap_named origin) (traps_of_each (combined comb) c.bag));
}

-- ---- collections together

all_together : (type : Ty) (cs : List Collection) → Each (IsCollectionOf type) cs
    → Each (Has type) (flat_map (λ c. c.bag) cs)
all_together type [] all = tt
all_together type (c ∷ cs) all =
    Each-append (Has type) c.bag (flat_map (λ (d : Collection). d.bag) cs)
    (each_from (Has type) c.bag all.0.typed) (all_together type cs all.1)

pub together_is : (type : Ty) (cs : List Collection) → Each (IsCollectionOf type) cs
    → IsCollectionOf type (together cs)
together_is type cs all = record {
  typed = all_bag type (flat_map (λ (c : Collection). c.bag) cs) (all_together type cs all);
  ascending = IsSorted-bag_of (flat_map (λ (c : Collection). c.bag) cs);
  set = set_again (flat_map (λ (c : Collection). c.traps) cs);
}

-- ---- counts, joins and the greatest

counts_are : (origin : ℕ) (type : Ty) (traps : List Trap) (bag : List Value) → AllHave type bag
    → trap_set traps ≡ traps
    → IsCollectionOf (table_of type ty.Int) (counts_behind origin traps bag)
counts_are origin type [] bag all set = record {
  typed = counted-typed type bag all;
  ascending = counted-IsSorted bag;
  set = set_again (map (trap_named origin) (counted_traps bag));
}
counts_are origin type (trap ∷ traps) bag all set = record {
  typed = All-nil (Has (table_of type ty.Int));
  ascending = IsSorted-bag_of [];
  set = set;
}

pub counted_is : (origin : ℕ) (type : Ty) (c : Collection) → IsCollectionOf type c
    → IsCollectionOf (table_of type ty.Int) (counted_by origin c)
counted_is origin type c it = counts_are origin type c.traps c.bag it.typed it.set

pub joined_is : (key left right : Ty) (a b : Collection) → IsCollectionOf (table_of key left) a
    → IsCollectionOf (table_of key right) b
    → IsCollectionOf (table_of key (sides_of left right)) (joined_collections a b)
joined_is key left right a b lefts rights = record {
  typed = unless-all (Has (table_of key (sides_of left right))) (a.traps ++ b.traps)
      (joined a.bag b.bag) (joined-typed key left right a.bag b.bag lefts.typed rights.typed);
  ascending = unless-sorted (a.traps ++ b.traps) (joined a.bag b.bag)
      (joined-IsSorted a.bag b.bag);
  set = set_again (a.traps ++ b.traps);
}

pub top_is : (number : ℕ) (type : Ty) (c : Collection) → IsCollectionOf type c
    → IsCollectionOf type (top_by number c)
top_is number type c it =
    let same = bag_of-settled c.bag it.ascending in
    record {
      typed = unless-all (Has type) c.traps (greatest number c.bag)
          (subst (λ (bag : List Value). AllHave type (greatest number bag)) same
          (greatest-typed number type c.bag it.typed));
      ascending = unless-sorted c.traps (greatest number c.bag)
          (subst (λ (bag : List Value). IsSorted value_cmp (greatest number bag)) same
          (greatest-IsSorted number c.bag));
      set = it.set;
    }
