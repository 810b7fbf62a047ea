-- Each way in which a node is made, from what is kept before it to what is kept behind it.
use Rattle.std.proofs.Common.{◌≡◌, ℕ, ◌+◌, ◌-◌, ◌||◌, false, List, [], ◌∷◌, ◌++◌, Option, Some, slice_get, refl, sym, ap, ◌∙◌, subst}
use Rattle.std.specs.List.{Contains, flat_map, list_any}
use Rattle.std.specs.Option.{option_and_then, option_map}
use Rattle.std.proofs.lemmas.List.Elements.{All-contains}
use Rattle.flume_value.specs.Bag.{bag_of}
use Rattle.flume_value.specs.declared.value.Value.{Value}
use Rattle.flume_types.specs.Tables.{table_of}
use Rattle.flume_types.specs.declared.types.Ty.{Ty}
use Rattle.flume_types.specs.declared.types.Ty.TheVariants as ty
use Rattle.bag_groups.specs.Combining.{combined_each}
use Rattle.bag_groups.specs.Groups.{grouped}
use Rattle.bag_steps.specs.Counts.{counted}
use Rattle.bag_steps.specs.Joins.{joined}
use Rattle.combine_table.specs.Combinations.{combined, greatest}
use Rattle.combine_table.specs.declared.comb.Comb.{Comb}
use Rattle.flume_collection.proofs.Members.{at_head, at_tail}
use Rattle.flume_collection.specs.Collection.{by_key, together}
use Rattle.flume_collection.specs.declared.trap.Trap.{Trap}
use Rattle.script_program.specs.declared.made.Made.{Made}
use Rattle.script_program.specs.declared.made.Made.TheVariants as made
use Rattle.script_program.specs.Needed.{operands}
use Rattle.script_program.specs.Script.{Function, Script}
use Rattle.script_laws.specs.WellFormed.{function_at, members_at}
use Rattle.direct_meaning.proofs.CallLemmas.{calls_answered}
use Rattle.direct_meaning.specs.Calls.{answer_of}
use Rattle.direct_meaning.proofs.MakeLemmas.{well_typed}
use Rattle.direct_meaning.proofs.KeepLemmas.{GoesThrough, called_kept, called_own, by_key_kept, by_key_own, combined_kept, combined_own, counted_kept, counted_own, joined_kept, joined_own, own_combined, top_kept, top_own, all_stand, together_kept, together_own}
use Rattle.direct_meaning.proofs.StandLemmas.{Source, keeps}
use Rattle.direct_meaning.specs.Direct.{called_by, combined_by, counted_by, done_at, done_by, inputs_behind, joined_collections, made_as, rows_as, top_by}
use Rattle.direct_meaning.specs.declared.kept.Kept.{Kept}
use Rattle.direct_meaning.specs.inner.Kept.{has_traps, is_trapped, kept_in, members_of, unless_behind}
use Rattle.direct_meaning.specs.inner.Slots.{IsDoneBy, traps_on}
use Rattle.direct_meaning.specs.inner.Stands.{Stands}
use Rattle.direct_meaning.proofs.HereLemmas.{Here, fits_so, goes_quietly, goes_so, reads_so}
use Rattle.direct_meaning.proofs.ReadLemmas.{AnyRead, CalledRead, GroupsRead, HasCallee, TableRead}

module _ {script : Script} {inputs left : List (List Value)} {number : ℕ}
    {kept : List (Option Kept)} {traps : List Trap} where
  -- ---- inputs, and kept collections

  pub rows_go : {m : Made} → (here : Here script inputs left number kept traps m)
      → (rows : List Value) (more : List (List Value)) → left ≡ rows ∷ more
      → inputs_behind m (rows ∷ more) ≡ more
      → made_as script number m (rows ∷ more) here.stands.table ≡ Some (rows_as rows)
      → (result : Kept) → result.members ≡ bag_of rows → result.trapped ≡ false
      → Stands script inputs (number + 1) more (kept ++ Some result ∷ []) traps
  rows_go {m} here rows more first behind made_so result members trapped =
      subst (λ (l : List (List Value)). Stands script inputs (number + 1) l
      (kept ++ Some result ∷ []) traps) (ap (inputs_behind m) first ∙ behind)
      (goes_quietly m here (rows_as rows)
      (ap (λ (l : List (List Value)). made_as script number m l here.stands.table) first ∙ made_so)
      result (record { members = members; trapped = trapped }) refl)

  -- ---- what is read

  abbrev pub has_callee : {m : Made} → Here script inputs left number kept traps m → (called : ℕ)
      (function : Function) → function_at script.functions called ≡ Some function
      → HasCallee script called
  has_callee here called function at = record {
    function = function;
    at = at;
    typed = well_typed script here.well.functions called function at;
  }

  abbrev pub any_read : (m : Made) (here : Here script inputs left number kept traps m)
      (source : ℕ) → Contains (operands m) source → (type : Ty)
      → members_at here.stands.before source ≡ Some type → AnyRead kept here.stands.table source
  any_read m here source among type reads =
      record { type = type; source = reads_so m here source among type reads }

  abbrev pub table_read : (m : Made) (here : Here script inputs left number kept traps m)
      (source : ℕ) → Contains (operands m) source → (key value : Ty)
      → members_at here.stands.before source ≡ Some (table_of key value)
      → TableRead kept here.stands.table source
  table_read m here source among key value reads = record {
    key = key;
    value = value;
    source = reads_so m here source among (table_of key value) reads;
  }

  -- ---- calls

  pub do_read : (source called output : ℕ)
      → (here : Here script inputs left number kept traps (made.Do source called output))
      → CalledRead kept here.stands.table source script called output
  do_read source called output here =
      let m = made.Do source called output in
      let it = fits_so m here in
      record {
        callee = has_callee here called it.function it.calls;
        source = reads_so m here source (at_head source []) it.function.signature.takes it.takes;
      }

  pub do_goes : (source called output : ℕ)
      → (here : Here script inputs left number kept traps (made.Do source called output))
      → (held : Kept) → slice_get kept source ≡ Some (Some held) → (result : Kept)
      (after : List Trap)
      → IsDoneBy (number - output) output
      (answer_of (do_read source called output here).function) held result traps after
      → Stands script inputs (number + 1) left (kept ++ Some result ∷ []) after
  do_goes source called output here held held_at result after done =
      let m = made.Do source called output in
      let it = do_read source called output here in
      let f = it.function in
      let from = it.source.from in
      let c = from.collection in
      let origin = number - output in
      let held_keeps = keeps kept here.stands.table source f.signature.takes it.source held held_at
      in
      let all = calls_answered f it.typed c.bag from.is.typed in
      subst (λ (l : List Trap).
      Stands script inputs (number + 1) left (kept ++ Some result ∷ []) l) (sym done.found)
      (goes_so m here (called_by origin output c.traps all.calls)
      (ap (option_and_then
      (λ (g : Function). done_at origin output g source here.stands.table)) it.at
      ∙ (ap (option_and_then (done_by origin output f)) from.made
      ∙ ap (option_map (called_by origin output c.traps)) all.are))
      result
      (called_kept origin output (answer_of f) all.calls result held c traps after held_keeps
      all.are done)
      (traps_on origin (answer_of f) held.members)
      (called_own here.stands.table source origin output (answer_of f) all.calls held c from.made
      held_keeps all.are))

  -- ---- groups

  pub group_read : (source : ℕ)
      → (here : Here script inputs left number kept traps (made.Group source))
      → TableRead kept here.stands.table source
  group_read source here =
      let it = fits_so (made.Group source) here in
      table_read (made.Group source) here source (at_head source []) it.key it.value it.reads

  pub group_goes : (source : ℕ)
      → (here : Here script inputs left number kept traps (made.Group source))
      → (held : Kept)
      → slice_get kept source ≡ Some (Some held) → (result : Kept)
      → result.members ≡ unless_behind held.trapped (grouped held.members)
      → result.trapped ≡ held.trapped → Stands script inputs (number + 1) left
      (kept ++ Some result ∷ []) traps
  group_goes source here held held_at result members trapped =
      let it = group_read source here in
      let from = it.source.from in
      goes_quietly (made.Group source) here (by_key from.collection)
      (ap (option_map by_key) from.made) result
      (by_key_kept result held from.collection
      (keeps kept here.stands.table source (table_of it.key it.value) it.source held held_at)
      members trapped)
      (by_key_own here.stands.table source from.collection from.made)

  -- ---- combinations

  pub combine_read : (source : ℕ) (by : Comb)
      → (here : Here script inputs left number kept traps (made.Combine source by))
      → GroupsRead kept here.stands.table source by
  combine_read source by here =
      let it = fits_so (made.Combine source by) here in
      record {
        key = it.key;
        member = it.member;
        value = it.value;
        suits = it.suits;
        source = reads_so (made.Combine source by) here source (at_head source [])
            (table_of it.key (ty.List it.member)) it.reads;
      }

  pub combine_goes : (source : ℕ) (by : Comb)
      → (here : Here script inputs left number kept traps (made.Combine source by))
      → (held : Kept) → slice_get kept source ≡ Some (Some held) → (result : Kept)
      → result.members ≡ combined_each (combined by) held.members
      → result.trapped ≡ (held.trapped || has_traps (own_combined number by held.members))
      → Stands script inputs (number + 1) left
      (kept ++ Some result ∷ []) (traps ++ own_combined number by held.members)
  combine_goes source by here held held_at result members trapped =
      let it = combine_read source by here in
      let from = it.source.from in
      let held_keeps = keeps kept here.stands.table source (table_of it.key (ty.List it.member))
      it.source held
      held_at in
      goes_so (made.Combine source by) here (combined_by number by from.collection)
      (ap (option_map (combined_by number by)) from.made) result
      (combined_kept number by result held from.collection held_keeps members trapped)
      (own_combined number by held.members)
      (combined_own here.stands.table source number by held from.collection from.made held_keeps)

  -- ---- collections together

  flatten_read : (sources : List ℕ)
      → (here : Here script inputs left number kept traps (made.Flatten sources))
      → (source : ℕ)
      → Contains sources source → Source kept here.stands.table source here.node.entry.1.type
  flatten_read sources here source in_them =
      let it = fits_so (made.Flatten sources) here in
      reads_so (made.Flatten sources) here source in_them here.node.entry.1.type
      (All-contains
      (λ (n : ℕ). members_at here.stands.before n ≡ Some here.node.entry.1.type) sources source
      it.read in_them)

  pub flatten_goes : (sources : List ℕ)
      → (here : Here script inputs left number kept traps (made.Flatten sources))
      → (result : Kept)
      → result.members
      ≡ bag_of (flat_map (λ source. members_of (kept_in kept source)) sources)
      → result.trapped ≡ list_any (λ source. is_trapped (kept_in kept source)) sources
      → Stands script inputs (number + 1) left
      (kept ++ Some result ∷ []) traps
  flatten_goes sources here result members trapped =
      let stood = all_stand kept here.stands.table sources
      (λ n is. (here.node.entry.1.type, flatten_read sources here n is)) in
      goes_quietly (made.Flatten sources) here (together stood.collections)
      (ap (option_map together) stood.made) result
      (together_kept kept here.stands.table sources stood result members trapped)
      (together_own kept here.stands.table sources stood)

  -- ---- counts

  pub count_read : (source : ℕ)
      → (here : Here script inputs left number kept traps (made.Count source))
      → AnyRead kept here.stands.table source
  count_read source here =
      let it = fits_so (made.Count source) here in
      any_read (made.Count source) here source (at_head source []) it.member it.reads

  pub count_goes : (source : ℕ)
      → (here : Here script inputs left number kept traps (made.Count source))
      → (held : Kept)
      → slice_get kept source ≡ Some (Some held) → (result : Kept)
      → result.members ≡ unless_behind held.trapped (counted held.members)
      → result.trapped ≡ held.trapped → GoesThrough held → Stands script inputs (number + 1) left
      (kept ++ Some result ∷ []) traps
  count_goes source here held held_at result members trapped through =
      let it = count_read source here in
      let from = it.source.from in
      let held_keeps = keeps kept here.stands.table source it.type it.source held held_at in
      goes_quietly (made.Count source) here (counted_by number from.collection)
      (ap (option_map (counted_by number)) from.made) result
      (counted_kept number result held from.collection held_keeps members trapped through)
      (counted_own here.stands.table source number held from.collection from.made held_keeps
      through)

  -- ---- joins

  module _ (one other : ℕ)
      (here : Here script inputs left number kept traps (made.Join one other)) where
    pub left_read : TableRead kept here.stands.table one
    left_read =
        let it = fits_so (made.Join one other) here in
        table_read (made.Join one other) here one (at_head one (other ∷ [])) it.key it.left_value
        it.reads_left

    pub right_read : TableRead kept here.stands.table other
    right_read =
        let it = fits_so (made.Join one other) here in
        table_read (made.Join one other) here other
        (at_tail one (other ∷ []) other (at_head other [])) it.key it.right_value it.reads_right

    pub join_goes : (held more : Kept) → slice_get kept one ≡ Some (Some held)
        → slice_get kept other ≡ Some (Some more) → (result : Kept)
        → result.members ≡ unless_behind (held.trapped || more.trapped)
        (joined held.members more.members)
        → result.trapped ≡ (held.trapped || more.trapped) → Stands script inputs (number + 1) left
        (kept ++ Some result ∷ []) traps
    join_goes held more held_at more_at result members trapped =
        let lefts = left_read in
        let rights = right_read in
        let a = lefts.source.from in
        let b = rights.source.from in
        goes_quietly (made.Join one other) here (joined_collections a.collection b.collection)
        (λ i. option_and_then (λ c. option_map (joined_collections c) (b.made i)) (a.made i)) result
        (joined_kept result held more a.collection b.collection
        (keeps kept here.stands.table one (table_of lefts.key lefts.value) lefts.source held
        held_at)
        (keeps kept here.stands.table other (table_of rights.key rights.value) rights.source more
        more_at)
        members trapped)
        (joined_own here.stands.table one other a.collection b.collection a.made b.made)

  -- ---- the greatest

  pub top_read : (many source : ℕ)
      → (here : Here script inputs left number kept traps (made.Top many source))
      → AnyRead kept here.stands.table source
  top_read many source here =
      any_read (made.Top many source) here source (at_head source []) here.node.entry.1.type
      (fits_so (made.Top many source) here).reads

  pub top_goes : (many source : ℕ)
      → (here : Here script inputs left number kept traps (made.Top many source))
      → (held : Kept)
      → slice_get kept source ≡ Some (Some held) → (result : Kept)
      → result.members
      ≡ unless_behind held.trapped (greatest many (bag_of held.members))
      → result.trapped ≡ held.trapped → Stands script inputs (number + 1) left
      (kept ++ Some result ∷ []) traps
  top_goes many source here held held_at result members trapped =
      let it = top_read many source here in
      let from = it.source.from in
      goes_quietly (made.Top many source) here (top_by many from.collection)
      (ap (option_map (top_by many)) from.made) result
      (top_kept many it.type result held from.collection
      (keeps kept here.stands.table source it.type it.source held held_at) from.is members trapped)
      (top_own here.stands.table source many from.collection from.made)
