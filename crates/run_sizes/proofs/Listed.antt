-- A meaning is over as many lists as the script has sources.
use Rattle.std.proofs.Common.{◌≡◌, ℕ, zero, suc, ◌+◌, Bool, true, false, cond, List, [], ◌∷◌}
use Rattle.std.proofs.Common.{◌++◌, length, Option, Some, None, refl, sym, ap, ◌∙◌, arith}
use Rattle.std.proofs.Common.{length-append}
use Rattle.std.specs.Prelude.{if◌then◌else◌, option_and_then}
use Rattle.std.specs.List.{filter, flat_map}
use Rattle.flume_value.specs.declared.value.Value.{Value}
use Rattle.flume_collection.specs.Collection.{Collection}
use Rattle.written_types.specs.Named.{Named}
use Rattle.script_program.specs.Needed.{is_needed, collections_numbered}
use Rattle.script_program.specs.Script.{Node, Script}
use Rattle.script_program.specs.Sources.{in_order, source_kind, source_kinds}
use Rattle.script_program.specs.declared.made.Made.{Made}
use Rattle.script_program.specs.declared.made.Made.TheVariants as made
use Rattle.script_program.proofs.SourceLemmas.{order-long}
use Rattle.build_law.specs.of_direct_meaning.Direct.{collections, inputs_behind, made_as, meaning}
use Rattle.build_law.proofs.Tables.{and_then_some, one_longer}

abbrev kinds_from : Script → ℕ → Named Node → List Bool
kinds_from script number nodes =
    flat_map (λ it. source_kind it.1.1.made)
    (filter (λ it. is_needed script it.0) (collections_numbered number nodes))

none_taken : (lists : List (List Value)) → length lists ≡ 0 + length lists
none_taken lists = omega arith

one_taken : (list : List Value) (lists : List (List Value))
    → length (list ∷ lists) ≡ 1 + length lists
one_taken list lists = omega arith

-- a source takes one list, and what is no source none
own_list : (script : Script) (number : ℕ) (how : Made) (lists : List (List Value))
    (table : List (Option Collection)) (c : Collection)
    → made_as script number how lists table ≡ Some c
    → length lists ≡ length (source_kind how) + length (inputs_behind how lists)
own_list script number (made.Input file columns) [] table c h = cc
own_list script number (made.Input file columns) (list ∷ lists) table c h = one_taken list lists
own_list script number (made.Do source called output) lists table c h = none_taken lists
own_list script number (made.Group source) lists table c h = none_taken lists
own_list script number (made.Combine source by) lists table c h = none_taken lists
own_list script number (made.Flatten sources) lists table c h = none_taken lists
own_list script number (made.Count source) lists table c h = none_taken lists
own_list script number (made.Join left right_) lists table c h = none_taken lists
own_list script number (made.Top many source) lists table c h = none_taken lists
own_list script number (made.CombineAll source by) lists table c h = none_taken lists
own_list script number (made.Operate objects called) lists table c h = none_taken lists
own_list script number (made.DoWith source called object) lists table c h = none_taken lists
own_list script number (made.Saved is_object call) [] table c h = cc
own_list script number (made.Saved is_object call) (list ∷ lists) table c h = one_taken list lists

module _ (script : Script) (all : List (Option Collection)) where
  abbrev Listed : Named Node → Type 0
  Listed nodes =
      (lists : List (List Value)) (table : List (Option Collection))
      → collections script nodes lists table ≡ Some all
      → length lists ≡ length (kinds_from script (length table) nodes)

  next_longer : (nodes : Named Node) (table : List (Option Collection)) (o : Option Collection)
      → length (kinds_from script (length (table ++ o ∷ [])) nodes)
      ≡ length (kinds_from script (suc (length table)) nodes)
  next_longer nodes table o =
      ap (λ n. length (kinds_from script n nodes)) (one_longer table o)

  next_listed : (entry : List ℕ × Node) (nodes : Named Node) (lists : List (List Value))
      (table : List (Option Collection)) (b : Bool) → Listed nodes
      → (if b then option_and_then (λ c.
      collections script nodes (inputs_behind entry.1.made lists) (table ++ Some c ∷ []))
      (made_as script (length table) entry.1.made lists table)
      else collections script nodes lists (table ++ None ∷ [])) ≡ Some all
      → length lists
      ≡ length (flat_map (λ (it : ℕ × (List ℕ × Node)). source_kind it.1.1.made)
      (cond b
      ((length table, entry)
      ∷ filter (λ it. is_needed script it.0) (collections_numbered (suc (length table)) nodes))
      (filter (λ it. is_needed script it.0) (collections_numbered (suc (length table)) nodes))))
  next_listed entry nodes lists table true more h =
      let (c, here, rest) =
      and_then_some
      (λ c. collections script nodes (inputs_behind entry.1.made lists) (table ++ Some c ∷ []))
      (made_as script (length table) entry.1.made lists table) all h in
      let own = own_list script (length table) entry.1.made lists table c here in
      let behind =
      more (inputs_behind entry.1.made lists) (table ++ Some c ∷ []) rest
      ∙ next_longer nodes table (Some c) in
      own
      ∙ ap (λ n. length (source_kind entry.1.made) + n) behind
      ∙ sym (length-append (source_kind entry.1.made)
      (kinds_from script (suc (length table)) nodes))
  next_listed entry nodes lists table false more h =
      more lists (table ++ None ∷ []) h ∙ next_longer nodes table None

  listed : (nodes : Named Node) → Listed nodes
  listed [] [] table h = refl
  listed [] (list ∷ lists) table h = cc
  listed (entry ∷ nodes) lists table h =
      next_listed entry nodes lists table (is_needed script (length table)) (listed nodes) h

pub all_listed : (script : Script) (lists : List (List Value)) (all : List (Option Collection))
    → meaning script lists ≡ Some all → length lists ≡ length (source_kinds script)
all_listed script lists all means =
    sym (order-long script lists)
    ∙ listed script all script.nodes (in_order script lists) [] means
