-- The lists that are given to a script in which some collections are kept ones, in order of the
-- script.
use Rattle.std.proofs.Common.{◌≡◌, ℕ, zero, suc, ◌+◌, ◌<◌, ◌&&◌, Bool, true, false, cond, not, List, [], ◌∷◌, ◌++◌, length, map, take, drop, Option, Some, None, if◌then◌else◌, slice_get, refl, sym, ap, ◌∙◌, subst, arith, append_assoc, length-append}
use Rattle.std.specs.Option.{option_and_then, option_map}
use Rattle.std.specs.List.{AllByRecursion as Each, filter, flat_map}
use Rattle.flume_types.specs.declared.column.Column.{Column}
use Rattle.flume_value.specs.declared.value.Value.{Value}
use Rattle.flume_collection.specs.Collection.{Collection}
use Rattle.written_types.specs.Named.{Named}
use Rattle.script_program.specs.declared.made.Made.{Made}
use Rattle.script_program.specs.declared.made.Made.TheVariants as made
use Rattle.script_program.specs.Needed.{holds_number, is_needed, made_of, needed_nodes, collections_numbered}
use Rattle.script_program.specs.Saved.{IsUnsaved, saved_as, saved_among, saved_node, with_saved}
use Rattle.script_program.specs.Script.{Node, Script}
use Rattle.script_program.specs.Sources.{in_order, lists_in_turn, input_count, by_kinds, source_kind, source_kinds}
use Rattle.direct_meaning.specs.of_script_laws.WellFormed.{IsWellFormed}
use Rattle.direct_meaning.proofs.of_script_laws.SavedLemmas.{made-saved}
use Rattle.direct_meaning.specs.Direct.{collections, inputs_behind, made_as, made_at}
use Rattle.direct_meaning.proofs.PlainLemmas.{flat-if, more_if}
use Rattle.saved_meaning.specs.Found.{all_kept, marked_ones, is_input, lists_for, members_kept, bag_or_none, needed_too, needs_input, still_needed}
use Rattle.saved_meaning.proofs.Going.{Lists, Table, later, made-here, none_first, own_list, rows_left, to_come}
use Rattle.saved_meaning.proofs.SameMakes.{IsNoSource, Kind, input, kind_of, other, saved}
use Rattle.saved_meaning.proofs.StillNeeded.{needed-before}
use Rattle.saved_meaning.proofs.Tables.{and_then_some, one_longer}

-- ---- lists side by side

front_of : {X : Type 0} (xs ys : List X) → take (length xs) (xs ++ ys) ≡ xs
front_of [] ys = refl
front_of (x ∷ xs) ys = ap (λ l. x ∷ l) (front_of xs ys)

back_of : {X : Type 0} (xs ys : List X) → drop (length xs) (xs ++ ys) ≡ ys
back_of [] ys = refl
back_of (x ∷ xs) ys = back_of xs ys

ordered-both : {X : Type 0} (kinds : List Bool) (xs ys : List X)
    → length xs ≡ input_count kinds → by_kinds kinds (xs ++ ys) ≡ lists_in_turn kinds xs ys
ordered-both kinds xs ys size =
    λ i. lists_in_turn kinds
    ((ap (λ n. take n (xs ++ ys)) (sym size) ∙ front_of xs ys) i)
    ((ap (λ n. drop n (xs ++ ys)) (sym size) ∙ back_of xs ys) i)

-- ---- one collection more

-- how it is made, where it is kept or not
abbrev made_if : Bool → Made → Made
made_if kept how = if kept then saved_as how else how

-- the next of the lists is in its turn
pub record IsTurn (kinds marks : List Bool) (rows kept lists : Lists) : Type 0 where
  pub turn : lists_in_turn kinds (marked_ones marks rows) kept ≡ lists
  pub size : length (marked_ones marks rows) ≡ input_count kinds

-- rows are there where an input is needed
abbrev HasRow : Bool → Made → Lists → Type 0
HasRow needed (made.Input file columns) rows = needed ≡ true → 0 < length rows
HasRow needed _ rows = Unit {0}

module _ (to : Script) (n : ℕ) (all : Table) (kinds marks : List Bool) (kept rest : Lists) where
  abbrev members : List Value
  members = bag_or_none (made_at all n)

  abbrev Turns : Bool → Bool → Bool → Made → Lists → Type 0
  Turns needed still is_kept how rows =
      IsTurn (more_if still (source_kind (made_if is_kept how)) kinds)
      (more_if needed (needed_too to n how) marks) rows
      (more_if still (members_kept all n (made_if is_kept how)) kept)
      (own_list still is_kept members how rows ++ rest)

  -- an input
  input-turns : (needed still is_kept : Bool) (file : List ℕ) (columns : List Column)
      (rows : Lists) → (still ≡ true → needed ≡ true)
      → needs_input to n ≡ (still && not is_kept) → HasRow needed (made.Input file columns) rows
      → IsTurn kinds marks (rows_left needed (made.Input file columns) rows) kept rest
      → Turns needed still is_kept (made.Input file columns) rows
  input-turns true still is_kept file columns [] both mark row h =
      let some = row refl in absurd (omega arith)
  input-turns true true true file columns (list ∷ rows) both mark row h = record {
    turn =
        ap (λ m. lists_in_turn (true ∷ kinds) (marked_ones (m ∷ marks) (list ∷ rows))
        (members ∷ kept)) mark
        ∙ ap (λ l. members ∷ l) h.turn;
    size = ap (λ m. length (marked_ones (m ∷ marks) (list ∷ rows))) mark ∙ h.size;
  }
  input-turns true true false file columns (list ∷ rows) both mark row h = record {
    turn =
        ap (λ m. lists_in_turn (false ∷ kinds) (marked_ones (m ∷ marks) (list ∷ rows)) kept) mark
        ∙ ap (λ l. list ∷ l) h.turn;
    size = ap (λ m. length (marked_ones (m ∷ marks) (list ∷ rows))) mark ∙ ap suc h.size;
  }
  input-turns true false is_kept file columns (list ∷ rows) both mark row h = record {
    turn = ap (λ m. lists_in_turn kinds (marked_ones (m ∷ marks) (list ∷ rows)) kept) mark ∙ h.turn;
    size = ap (λ m. length (marked_ones (m ∷ marks) (list ∷ rows))) mark ∙ h.size;
  }
  input-turns false true is_kept file columns rows both mark row h = let e = both refl in cc
  input-turns false false is_kept file columns rows both mark row h =
      record { turn = h.turn; size = h.size }

  -- what is made of others
  other-turns : (needed still is_kept : Bool) (how : Made) → IsNoSource how → (rows : Lists)
      → (still ≡ true → needed ≡ true)
      → IsTurn kinds marks rows kept rest
      → IsTurn (more_if still (source_kind (made_if is_kept how)) kinds) marks rows
      (more_if still (members_kept all n (made_if is_kept how)) kept)
      (own_list still is_kept members how rows ++ rest)
  other-turns needed true true how none rows both h = record {
    turn = ap (λ l. members ∷ l) h.turn;
    size = h.size;
  }
  other-turns needed true false how none rows both h = record {
    turn =
        (λ i. lists_in_turn (none.kind i ++ kinds) (marked_ones marks rows)
        (none.kept all n i ++ kept))
        ∙ h.turn
        ∙ ap (λ l. l ++ rest) (sym (none_first how none.others rows));
    size = h.size ∙ ap (λ l. input_count (l ++ kinds)) (sym none.kind);
  }
  other-turns needed false is_kept how none rows both h =
      record { turn = h.turn; size = h.size }

  without-marks : (needed : Bool) (how : Made) → IsNoSource how
      → more_if needed (needed_too to n how) marks ≡ marks
  without-marks true how none = ap (λ l. l ++ marks) (none.too to n)
  without-marks false how none = refl

  without-rows : (needed : Bool) (how : Made) → IsNoSource how → (rows : Lists)
      → rows_left needed how rows ≡ rows
  without-rows true how none rows = none.behind rows
  without-rows false how none rows = refl

  pub turns : (needed still is_kept : Bool) {how : Made} → Kind how → IsUnsaved how
      → (rows : Lists) → (still ≡ true → needed ≡ true)
      → needs_input to n ≡ (still && (not is_kept && is_input (Some how)))
      → HasRow needed how rows → IsTurn kinds marks (rows_left needed how rows) kept rest
      → Turns needed still is_kept how rows
  turns needed still is_kept (input file columns) un rows both mark row h =
      input-turns needed still is_kept file columns rows both (mark ∙ true_right still is_kept) row
      h
    where
      true_right : (a b : Bool) → (a && (not b && true)) ≡ (a && not b)
      true_right true true = refl
      true_right true false = refl
      true_right false b = refl
  turns needed still is_kept (saved is_object call) un rows both mark row h = absurd un
  turns needed still is_kept (other how none) un rows both mark row h =
      subst (λ l. IsTurn (more_if still (source_kind (made_if is_kept how)) kinds) l rows
      (more_if still (members_kept all n (made_if is_kept how)) kept)
      (own_list still is_kept members how rows ++ rest)) (sym (without-marks needed how none))
      (other-turns needed still is_kept how none rows both
      (subst (λ l. IsTurn kinds marks l kept rest) (without-rows needed how none rows) h))

-- ---- all

-- over these rows the script means the whole, and these are kept
module _ (script : Script) (well : IsWellFormed script) (found : List ℕ) (all whole : Table) where
  abbrev to : Script
  to = later script found all

  abbrev Numbers : Type 0
  Numbers = List (ℕ × (List ℕ × Node))

  abbrev needed_in : Script → ℕ → Named Node → Numbers
  needed_in own n nodes = filter (λ it. is_needed own it.0) (collections_numbered n nodes)

  abbrev kinds_from : ℕ → Named Node → List Bool
  kinds_from n nodes = flat_map (λ it. source_kind it.1.1.made) (needed_in to n nodes)

  abbrev marks_from : ℕ → Named Node → List Bool
  marks_from n nodes = flat_map (λ it. needed_too to it.0 it.1.1.made) (needed_in script n nodes)

  abbrev kept_from : ℕ → Named Node → Lists
  kept_from n nodes = flat_map (λ it. members_kept all it.0 it.1.1.made) (needed_in to n nodes)

  abbrev InTurn : ℕ → Named Node → Lists → Type 0
  InTurn n nodes rows =
      IsTurn (kinds_from n (saved_among found n nodes)) (marks_from n nodes) rows
      (kept_from n (saved_among found n nodes)) (to_come script found all n nodes rows)

  mark-if : (still is_kept : Bool) (how : Made)
      → (still && is_input (Some (made_if is_kept how)))
      ≡ (still && (not is_kept && is_input (Some how)))
  mark-if true true how = refl
  mark-if true false how = refl
  mark-if false is_kept how = refl

  -- whether an input is needed still
  mark-is : (n : ℕ) (how : Made) → slice_get (made_of script) n ≡ Some how
      → needs_input to n ≡ (is_needed to n && (not (holds_number found n) && is_input (Some how)))
  mark-is n how is =
      ap (λ o. is_needed to n && is_input o)
      (made-saved script found n ∙ ap (option_map (made_if (holds_number found n))) is)
      ∙ mark-if (is_needed to n) (holds_number found n) how

  saved-made : (b : Bool) (entry : List ℕ × Node)
      → (if b then (entry.0, saved_node entry.1) else entry).1.made ≡ made_if b entry.1.made
  saved-made true entry = refl
  saved-made false entry = refl

  -- where an input is made, there is a list for it
  row-is : (needed : Bool) {how : Made} → Kind how → (nodes : Named Node) (rows : Lists)
      (here : Table)
      → (if needed then option_and_then (λ c.
      collections script nodes (inputs_behind how rows) (here ++ Some c ∷ []))
      (made_as script (length here) how rows here)
      else collections script nodes rows (here ++ None ∷ [])) ≡ Some whole
      → HasRow needed how rows
  row-is true (input file columns) nodes [] here h = cc
  row-is true (input file columns) nodes (list ∷ rows) here h = λ e. omega arith
  row-is false (input file columns) nodes rows here h = λ e. cc
  row-is needed (saved is_object call) nodes rows here h = tt
  row-is needed (other how none) nodes rows here h = no_row needed how none rows
    where
      no_row : (needed : Bool) (how : Made) → IsNoSource how → (rows : Lists)
          → HasRow needed how rows
      no_row needed (made.Input file columns) none rows = absurd none.others
      no_row needed _ none rows = tt

  abbrev AllTurn : Named Node → Type 0
  AllTurn nodes = (before : Named Node) → before ++ nodes ≡ script.nodes
      → Each (λ entry. IsUnsaved entry.1.made) nodes
      → (n : ℕ) → length before ≡ n → (rows : Lists) (here : Table) → length here ≡ n
      → collections script nodes rows here ≡ Some whole → InTurn n nodes rows

  -- what is left behind a collection
  goes-on : (needed : Bool) (how : Made) (nodes : Named Node) (rows : Lists) (here : Table)
      → (if needed then option_and_then (λ c.
      collections script nodes (inputs_behind how rows) (here ++ Some c ∷ []))
      (made_as script (length here) how rows here)
      else collections script nodes rows (here ++ None ∷ [])) ≡ Some whole
      → (o : Option Collection)
      × (collections script nodes (rows_left needed how rows) (here ++ o ∷ []) ≡ Some whole)
  goes-on true how nodes rows here h =
      let (c, made_so, rest) =
      and_then_some
      (λ c. collections script nodes (inputs_behind how rows) (here ++ Some c ∷ []))
      (made_as script (length here) how rows here) whole h in
      (Some c, rest)
  goes-on false how nodes rows here h = (None, h)

  all-turn : (nodes : Named Node) → AllTurn nodes
  all-turn [] before split un n place [] here size h = record { turn = refl; size = refl }
  all-turn [] before split un n place (list ∷ rows) here size h = cc
  all-turn (entry ∷ nodes) before split un n place rows here size h =
      let how = entry.1.made in
      let needed = is_needed script n in
      let still = is_needed to n in
      let b = holds_number found n in
      let now : (if needed then option_and_then (λ c.
      collections script nodes (inputs_behind how rows) (here ++ Some c ∷ []))
      (made_as script (length here) how rows here)
      else collections script nodes rows (here ++ None ∷ [])) ≡ Some whole =
      subst (λ k. (if is_needed script k then option_and_then (λ c.
      collections script nodes (inputs_behind how rows) (here ++ Some c ∷ []))
      (made_as script (length here) how rows here)
      else collections script nodes rows (here ++ None ∷ [])) ≡ Some whole) size h in
      let left = goes-on needed how nodes rows here now in
      let rest = all-turn nodes (before ++ entry ∷ [])
      (append_assoc before (entry ∷ []) nodes ∙ split) un.1 (suc n)
      (omega (arith, place, length-append before (entry ∷ []))) (rows_left needed how rows)
      (here ++ left.0 ∷ []) (omega (arith, size, one_longer here left.0)) left.1 in
      let saved_nodes = saved_among found (suc n) nodes in
      let it =
      turns to n all (kinds_from (suc n) saved_nodes) (marks_from (suc n) nodes)
      (kept_from (suc n) saved_nodes)
      (to_come script found all (suc n) nodes (rows_left needed how rows))
      needed still b (kind_of how) un.0 rows (needed-before script well found n)
      (mark-is n how (made-here script before nodes entry n split place))
      (row-is needed (kind_of how) nodes rows here now) rest in
      let entry_ : List ℕ × Node = if b then (entry.0, saved_node entry.1) else entry in
      let kinds_are =
      flat-if (λ (x : ℕ × (List ℕ × Node)). source_kind x.1.1.made) still (n, entry_)
      (needed_in to (suc n) saved_nodes)
      ∙ ap (λ m. more_if still (source_kind m) (kinds_from (suc n) saved_nodes))
      (saved-made b entry) in
      let marks_are =
      flat-if (λ (x : ℕ × (List ℕ × Node)). needed_too to x.0 x.1.1.made) needed (n, entry)
      (needed_in script (suc n) nodes) in
      let kept_are =
      flat-if (λ (x : ℕ × (List ℕ × Node)). members_kept all x.0 x.1.1.made) still (n, entry_)
      (needed_in to (suc n) saved_nodes)
      ∙ ap (λ m. more_if still (members_kept all n m) (kept_from (suc n) saved_nodes))
      (saved-made b entry) in
      record {
        turn =
            (λ i. lists_in_turn (kinds_are i) (marked_ones (marks_are i) rows) (kept_are i))
            ∙ it.turn;
        size =
            ap (λ l. length (marked_ones l rows)) marks_are ∙ it.size
            ∙ ap input_count (sym kinds_are);
      }

  -- what is given to the later script, in order
  pub lists-turn : Each (λ entry. IsUnsaved entry.1.made) script.nodes → (rows : Lists)
      → collections script script.nodes rows [] ≡ Some whole
      → in_order to (lists_for script to rows all)
      ≡ to_come script found all 0 script.nodes rows
  lists-turn un rows h =
      let it = all-turn script.nodes [] refl un 0 refl rows [] refl h in
      ordered-both (source_kinds to) (marked_ones (still_needed script to) rows) (all_kept to all)
      it.size ∙ it.turn
