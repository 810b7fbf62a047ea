-- Where a script's collections are in its graph, and what is told of the places of all nodes.
use Rattle.std.proofs.Common.{inl, inr, ◌≡◌, ℕ, zero, suc, ◌+◌, ◌-◌, ◌<◌, Bool, List, [], ◌∷◌, ◌++◌, length, get_or, Option, Some, None, refl, sym, ap, ◌∙◌, subst, arith, add-zero, zero-add, length-append}
use Rattle.exec_graph.specs.Meaning.{place}
use Rattle.exec_graph.specs.declared.graph.Place.{Place}
use Rattle.graph_build.specs.Built.{Built, built}
use Rattle.graph_build.specs.Calls.{emitted_as, emitted_at, names_needed, needed_from, number_behind, other_names}
use Rattle.graph_build.specs.Graphs.{giving, place_as, place_at_number, place_made, places, places_from}
use Rattle.graph_build.specs.Nodes.{before_last, first_of}
use Rattle.graph_build.specs.Wanted.{wanted}
use Rattle.std.specs.Prelude.{slice_get}
use Rattle.graph_build.specs.of_script_program.Needed.{made_of}
use Rattle.graph_build.specs.of_script_program.declared.made.Emitted.{Emitted}
use Rattle.graph_build.specs.of_script_program.declared.made.Made.{Made}
use Rattle.graph_build.specs.of_script_program.declared.made.Made.TheVariants as made
use Rattle.graph_build.specs.of_script_program.Script.{Script}
use Rattle.direct_meaning.specs.of_script_laws.WellFormed.{IsWellFormed}
use Rattle.build_law.proofs.Blocks.{last_number, rows_found, rows_from, source_at, start_at}
use Rattle.build_law.proofs.Calling.{alone_built, built_wanted, how_emitted, needed_as}
use Rattle.build_law.proofs.Names.{length_needed, split_at}
use Rattle.build_law.proofs.Naming.{IsCall, IsNamed, name_is, named, named_as}
use Rattle.build_law.proofs.MadeKinds.{IsOther, Stand, alone, built_of, by_call, emission, kept_name, stand_of}
use Rattle.build_law.proofs.Outputs.{kept, kept_at}
use Rattle.build_law.proofs.Slots.{IsFirstName, IsKeptName, IsSlot, call_is_built, call_slot, kept_built, kept_slot, slot_of}
use Rattle.build_law.proofs.Values.{seam}

module _ (script : Script) where
  -- the number of the first node that is built at a place, and that of the next source in order of
  -- the script
  abbrev pub start : ℕ → ℕ
  start t = start_at 0 (built script) t

  abbrev pub source : ℕ → ℕ
  source t = source_at 0 (built script) t

  placed : (g : List ℕ) (ws : List (Option Made)) (k i : ℕ)
      → get_or (places_from script g k ws) i (first_of 0)
      ≡ place_made script g (k + i) (get_or ws i None)
  placed g [] k i = refl
  placed g (w ∷ ws) k zero = ap (λ n. place_made script g n w) (sym (add-zero k))
  placed g (w ∷ ws) k (suc i) =
      let e : suc k + i ≡ k + suc i = omega arith in
      placed g ws (suc k) i ∙ ap (λ n. place_made script g n (get_or ws i None)) e

  abbrev pub gives : ℕ → Place
  gives j = place_at_number (places script) j

  place_is : (j : ℕ) (how : Made) → get_or (wanted script) j None ≡ Some how
      → gives j ≡ place_made script (giving script) j (Some how)
  place_is j how found =
      placed (giving script) (wanted script) 0 j
      ∙ (λ i. place_made script (giving script) (zero-add j i) (found i))

  -- a collection that has no name of a call is what its last node gives
  pub other_place : (j : ℕ) (how : Made) → emitted_as how ≡ None
      → get_or (wanted script) j None ≡ Some how → gives j ≡ first_of (start j + before_last how)
  other_place j how none found =
      place_is j how found
      ∙ ap (place_as script (giving script) j how) none
      ∙ ap first_of
      (last_number 0 (built script) j (built_of j how) (alone_built script j how none found))

  -- a kept name of a call is what its source gives
  pub kept_place : (j : ℕ) (is_object : Bool) (it : Emitted) (first : ℕ)
      → get_or (wanted script) j None ≡ Some (made.Saved is_object (Some it))
      → first + it.output ≡ j
      → get_or (built script) (kept_slot script first it.output) None
      ≡ Some (built_of j (made.Saved is_object (Some it)))
      → gives j ≡ first_of (start (kept_slot script first it.output) + 0)
  kept_place j is_object it first found is there =
      let e : j - it.output ≡ first = omega arith in
      place_is j (made.Saved is_object (Some it)) found
      ∙ ap (λ n. first_of (get_or (giving script) (kept_slot script n it.output) 0)) e
      ∙ ap first_of
      (last_number 0 (built script) (kept_slot script first it.output)
      (built_of j (made.Saved is_object (Some it))) there)

  -- an output that a call emits is at the call's node
  pub call_place : (j input f o first number place_ : ℕ)
      → get_or (wanted script) j None ≡ Some (made.Do input f o) → first + o ≡ j
      → get_or (built script) (call_slot script first f) None
      ≡ Some (built_of number (made.Do input f place_))
      → gives j
      ≡ place (start (call_slot script first f)) (number_behind 0 (needed_from script first o))
  call_place j input f o first number place_ found is there =
      let e : j - o ≡ first = omega arith in
      place_is j (made.Do input f o) found
      ∙ ap (λ n. place (get_or (giving script) (call_slot script n f) 0)
      (number_behind 0 (needed_from script n o))) e
      ∙ ap (λ n. place n (number_behind 0 (needed_from script first o)))
      (last_number 0 (built script) (call_slot script first f)
      (built_of number (made.Do input f place_)) there
      ∙ add-zero (start (call_slot script first f)))

module _ (script : Script) (well : IsWellFormed script) where
  -- where the nodes stand that give a needed output of a call
  pub record HasCall (j input f o : ℕ) : Type 0 where
    pub first : ℕ
    pub call : IsCall script first input f
    pub below : o < suc (other_names script f)
    pub place : first + o ≡ j
    pub name : IsFirstName script well first input f call
    pub built_ : get_or (built script) (call_slot script first f) None
        ≡ Some (built_of (first + name.place) (made.Do input f name.place))

  sources_same : (a b c d e g : ℕ) → made.Do a b c ≡ made.Do d e g → a ≡ d
  sources_same a b c d e g h = cc

  pub has_call : (j input f o : ℕ) → get_or (wanted script) j None ≡ Some (made.Do input f o)
      → HasCall j input f o
  has_call j input f o found =
      let is = (needed_as script j (made.Do input f o) found).made in
      let n = named script well j input f o is in
      let same : made.Do input f o ≡ made.Do n.source f o =
      name_is script well n.first n.source f n.call o n.below (made.Do input f o)
      (ap (slice_get (made_of script)) n.place ∙ is) in
      let call = subst (λ k. IsCall script n.first k f)
      (sym (sources_same input f o n.source f o same)) n.call in
      let b = call_is_built script well n.first input f call o n.below
      (ap (emitted_at script) n.place ∙ how_emitted script j input f o found) in
      record {
        first = n.first;
        call = call;
        below = n.below;
        place = n.place;
        name = b.0;
        built_ = b.1;
      }

  -- where the source stands that gives a kept name of a call
  pub record HasKept (j : ℕ) (is_object : Bool) (it : Emitted) : Type 0 where
    pub name : IsNamed script well j it.function it.output
    pub built_ : get_or (built script) (kept_slot script name.first it.output) None
        ≡ Some (built_of j (made.Saved is_object (Some it)))

  pub has_kept : (j : ℕ) (is_object : Bool) (it : Emitted)
      → get_or (wanted script) j None ≡ Some (made.Saved is_object (Some it))
      → HasKept j is_object it
  has_kept j is_object it found =
      let how : Made = made.Saved is_object (Some it) in
      let n = named_as script well j how it (needed_as script j how found).made refl in
      record {
        name = n;
        built_ =
            kept_built script well n.first n.source it.function n.call it.output is_object (Some it)
            n.below (ap (λ k. get_or (wanted script) k None) n.place ∙ found)
            ∙ ap (λ k. Some (built_of k (made.Saved is_object (Some it)))) n.place;
      }

  -- what no call makes is what the last node of its place gives
  pub stands_where : (t number : ℕ) (mk : Made) → IsOther mk
      → get_or (built script) t None ≡ Some (built_of number mk)
      → gives script number ≡ first_of (start script t + before_last mk)
  stands_where t number mk apart found = by (slot_of script well t number mk found)
    where
      at_kept : IsKeptName script well t number mk
          → gives script number ≡ first_of (start script t + before_last mk)
      at_kept a =
          let how : Made = made.Saved a.is_object (Some (emission a.f a.place)) in
          let at : get_or (built script) (kept_slot script a.first a.place) None
          ≡ Some (built_of number how) =
          ap (λ s. get_or (built script) s None) a.slot ∙ found
          ∙ ap (λ (it : Made). Some (built_of number it)) a.made in
          kept_place script number a.is_object (emission a.f a.place) a.first
          (built_wanted script t number mk found ∙ ap Some a.made) a.is at
          ∙ (λ i. first_of (start script (a.slot i) + before_last (sym a.made i)))

      by : IsSlot script well t number mk
          → gives script number ≡ first_of (start script t + before_last mk)
      by (inl a) =
          other_place script number mk a.none (built_wanted script t number mk found)
          ∙ ap (λ s. first_of (start script s + before_last mk)) a.place
      by (inr (inl a)) = at_kept a
      by (inr (inr a)) = absurd (subst IsOther a.made apart)

-- ---- what is told of all nodes, row by row, where it is known of the collections

module _ {X : Type 0} (script : Script) (d : X) (at : ℕ → X)
    (inner : ℕ → Made → List (List X)) where
  -- a call has what is told of each of its needed names, another what is told of it
  abbrev pub last_row : ℕ → Made → List X
  last_row number (made.Do input f o) =
      kept at (number - o) (names_needed script (number - o) f)
  last_row number _ = at number ∷ []

  abbrev pub all_rows : ℕ → Made → List (List X)
  all_rows number mk = inner number mk ++ last_row number mk ∷ []

  abbrev pub whole : List (List X)
  whole = rows_from all_rows (built script)

  abbrev pub told : Place → X
  told c = get_or (get_or whole c.node []) c.out d

  other_row : (number : ℕ) (mk : Made) → IsOther mk → last_row number mk ≡ at number ∷ []
  other_row number (made.Do input f o) h = absurd h
  other_row number _ h = refl

  module _ (sized : (t number : ℕ) (mk : Made)
      → get_or (built script) t None ≡ Some (built_of number mk)
      → length (inner number mk) ≡ before_last mk) where
    -- the rows of the nodes of a place
    abbrev pub Told : ℕ → ℕ → Made → Type 0
    Told t number mk =
        (later : List (List X))
        × ((k j : ℕ) → told (place (start script t + k) j)
        ≡ get_or (get_or (all_rows number mk ++ later) k []) j d)

    all_sized : (t : ℕ) (it : Built) → get_or (built script) t None ≡ Some it
        → length (all_rows it.number it.made) ≡ before_last it.made + 1
    all_sized t it found =
        let both = length-append (inner it.number it.made) (last_row it.number it.made ∷ []) in
        let own = sized t it.number it.made found in
        omega arith

    pub row_told : (t number : ℕ) (mk : Made)
        → get_or (built script) t None ≡ Some (built_of number mk) → Told t number mk
    row_told t number mk found =
        let rows =
        rows_found all_rows whole [] 0 (built script) t (built_of number mk) all_sized refl refl
        found in
        (rows.0, λ k j. ap (λ row. get_or row j d) (rows.1 k []))

    last_told : (t number : ℕ) (mk : Made) (j : ℕ)
        → get_or (built script) t None ≡ Some (built_of number mk)
        → told (place (start script t + before_last mk) j) ≡ get_or (last_row number mk) j d
    last_told t number mk j found =
        let rows = row_told t number mk found in
        rows.1 (before_last mk) j
        ∙ ap (λ row. get_or row j d)
        (seam (inner number mk) rows.0 (last_row number mk) (before_last mk) []
        (sized t number mk found))

    module _ (well : IsWellFormed script) where
      alone_told : (j : ℕ) (how : Made) → IsOther how → emitted_as how ≡ None
          → get_or (wanted script) j None ≡ Some how → told (gives script j) ≡ at j
      alone_told j how apart none found =
          ap told (other_place script j how none found)
          ∙ last_told j j how 0 (alone_built script j how none found)
          ∙ ap (λ row. get_or row 0 d) (other_row j how apart)

      kept_told : (j : ℕ) (is_object : Bool) (it : Emitted)
          → get_or (wanted script) j None ≡ Some (made.Saved is_object (Some it))
          → told (gives script j) ≡ at j
      kept_told j is_object it found =
          let n = has_kept script well j is_object it found in
          ap told (kept_place script j is_object it n.name.first found n.name.place n.built_)
          ∙ last_told (kept_slot script n.name.first it.output) j (made.Saved is_object (Some it)) 0
          n.built_

      call_told : (j input f o : ℕ) → get_or (wanted script) j None ≡ Some (made.Do input f o)
          → told (gives script j) ≡ at j
      call_told j input f o found =
          let n = has_call script well j input f o found in
          let e : (n.first + n.name.place) - n.name.place ≡ n.first = omega arith in
          let split = split_at script n.first (suc (other_names script f)) o n.below
          (ap (emitted_at script) n.place ∙ how_emitted script j input f o found) in
          let front = needed_from script n.first o in
          ap told
          (call_place script j input f o n.first (n.first + n.name.place) n.name.place found n.place
          n.built_)
          ∙ ap (λ i. told (place i (number_behind 0 front)))
          (sym (add-zero (start script (call_slot script n.first f))))
          ∙ last_told (call_slot script n.first f) (n.first + n.name.place)
          (made.Do input f n.name.place) (number_behind 0 front) n.built_
          ∙ ap (λ k. get_or (kept at k (names_needed script k f)) (number_behind 0 front) d) e
          ∙ ap (λ names. get_or (kept at n.first names) (number_behind 0 front) d) split.1
          ∙ kept_at at n.first front split.0 d
          ∙ ap (λ k. at (n.first + k)) (length_needed script n.first o)
          ∙ ap at n.place

      told_of : (j : ℕ) {how : Made} → Stand how → get_or (wanted script) j None ≡ Some how
          → told (gives script j) ≡ at j
      told_of j (by_call input f o) found = call_told j input f o found
      told_of j (kept_name is_object it) found = kept_told j is_object it found
      told_of j (alone how apart none) found = alone_told j how apart none found

      -- where a collection is, it is told of it
      pub stands_told : (j : ℕ) (how : Made) → get_or (wanted script) j None ≡ Some how
          → told (gives script j) ≡ at j
      stands_told j how found = told_of j (stand_of how) found
