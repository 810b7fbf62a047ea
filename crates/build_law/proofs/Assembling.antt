-- An assignment of collections to the nodes of a script's graph that meets the equations of all.
use Rattle.std.proofs.Common.{◌≡◌, ℕ, suc, ◌+◌, ◌-◌, true, List, [], ◌∷◌, length, get_or, Option, Some, None, refl, sym, ap, ◌∙◌, subst, arith, zero-add}
use Rattle.std.specs.List.{AllByRecursion}
use Rattle.std.proofs.lemmas.List.{length-map}
use Rattle.flume_value.specs.declared.value.Value.{Value}
use Rattle.flume_collection.specs.Collection.{Collection}
use Rattle.exec_graph.specs.Meaning.{Holds, Meets, nothing, or_nothing, through}
use Rattle.exec_graph.specs.declared.graph.Place.{Place}
use Rattle.graph_build.specs.of_script_program.Script.{Script}
use Rattle.graph_build.specs.of_script_program.Needed.{operands}
use Rattle.graph_build.specs.of_script_program.Sources.{in_order}
use Rattle.graph_build.specs.of_script_program.declared.made.Made.{Made}
use Rattle.graph_build.specs.of_script_program.declared.made.Made.TheVariants as made
use Rattle.direct_meaning.specs.of_script_laws.WellFormed.{IsWellFormed}
use Rattle.direct_meaning.specs.Direct.{made_at, meaning}
use Rattle.graph_build.specs.Built.{built}
use Rattle.graph_build.specs.Calls.{names_needed, other_names}
use Rattle.graph_build.specs.Graphs.{nodes_of}
use Rattle.graph_build.specs.Nodes.{before_last}
use Rattle.graph_build.specs.Wanted.{wanted}
use Rattle.build_law.specs.Worlds.{script_world}
use Rattle.build_law.proofs.Assigning.{AllFrom, all_from, at_of, settled_at}
use Rattle.build_law.proofs.Blocks.{each_block}
use Rattle.build_law.proofs.Calling.{built_wanted}
use Rattle.build_law.proofs.Names.{each_name}
use Rattle.build_law.proofs.MadeKinds.{built_of}
use Rattle.build_law.proofs.Meeting.{IsBuiltBy, IsMadeBy, IsSettled, block_holds, made_of_place}
use Rattle.build_law.proofs.Outputs.{EachName}
use Rattle.build_law.proofs.Passing.{call_label}
use Rattle.build_law.proofs.Placing.{gives, row_told, source, stands_told, start, told}
use Rattle.build_law.proofs.Slots.{emits, of_call}
use Rattle.build_law.proofs.SourceLists.{given}
use Rattle.build_law.proofs.Sourcing.{same_sources, wanted_source}
use Rattle.build_law.proofs.Tables.{Matches, continues, made_wanted}
use Rattle.build_law.proofs.Values.{inner_length, inner_of, inner_rows}

module _ (script : Script) (inputs : List (List Value)) (made_ : List (Option Collection)) where
  -- what each node gives
  abbrev pub inner_values : ℕ → Made → List (List Collection)
  inner_values = inner_rows (script_world script inputs) (at_of made_)

  abbrev pub assigned : Place → Collection
  assigned c = told script nothing (at_of made_) inner_values c

  inner_sized : (t number : ℕ) (mk : Made)
      → get_or (built script) t None ≡ Some (built_of number mk)
      → length (inner_values number mk) ≡ before_last mk
  inner_sized t number mk found =
      length-map (inner_of (script_world script inputs) (at_of made_) number mk) (λ c. c ∷ [])
      ∙ inner_length (script_world script inputs) (at_of made_) number mk

  module _ (well : IsWellFormed script) (means : meaning script inputs ≡ Some made_) where
    pub matches : Matches made_ (wanted script)
    matches =
        let k = continues script script.nodes (in_order script inputs) [] made_ means in
        subst (λ table. Matches table (wanted script)) (sym k.is) k.matches

    -- a needed collection is given where it is
    pub stands_at : (j : ℕ) (how : Made) → get_or (wanted script) j None ≡ Some how
        → assigned (gives script j) ≡ at_of made_ j
    stands_at j how found =
        stands_told script nothing (at_of made_) inner_values inner_sized well j how found

    pub stands : (j : ℕ) (c : Collection) → made_at made_ j ≡ Some c
        → assigned (gives script j) ≡ at_of made_ j
    stands j c h =
        let (mk, found) = made_wanted made_ (wanted script) j c matches h in stands_at j mk found

    all_here : AllFrom script inputs (in_order script inputs) (given script inputs made_ means)
        made_ assigned (gives script) stands script.nodes 0 0
    all_here =
        all_from script inputs (in_order script inputs) (given script inputs made_ means) made_
        assigned (gives script) stands script.nodes (in_order script inputs) [] 0 refl tt means

    settled_option : (o : Option Collection) → ((c : Collection) → o ≡ Some c → IsSettled c)
        → IsSettled (or_nothing o)
    settled_option None h = record { bag = refl; set = refl }
    settled_option (Some c) h = h c refl

    pub all_settled : (j : ℕ) → IsSettled (at_of made_ j)
    all_settled j =
        settled_option (made_at made_ j) (λ c h. settled_at made_ all_here.settled j c h)

    -- what is needed meets its equation, and what it reads is given
    pub made_here : (j : ℕ) (how : Made) → get_or (wanted script) j None ≡ Some how
        → IsMadeBy script (script_world script inputs) (at_of made_) j
        (wanted_source 0 (wanted script) j) how
        × AllByRecursion (λ i. assigned (gives script i) ≡ at_of made_ i) (operands how)
    made_here j how found =
        let is =
        made_of_place script (script_world script inputs) (at_of made_) assigned (gives script) 0 0
        (wanted script) j how all_here.all_made found in (
          subst (λ o. IsMadeBy script (script_world script inputs) (at_of made_) o
              (wanted_source 0 (wanted script) j) how) (zero-add j) is.0,
          is.1,
        )

    -- ---- the nodes of each collection

    -- what the nodes of a collection that is built at a place are built by
    record IsFed (t number : ℕ) (mk : Made) : Type 0 where
      pub by :
          IsBuiltBy script (script_world script inputs) (at_of made_) number (source script t) mk
      pub reads : AllByRecursion (λ i. assigned (gives script i) ≡ at_of made_ i) (operands mk)

    name_is : (first input f i : ℕ)
        → get_or (wanted script) (first + i) None ≡ Some (made.Do input f i)
        → at_of made_ (first + i)
        ≡ through (script_world script inputs) (call_label first f i) (at_of made_ input)
    name_is first input f i found =
        let e : (first + i) - i ≡ first = omega arith in
        (made_here (first + i) (made.Do input f i) found).0
        ∙ ap (λ o. through (script_world script inputs) (call_label o f i) (at_of made_ input)) e

    call_fed : (t number input f o : ℕ)
        → get_or (built script) t None ≡ Some (built_of number (made.Do input f o))
        → IsFed t number (made.Do input f o)
    call_fed t number input f o found =
        let it = of_call script well t number input f o found in
        record {
          by = subst (λ first. EachName (λ name k needed. needed ≡ true → at_of made_ name
              ≡ through (script_world script inputs) (call_label first f k) (at_of made_ input))
              first 0 (names_needed script first f)) (sym it.from)
              (each_name script
              (λ name k needed. needed ≡ true
              → at_of made_ name
              ≡ through (script_world script inputs) (call_label it.first f k) (at_of made_ input))
              it.first 0 (suc (other_names script f))
              (λ i below needed.
              name_is it.first input f i
              (emits script well it.first input f it.call (it.first + i) i below refl needed)
              ∙ ap (λ k. through (script_world script inputs) (call_label it.first f k)
              (at_of made_ input)) (sym (zero-add i))));
          reads =
              (made_here number (made.Do input f o)
              (built_wanted script t number (made.Do input f o) found)).1;
        }

    fed : (t number : ℕ) (mk : Made)
        → get_or (built script) t None ≡ Some (built_of number mk) → IsFed t number mk
    fed t number (made.Do input f o) found = call_fed t number input f o found
    fed t number how found =
        let is = made_here number how (built_wanted script t number how found) in
        record {
          by = subst
              (λ s. IsMadeBy script (script_world script inputs) (at_of made_) number s how)
              (sym (same_sources script well t number how tt found)) is.0;
          reads = is.1;
        }

    pub meets : Meets (script_world script inputs) (nodes_of script) assigned
    meets =
        each_block script (gives script)
        (λ e. Holds (script_world script inputs) assigned e.number e.node) 0 0 (built script)
        (λ t b found.
        let it = fed t b.number b.made found in
        let rows =
        row_told script nothing (at_of made_) inner_values inner_sized t b.number b.made found in
        block_holds script (script_world script inputs) (at_of made_) assigned (gives script)
        all_settled b.number (source script t) (start script t) rows.0 b.made rows.1 it.reads it.by)
