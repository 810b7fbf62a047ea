-- The graph of a script has types that fit: those of the script's collections.
use Rattle.std.proofs.Common.{◌≡◌, ℕ, zero, suc, ◌+◌, ◌-◌, ◌<◌, Bool, true, false, List, [], ◌∷◌, ◌++◌, map, length, get_or, Option, Some, None, refl, sym, ap, ◌∙◌, subst, arith, add-zero, zero-add}
use Rattle.std.specs.Prelude.{slice_get}
use Rattle.std.specs.Option.{option_map}
use Rattle.std.specs.List.{AllByRecursion}
use Rattle.std.proofs.lemmas.List.{length-map}
use Rattle.flume_types.specs.declared.types.Ty.{Ty}
use Rattle.flume_types.specs.declared.types.Ty.TheVariants as type
use Rattle.exec_graph.specs.Typing.{IsTyped, NodeTyped}
use Rattle.exec_graph.specs.declared.graph.Entry.{Entry}
use Rattle.exec_graph.specs.declared.graph.Place.{Place}
use Rattle.graph_build.specs.Built.{built}
use Rattle.graph_build.specs.Calls.{emitted_as, emitted_at, names_needed, other_names}
use Rattle.graph_build.specs.Graphs.{graph_of}
use Rattle.graph_build.specs.Nodes.{before_last, made_nodes}
use Rattle.graph_build.specs.Wanted.{wanted}
use Rattle.graph_build.specs.of_script_program.Needed.{made_of, operands}
use Rattle.graph_build.specs.of_script_program.declared.made.Emitted.{Emitted}
use Rattle.graph_build.specs.of_script_program.declared.made.Made.{Made}
use Rattle.graph_build.specs.of_script_program.declared.made.Made.TheVariants as made
use Rattle.graph_build.specs.of_script_program.Script.{Function, Node, Script}
use Rattle.written_types.specs.Named.{Named}
use Rattle.direct_meaning.specs.of_script_laws.WellFormed.{AllFit, Fits, IsWellFormed, function_at, members_at}
use Rattle.build_law.specs.Signatures.{given_by, signatures_of, source_type, taken_by}
use Rattle.build_law.proofs.Blocks.{each_block}
use Rattle.build_law.proofs.Calling.{built_made, built_wanted, each_contained, slice_seam}
use Rattle.build_law.proofs.Names.{each_name}
use Rattle.build_law.proofs.Naming.{IsCall, emitted_fits, fits_at, name_at, operand_wanted}
use Rattle.build_law.proofs.MadeKinds.{IsOther, Kind, built_of, called, emission, kind_of, other}
use Rattle.build_law.proofs.Outputs.{EachName}
use Rattle.build_law.proofs.Placing.{gives, last_row, row_told, source, stands_told, start, told}
use Rattle.build_law.proofs.Slots.{of_call}
use Rattle.build_law.proofs.SourceTypes.{source_is}
use Rattle.build_law.proofs.Tables.{one_longer}
use Rattle.build_law.proofs.TypedBlocks.{HasInput, HasNames, Known, block_typed, inner_count, inner_rows_of, inner_types, row_of}
use Rattle.build_law.proofs.Values.{regrouped}

-- ---- the types of all places

module _ (script : Script) (well : IsWellFormed script) where
  -- the type of a collection; int where there is none
  abbrev or_int : Option Ty → Ty
  or_int None = type.Int
  or_int (Some t) = t

  abbrev typ : ℕ → Ty
  typ j = or_int (members_at script.nodes j)

  -- how each collection fits where it stands
  record Fitted : Type 0 where
    pub before : Named Node
    pub how : Made
    pub type : Ty
    pub fit : Fits script.functions before how type

  abbrev fitted_from : (before nodes : Named Node) → AllFit script.functions before nodes
      → List Fitted
  fitted_from before [] fit = []
  fitted_from before (entry ∷ nodes) fit =
      record {
        before = before;
        how = entry.1.made;
        type = entry.1.type;
        fit = fit.0;
      }
      ∷ fitted_from (before ++ entry ∷ []) nodes fit.1

  abbrev fitted : List Fitted
  fitted = fitted_from [] script.nodes well.nodes

  abbrev inner_if : Option Fitted → List (List Ty)
  inner_if None = []
  inner_if (Some it) = inner_rows_of script.functions it.before it.how it.type it.fit

  abbrev inner : ℕ → Made → List (List Ty)
  inner t mk = inner_if (slice_get fitted t)

  record IsFitted (t : ℕ) (mk : Made) : Type 0 where
    pub it : Fitted
    pub at : slice_get fitted t ≡ Some it
    pub how : it.how ≡ mk
    pub rest : Named Node
    pub nodes : script.nodes ≡ it.before ++ rest
    pub size : length it.before ≡ t
    pub type : members_at script.nodes t ≡ Some it.type

  fitted_at : (before nodes : Named Node) (fit : AllFit script.functions before nodes)
      (origin t : ℕ) (mk : Made) → script.nodes ≡ before ++ nodes → length before ≡ origin
      → slice_get (map (λ entry. entry.1.made) nodes) t ≡ Some mk
      → (it : Fitted) × (slice_get (fitted_from before nodes fit) t ≡ Some it) × (it.how ≡ mk)
      × (rest : Named Node) × (script.nodes ≡ it.before ++ rest)
      × (length it.before ≡ origin + t) × (members_at script.nodes (origin + t) ≡ Some it.type)
  fitted_at before [] fit origin t mk is size found = cc
  fitted_at before (entry ∷ nodes) fit origin zero mk is size found = (
    record {
      before = before;
      how = entry.1.made;
      type = entry.1.type;
      fit = fit.0;
    },
    refl,
    cc,
    entry ∷ nodes,
    is,
    size ∙ sym (add-zero origin),
    ap (members_at script.nodes) (add-zero origin)
        ∙ ap (option_map (λ (one : List ℕ × Node). one.1.type))
        (slice_seam script.nodes before nodes entry origin is size),
  )
  fitted_at before (entry ∷ nodes) fit origin (suc t) mk is size found =
      let e : suc origin + t ≡ origin + suc t = omega arith in
      let rest = fitted_at (before ++ entry ∷ []) nodes fit.1 (suc origin) t mk
      (regrouped script.nodes before (entry ∷ []) nodes is)
      (one_longer before entry ∙ ap suc size) found in (
        rest.0,
        rest.1,
        rest.2,
        rest.3,
        rest.4,
        rest.5 ∙ e,
        ap (members_at script.nodes) (sym e) ∙ rest.6,
      )

  is_fitted : (t : ℕ) (mk : Made) → slice_get (made_of script) t ≡ Some mk → IsFitted t mk
  is_fitted t mk found =
      let f = fitted_at [] script.nodes well.nodes 0 t mk refl refl found in
      record {
        it = f.0;
        at = f.1;
        how = f.2;
        rest = f.3;
        nodes = f.4;
        size = f.5 ∙ zero-add t;
        type = ap (members_at script.nodes) (sym (zero-add t)) ∙ f.6;
      }

  sized : (t number : ℕ) (mk : Made)
      → get_or (built script) t None ≡ Some (built_of number mk)
      → length (inner number mk) ≡ before_last mk
  sized t number mk found =
      let f = is_fitted number mk (built_made script t number mk found) in
      ap (λ o. length (inner_if o)) f.at
      ∙ length-map (inner_types script.functions f.it.before f.it.how f.it.type f.it.fit)
      (λ u. u ∷ [])
      ∙ inner_count script.functions f.it.before f.it.how f.it.type f.it.fit
      ∙ ap before_last f.how

  abbrev τ : Place → Ty
  τ c = told script type.Int typ inner c

  members_more : (xs ys : Named Node) (j : ℕ) (u : Ty) → members_at xs j ≡ Some u
      → members_at (xs ++ ys) j ≡ Some u
  members_more [] ys j u h = cc
  members_more (x ∷ xs) ys zero u h = h
  members_more (x ∷ xs) ys (suc j) u h = members_more xs ys j u h

  the_calls : (f : ℕ) (function : Function) → function_at script.functions f ≡ Some function
      → ((signatures_of script).takes f ≡ function.signature.takes)
      × ((signatures_of script).gives f ≡ function.signature.gives)
  the_calls f function is = (ap taken_by is, ap given_by is)

  known : (before rest : Named Node) (j : ℕ) (how : Made) → script.nodes ≡ before ++ rest
      → get_or (wanted script) j None ≡ Some how
      → Known script (signatures_of script) script.functions before τ (gives script) typ j
  known before rest j how is found u read =
      stands_told script type.Int typ inner sized well j how found
      ∙ ap or_int (subst (λ nodes. members_at nodes j ≡ Some u) (sym is)
      (members_more before rest j u read))

  -- the names of a call have the types that its function gives
  abbrev NameGives : ℕ → ℕ → ℕ → Bool → Type 0
  NameGives f number k needed =
      (u : Ty) × (slice_get ((signatures_of script).gives f) k ≡ Some u)
      × (needed ≡ true → typ number ≡ u)

  -- an output of a call, by how it is made
  name_gives : (number : ℕ) (how : Made) (it : Emitted)
      → slice_get (made_of script) number ≡ Some how → emitted_as how ≡ Some it
      → NameGives it.function number it.output (emitted_at script number)
  name_gives number how it is emitted =
      let g = fits_at script well number how is in
      let fit = emitted_fits script.functions g.before how it g.type emitted g.fit in (
        g.type,
        ap (λ (ts : List Ty). slice_get ts it.output)
            (the_calls it.function fit.function fit.calls).1
            ∙ fit.gives,
        λ needed. ap or_int g.has,
      )

  name_at_gives : (first source f : ℕ) → IsCall script first source f → (i : ℕ)
      → i < suc (other_names script f)
      → NameGives f (first + i) i (emitted_at script (first + i))
  name_at_gives first source f call i below =
      let it = name_at script well first source f call i below in
      name_gives (first + i) it.how (emission f i) it.made it.emitted

  call_names : (t number input f o : ℕ)
      → get_or (built script) t None ≡ Some (built_of number (made.Do input f o))
      → EachName (NameGives f) (number - o) 0 (names_needed script (number - o) f)
  call_names t number input f o found =
      let it = of_call script well t number input f o found in
      subst (λ first. EachName (NameGives f) first 0 (names_needed script first f))
      (sym it.from)
      (each_name script (NameGives f) it.first 0 (suc (other_names script f))
      (λ i below. subst (λ k. NameGives f (it.first + i) k (emitted_at script (it.first + i)))
      (sym (zero-add i)) (name_at_gives it.first input f it.call i below)))

  module _ (t number : ℕ) (mk : Made)
      (found : get_or (built script) t None ≡ Some (built_of number mk))
      (f : IsFitted number mk) where
    abbrev the : Made
    the = f.it.how

    at_the : get_or (built script) t None ≡ Some (built_of number the)
    at_the = found ∙ ap (λ (how : Made). Some (built_of number how)) (sym f.how)

    typ_is : typ number ≡ f.it.type
    typ_is = ap or_int f.type

    row_is : (how : Made) → last_row script type.Int typ inner number how
        ≡ row_of script (signatures_of script) script.functions f.it.before τ (gives script) typ
        number how f.it.type
    row_is (made.Do input g output) = refl
    row_is _ = ap (λ u. u ∷ []) typ_is

    abbrev NamesOf : Made → Type 0
    NamesOf how =
        HasNames script (signatures_of script) script.functions f.it.before τ (gives script) typ
        the_calls number (source script t) (start script t) [] how

    names_of : {how : Made} → Kind how
        → get_or (built script) t None ≡ Some (built_of number how) → NamesOf how
    names_of (called input g o) at = call_names t number input g o at
    names_of (other how apart) at = none how apart
      where
        none : (how : Made) → IsOther how → NamesOf how
        none (made.Do input g o) h = absurd h
        none _ h = tt

    abbrev InputOf : Made → Type 0
    InputOf how =
        HasInput script (signatures_of script) script.functions f.it.before τ (gives script) typ
        the_calls number (source script t) (start script t) [] how f.it.type

    input_of : (how : Made) → get_or (built script) t None ≡ Some (built_of number how)
        → InputOf how
    input_of (made.Input file columns) at =
        ap source_type
        (source_is script well t number (made.Input file columns) f.it.type
        (record { type = f.it.type; is_object = false }) tt at f.type refl)
    input_of (made.Saved is_object call) at =
        ap source_type
        (source_is script well t number (made.Saved is_object call) f.it.type
        (record { type = f.it.type; is_object = is_object }) tt at f.type refl)
    input_of _ at = tt

    the_typed : AllByRecursion (λ e. NodeTyped (signatures_of script) τ e.number e.node)
        (made_nodes script (gives script) number (source script t) (start script t) the)
    the_typed =
        let rows = row_told script type.Int typ inner sized t number the at_the in
        block_typed script (signatures_of script) script.functions f.it.before τ (gives script) typ
        the_calls number (source script t) (start script t) rows.0 the f.it.type f.it.fit
        (λ k j. rows.1 k j
        ∙ (λ i. get_or (get_or ((inner_if (f.at i) ++ row_is the i ∷ []) ++ rows.0) k []) j
        type.Int))
        (input_of the at_the)
        (each_contained
        (Known script (signatures_of script) script.functions f.it.before τ (gives script) typ)
        (operands the)
        (λ j reads_.
        let it = operand_wanted script well number j the
        (built_wanted script t number the at_the) reads_ in
        known f.it.before f.rest j it.0 f.nodes it.1))
        (names_of (kind_of the) at_the)

    block_is_typed : AllByRecursion (λ e. NodeTyped (signatures_of script) τ e.number e.node)
        (made_nodes script (gives script) number (source script t) (start script t) mk)
    block_is_typed =
        subst (λ (how : Made). AllByRecursion
        (λ e. NodeTyped (signatures_of script) τ e.number e.node)
        (made_nodes script (gives script) number (source script t) (start script t) how)) f.how
        the_typed

  pub is_typed : IsTyped (signatures_of script) (graph_of script)
  is_typed = (
    τ,
    each_block script (gives script)
        (λ (e : Entry). NodeTyped (signatures_of script) τ e.number e.node) 0 0 (built script)
        (λ t b found.
        block_is_typed t b.number b.made found
        (is_fitted b.number b.made (built_made script t b.number b.made found))),
  )
