-- The nodes of a collection of a script have types that fit.
use Rattle.std.proofs.Common.{◌≡◌, ℕ, suc, ◌+◌, ◌-◌, Bool, true, false, List, [], ◌∷◌, ◌++◌, map, length, get_or, Some, refl, sym, ap, ◌∙◌, subst, arith, add-zero, zero-add}
use Rattle.std.specs.Prelude.{slice_get}
use Rattle.std.specs.List.{AllByRecursion}
use Rattle.combine_table.specs.declared.comb.Comb.{Comb}
use Rattle.flume_types.specs.declared.types.Ty.{Ty}
use Rattle.flume_types.specs.declared.types.Ty.TheVariants as type
use Rattle.flume_types.specs.Tables.{table_of}
use Rattle.flume_value.proofs.EachLemmas.{each_from}
use Rattle.exec_graph.specs.Forests.{Branch}
use Rattle.exec_graph.specs.Meaning.{place}
use Rattle.exec_graph.specs.Typing.{ForestTyped, IsTagged, NodeTyped, Signatures, StepTyped}
use Rattle.exec_graph.specs.declared.graph.Place.{Place}
use Rattle.exec_graph.specs.declared.step.Does.TheVariants as does
use Rattle.graph_build.specs.Calls.{emitted_at, names_needed, needed_from, other_names}
use Rattle.graph_build.specs.Nodes.{before_last, call_branch, first_of, made_nodes, source_number}
use Rattle.graph_build.specs.of_script_program.Needed.{operands}
use Rattle.direct_meaning.proofs.TypeLemmas.{taken}
use Rattle.graph_build.specs.of_script_program.declared.made.Made.{Made}
use Rattle.graph_build.specs.of_script_program.declared.made.Made.TheVariants as made
use Rattle.graph_build.specs.of_script_program.Script.{Function, Node, Script}
use Rattle.written_types.specs.Named.{Named}
use Rattle.direct_meaning.specs.of_script_laws.WellFormed.{Fits, ComesOfCombine, IsCounted, ComesOfDo, ComesOfGroup, IsJoined, IsTop, function_at, members_at}
use Rattle.build_law.proofs.Outputs.{EachName, buds, kept}
use Rattle.build_law.proofs.TypedObjects.{beside_typed, operate_typed, types_read, whole_typed}

module _ (functions : Named Function) (before : Named Node) where
  -- the types of the nodes before the last
  abbrev pub inner_types : (made : Made) (t : Ty) → Fits functions before made t → List Ty
  inner_types (made.Count input) t fit =
      table_of fit.member type.Int ∷ table_of fit.member (type.List type.Int) ∷ []
  inner_types (made.Join left right) t fit =
      table_of fit.key (type.Either fit.left_value fit.right_value)
      ∷ table_of fit.key (type.Either fit.left_value fit.right_value)
      ∷ table_of fit.key (type.Either fit.left_value fit.right_value)
      ∷ table_of fit.key (type.List (type.Either fit.left_value fit.right_value)) ∷ []
  inner_types (made.Top many input) t fit =
      table_of type.Int t ∷ table_of type.Int (type.List t)
      ∷ table_of type.Int (type.List t) ∷ []
  inner_types (made.CombineAll input k) t fit =
      table_of type.Int fit.member ∷ table_of type.Int (type.List fit.member)
      ∷ table_of type.Int t ∷ []
  inner_types _ t fit = []

  abbrev pub inner_rows_of : (made : Made) (t : Ty) → Fits functions before made t → List (List Ty)
  inner_rows_of made t fit = map (λ u. u ∷ []) (inner_types made t fit)

  pub inner_count : (made : Made) (t : Ty) (fit : Fits functions before made t)
      → length (inner_types made t fit) ≡ before_last made
  inner_count (made.Input file columns) t fit = refl
  inner_count _ t fit = refl

module _ (script : Script) (s : Signatures) (functions : Named Function) (before : Named Node)
    (τ : Place → Ty) (gives : ℕ → Place) (typ : ℕ → Ty) where
  -- the types of what the last node of a collection gives
  abbrev pub row_of : ℕ → Made → Ty → List Ty
  row_of origin (made.Do input f output) t =
      kept typ (origin - output) (names_needed script (origin - output) f)
  row_of origin made t = t ∷ []

  -- what is read has the type that it has in the script
  abbrev pub Known : ℕ → Type 0
  Known j = (u : Ty) → members_at before j ≡ Some u → τ (gives j) ≡ u

  all_known : (inputs : List ℕ) (t : Ty) (c : Place) → τ c ≡ t
      → AllByRecursion Known inputs
      → AllByRecursion (λ j. members_at before j ≡ Some t) inputs
      → AllByRecursion (λ d. τ d ≡ τ c) (map gives inputs)
  all_known [] t c is known read = tt
  all_known (j ∷ inputs) t c is known read =
      (known.0 t read.0 ∙ sym is, all_known inputs t c is known.1 read.1)

  module _ (calls : (f : ℕ) (function : Function) → function_at functions f ≡ Some function
      → (s.takes f ≡ function.signature.takes) × (s.gives f ≡ function.signature.gives))
      (origin source n : ℕ) (later : List (List Ty)) where
    abbrev pub Typed : Made → Type 0
    Typed made =
        AllByRecursion (λ e. NodeTyped s τ e.number e.node)
        (made_nodes script gives origin source n made)

    abbrev Facts : (made : Made) (t : Ty) → Fits functions before made t → Type 0
    Facts made t fit =
        (k j : ℕ)
        → τ (place (n + k) j)
        ≡ get_or
        (get_or ((inner_rows_of functions before made t fit ++ row_of origin made t ∷ [])
        ++ later) k []) j type.Int

    at_start : {t : Ty} → τ (first_of (n + 0)) ≡ t → τ (first_of n) ≡ t
    at_start {t} h = subst (λ k. τ (first_of k) ≡ t) (add-zero n) h

    -- each output of a call gives the type of its name, where that is needed
    abbrev NameTyped : ℕ → ℕ → ℕ → Bool → Type 0
    NameTyped f number k needed =
        (u : Ty) × (slice_get (s.gives f) k ≡ Some u) × (needed ≡ true → typ number ≡ u)

    buds_typed : (b : Branch) (f : ℕ) (t : Ty) → b.does ≡ does.Call f → t ≡ s.takes f
        → (number k next : ℕ) (needed : List Bool)
        → ((i : ℕ) → τ (place n (next + i)) ≡ get_or (kept typ number needed) i type.Int)
        → EachName (NameTyped f) number k needed
        → ForestTyped s τ n t (buds b k next needed)
    buds_typed b f t call takes number k next [] row each = tt
    buds_typed b f t call takes number k next (true ∷ xs) row each =
        let u = each.0.0 in (
          (
            u,
            subst (λ d. StepTyped s d k t u) (sym call) (takes, each.0.1),
            subst (λ i. τ (place n i) ≡ typ number) (add-zero next) (row 0) ∙ each.0.2 refl,
            tt,
          ),
          buds_typed b f t call takes (suc number) (suc k) (next + 1) xs
              (λ i. subst (λ j. τ (place n j) ≡ get_or (kept typ (suc number) xs) i type.Int)
              (let e : next + suc i ≡ (next + 1) + i = omega arith in e) (row (suc i)))
              each.1,
        )
    buds_typed b f t call takes number k next (false ∷ xs) row each =
        let u = each.0.0 in (
          (u, subst (λ d. StepTyped s d k t u) (sym call) (takes, each.0.1), tt, tt),
          buds_typed b f t call takes (suc number) (suc k) next xs row each.1,
        )

    do_typed : (input f output : ℕ) (t : Ty) (fit : ComesOfDo functions before input f output t)
        → Facts (made.Do input f output) t fit → Known input
        → EachName (NameTyped f) (origin - output) 0 (names_needed script (origin - output) f)
        → Typed (made.Do input f output)
    do_typed input f output t fit fact known names =
        let call = calls f fit.function fit.calls in
        let takes : τ (gives input) ≡ s.takes f =
        known fit.function.signature.takes fit.takes ∙ sym call.0 in
        let first : ℕ = origin - output in
        let b = call_branch first f (emitted_at script first)
        (needed_from script (suc first) (other_names script f)) in
        let flags = names_needed script first f in (
          buds_typed b f (τ (gives input)) refl takes first 0 0 flags
              (λ i. subst (λ k. τ (place n k) ≡ get_or (kept typ first flags) i type.Int)
              (sym (zero-add i))
              (subst (λ k. τ (place k i) ≡ get_or (kept typ first flags) i type.Int) (add-zero n)
              (fact 0 i)))
              names,
          tt,
        )

    group_typed : (input : ℕ) (t : Ty) (fit : ComesOfGroup before input t)
        → Facts (made.Group input) t fit → Known input → Typed (made.Group input)
    group_typed input t fit fact known = (
      record {
        key = fit.key;
        value = fit.value;
        takes = known (table_of fit.key fit.value) fit.reads;
        gives = at_start (fact 0 0) ∙ fit.gives;
      },
      tt,
    )

    combine_typed : (input : ℕ) (k : Comb) (t : Ty) (fit : ComesOfCombine before input k t)
        → Facts (made.Combine input k) t fit → Known input → Typed (made.Combine input k)
    combine_typed input k t fit fact known =
        let suits = taken k fit.member fit.value fit.suits in (
          (
            (
              t,
              (
                refl,
                record {
                  key = fit.key;
                  value = fit.member;
                  takes = known (table_of fit.key (type.List fit.member)) fit.reads;
                  suits = suits.0;
                  gives = fit.gives ∙ ap (table_of fit.key) suits.1;
                },
              ),
              at_start (fact 0 0),
              tt,
            ),
            tt,
          ),
          tt,
        )

    count_typed : (input : ℕ) (t : Ty) (fit : IsCounted before input t)
        → Facts (made.Count input) t fit → Known input → Typed (made.Count input)
    count_typed input t fit fact known =
        let read : τ (gives input) ≡ fit.member = known fit.member fit.reads in
        let first : τ (first_of n) ≡ table_of fit.member type.Int = at_start (fact 0 0) in
        let second : τ (first_of (n + 1)) ≡ table_of fit.member (type.List type.Int) = fact 1 0 in (
          (
            (
              table_of fit.member type.Int,
              (refl, ap (λ u. table_of u type.Int) (sym read)),
              first,
              tt,
            ),
            tt,
          ),
          (
            record { key = fit.member; value = type.Int; takes = first; gives = second },
            (
              (
                (
                  t,
                  (
                    refl,
                    record {
                      key = fit.member;
                      value = type.Int;
                      takes = second;
                      suits = refl;
                      gives = fit.gives;
                    },
                  ),
                  fact 2 0,
                  tt,
                ),
                tt,
              ),
              tt,
            ),
          ),
        )

    -- a side of a join, with the tag of that side
    tagged : (side : Ty → Ty → Ty) (key left right t : Ty) → t ≡ table_of key (side left right)
        → IsTagged side t (table_of key (type.Either left right))
    tagged side key left right t takes =
        record { key = key; left = left; right = right; takes = takes; gives = refl }

    join_typed : (left right : ℕ) (t : Ty) (fit : IsJoined before left right t)
        → Facts (made.Join left right) t fit → Known left → Known right
        → Typed (made.Join left right)
    join_typed left right t fit fact known other =
        let either : Ty = type.Either fit.left_value fit.right_value in
        let first : τ (first_of n) ≡ table_of fit.key either = at_start (fact 0 0) in
        let second : τ (first_of (n + 1)) ≡ table_of fit.key either = fact 1 0 in
        let third : τ (first_of (n + 2)) ≡ table_of fit.key either = fact 2 0 in
        let fourth : τ (first_of (n + 3)) ≡ table_of fit.key (type.List either) = fact 3 0 in
        let one =
        tagged (λ l r. l) fit.key fit.left_value fit.right_value (τ (gives left))
        (known (table_of fit.key fit.left_value) fit.reads_left) in
        let two =
        tagged (λ l r. r) fit.key fit.left_value fit.right_value (τ (gives right))
        (other (table_of fit.key fit.right_value) fit.reads_right) in (
          ((table_of fit.key either, (refl, one), first, tt), tt),
          (
            ((table_of fit.key either, (refl, two), second, tt), tt),
            (
              (first ∙ sym third, (second ∙ sym third, tt)),
              (
                record { key = fit.key; value = either; takes = third; gives = fourth },
                (
                  (
                    (
                      t,
                      (
                        refl,
                        record {
                          key = fit.key;
                          left = fit.left_value;
                          right = fit.right_value;
                          takes = fourth;
                          gives = fit.gives;
                        },
                      ),
                      fact 4 0,
                      tt,
                    ),
                    tt,
                  ),
                  tt,
                ),
              ),
            ),
          ),
        )

    top_typed : (many input : ℕ) (t : Ty) (fit : IsTop before many input t)
        → Facts (made.Top many input) t fit → Known input → Typed (made.Top many input)
    top_typed many input t fit fact known =
        let read : τ (gives input) ≡ t = known t fit.reads in
        let first : τ (first_of n) ≡ table_of type.Int t = at_start (fact 0 0) in
        let second : τ (first_of (n + 1)) ≡ table_of type.Int (type.List t) = fact 1 0 in
        let third : τ (first_of (n + 2)) ≡ table_of type.Int (type.List t) = fact 2 0 in (
          ((table_of type.Int t, (refl, ap (table_of type.Int) (sym read)), first, tt), tt),
          (
            record { key = type.Int; value = t; takes = first; gives = second },
            (
              (
                (
                  table_of type.Int (type.List t),
                  (
                    refl,
                    record {
                      key = type.Int;
                      value = t;
                      takes = second;
                      suits = tt;
                      gives = refl;
                    },
                  ),
                  third,
                  tt,
                ),
                tt,
              ),
              (((t, (refl, record { key = type.Int; takes = third }), fact 3 0, tt), tt), tt),
            ),
          ),
        )

    -- a source is the next one
    abbrev pub HasInput : Made → Ty → Type 0
    HasInput (made.Input file columns) t = s.inputs (source_number script source) ≡ t
    HasInput (made.Saved is_object call) t = s.inputs (source_number script source) ≡ t
    HasInput _ t = Unit {0}

    -- the names of a call have the types that its function gives
    abbrev pub HasNames : Made → Type 0
    HasNames (made.Do input f output) =
        EachName (NameTyped f) (origin - output) 0 (names_needed script (origin - output) f)
    HasNames _ = Unit {0}

    pub block_typed : (made : Made) (t : Ty) (fit : Fits functions before made t)
        → Facts made t fit
        → HasInput made t
        → AllByRecursion Known (operands made) → HasNames made → Typed made
    block_typed (made.Input file columns) t fit fact input_ known names =
        (at_start (fact 0 0) ∙ sym input_, tt)
    block_typed (made.Saved is_object call) t fit fact input_ known names =
        (at_start (fact 0 0) ∙ sym input_, tt)
    block_typed (made.Do input f output) t fit fact input_ known names =
        do_typed input f output t fit fact known.0 names
    block_typed (made.Group input) t fit fact input_ known names =
        group_typed input t fit fact known.0
    block_typed (made.Combine input k) t fit fact input_ known names =
        combine_typed input k t fit fact known.0
    block_typed (made.Flatten inputs) t fit fact input_ known names = (
      all_known inputs t (first_of n) (at_start (fact 0 0)) known
          (each_from (λ j. members_at before j ≡ Some t) inputs fit.read),
      tt,
    )
    block_typed (made.Count input) t fit fact input_ known names =
        count_typed input t fit fact known.0
    block_typed (made.Join left right) t fit fact input_ known names =
        join_typed left right t fit fact known.0 known.1.0
    block_typed (made.Top many input) t fit fact input_ known names =
        top_typed many input t fit fact known.0
    block_typed (made.CombineAll input k) t fit fact input_ known names =
        whole_typed s τ script gives origin source n input k fit.member t fit.suits
        (known.0 fit.member fit.reads) (at_start (fact 0 0)) (fact 1 0) (fact 2 0) (fact 3 0)
    block_typed (made.Operate objects f) t fit fact input_ known names =
        let call = calls f fit.function fit.calls in
        operate_typed s τ script gives origin source n f fit.function call.0 call.1 objects
        fit.types t fit.takes fit.gives
        (types_read τ gives (λ j u. members_at before j ≡ Some u) objects fit.types known
        fit.reads)
        (at_start (fact 0 0))
    block_typed (made.DoWith input f object) t fit fact input_ known names =
        let call = calls f fit.function fit.calls in
        beside_typed s τ script gives origin source n f fit.function call.0 call.1 input object
        fit.member fit.value t fit.takes fit.gives (known.0 fit.member fit.reads)
        (known.1.0 fit.value fit.reads_object) (at_start (fact 0 0))
