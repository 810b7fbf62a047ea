-- The nodes of a script's collections meet their equations, where the collections meet theirs.
use Rattle.std.proofs.Common.{◌≡◌, ℕ, zero, suc, ◌+◌, ◌-◌, true, false, List, [], ◌∷◌, ◌++◌, map, get_or, Option, Some, None, refl, sym, ap, ◌∙◌, subst, arith, add-zero, zero-add}
use Rattle.std.specs.List.{AllByRecursion}
use Rattle.flume_value.specs.Bag.{bag_of}
use Rattle.flume_collection.specs.Collection.{Collection, by_key, together}
use Rattle.flume_collection.specs.Traps.{trap_set}
use Rattle.combine_table.specs.declared.comb.Comb.{Comb}
use Rattle.combine_table.specs.declared.comb.Comb.TheVariants as by
use Rattle.exec_graph.specs.Meaning.{Holds, Meets, nothing, place, through}
use Rattle.exec_graph.specs.Objects.{act_result, operated, side_input}
use Rattle.exec_graph.specs.World.{World}
use Rattle.exec_graph.specs.declared.graph.Act.TheVariants.{SideInput, Operate, Singleton}
use Rattle.exec_graph.specs.declared.graph.Node.{Node}
use Rattle.exec_graph.specs.declared.graph.Place.{Place}
use Rattle.exec_graph.specs.declared.step.Does.TheVariants as does
use Rattle.exec_graph.proofs.Barriers.{barrier_operate, barrier_side_input}
use Rattle.graph_build.specs.Calls.{emitted_at, names_needed, needed_from, other_names}
use Rattle.graph_build.specs.Nodes.{barrier, call_branch, entry, first_of, gbk_of, made_nodes, source_number}
use Rattle.graph_build.specs.of_script_program.Needed.{operands}
use Rattle.graph_build.specs.of_script_program.declared.made.Made.{Made}
use Rattle.graph_build.specs.of_script_program.declared.made.Made.TheVariants as made
use Rattle.graph_build.specs.of_script_program.Script.{Script}
use Rattle.direct_meaning.specs.Direct.{combined_by, counted_by, joined_collections, top_by}
use Rattle.direct_meaning.specs.Objects.{combined_whole}
use Rattle.build_law.proofs.Passing.{call_label, only_label, through_combined}
use Rattle.build_law.proofs.Counting.{count_is}
use Rattle.build_law.proofs.Joining.{join_is}
use Rattle.build_law.proofs.Outputs.{EachName, buds_fit, kept}
use Rattle.build_law.proofs.Placing.{all_rows}
use Rattle.build_law.proofs.Sourcing.{next_wanted, wanted_source}
use Rattle.build_law.proofs.Topping.{top_is}
use Rattle.build_law.proofs.Values.{inner_rows, ones, tagged, zeros, greatest_of, whole_of}
use Rattle.build_law.proofs.Wholes.{whole_is}
use Rattle.build_law.proofs.Steps.{last_step, step}

-- a bag and a set
pub record IsSettled (c : Collection) : Type 0 where
  pub bag : bag_of c.bag ≡ c.bag
  pub set : trap_set c.traps ≡ c.traps

-- the equation of the collection `origin`, where `source` is the number of the next source in order
-- of the script
abbrev pub IsMadeBy : Script → World → (ℕ → Collection) → ℕ → ℕ → Made → Type 0
IsMadeBy script w at origin source (made.Input file columns) =
    at origin ≡ record { bag = bag_of (w.rows (source_number script source)); traps = [] }
IsMadeBy script w at origin source (made.Do input function output) =
    at origin ≡ through w (call_label (origin - output) function output) (at input)
IsMadeBy script w at origin source (made.Group input) = at origin ≡ by_key (at input)
IsMadeBy script w at origin source (made.Combine input comb) =
    at origin ≡ combined_by origin comb (at input)
IsMadeBy script w at origin source (made.Flatten inputs) = at origin ≡ together (map at inputs)
IsMadeBy script w at origin source (made.Count input) = at origin ≡ counted_by origin (at input)
IsMadeBy script w at origin source (made.Join left right) =
    at origin ≡ joined_collections (at left) (at right)
IsMadeBy script w at origin source (made.Top many input) = at origin ≡ top_by many (at input)
IsMadeBy script w at origin source (made.CombineAll input comb) =
    at origin ≡ combined_whole origin comb (at input)
IsMadeBy script w at origin source (made.Operate objects function) =
    at origin ≡ operated w origin function (map at objects)
IsMadeBy script w at origin source (made.DoWith input function object) =
    at origin ≡ side_input w origin function (at input) (at object)
IsMadeBy script w at origin source (made.Saved is_object call) =
    at origin ≡ record { bag = bag_of (w.rows (source_number script source)); traps = [] }

-- the equations of the collections that the nodes of `origin` give: of a call, of each name that it
-- emits
abbrev pub IsBuiltBy : Script → World → (ℕ → Collection) → ℕ → ℕ → Made → Type 0
IsBuiltBy script w at origin source (made.Do input function output) =
    EachName
    (λ number k needed. needed ≡ true
    → at number ≡ through w (call_label (origin - output) function k) (at input))
    (origin - output) 0 (names_needed script (origin - output) function)
IsBuiltBy script w at origin source made = IsMadeBy script w at origin source made

module _ (script : Script) (w : World) (at : ℕ → Collection) (m : Place → Collection)
    (gives : ℕ → Place) where
  -- what a collection reads is given where the nodes read it
  abbrev pub Reads : Made → Type 0
  Reads made = AllByRecursion (λ j. m (gives j) ≡ at j) (operands made)

  same_inputs : (js : List ℕ) → AllByRecursion (λ j. m (gives j) ≡ at j) js
      → map m (map gives js) ≡ map at js
  same_inputs [] h = refl
  same_inputs (j ∷ js) h = λ i. h.0 i ∷ same_inputs js h.1 i

  module _ (settled : (j : ℕ) → IsSettled (at j)) (origin source n : ℕ)
      (later : List (List Collection)) where
    -- the first node's value
    at_first : {v : Collection} → m (first_of (n + 0)) ≡ v → m (first_of n) ≡ v
    at_first {v} h = subst (λ k. m (first_of k) ≡ v) (add-zero n) h

    abbrev Facts : Made → Type 0
    Facts made =
        (k j : ℕ)
        → m (place (n + k) j)
        ≡ get_or
        (get_or (all_rows script nothing at (inner_rows w at) origin made ++ later) k [])
        j nothing

    count_holds : (input : ℕ) → Facts (made.Count input) → m (gives input) ≡ at input
        → at origin ≡ counted_by origin (at input)
        → Meets w (made_nodes script gives origin source n (made.Count input)) m
    count_holds input fact read is =
        let pair = only_label origin false does.Pair in
        let sum = only_label origin true (does.Combine by.Sum) in
        let first : m (first_of n) ≡ ones w origin (at input) = at_first (fact 0 0) in
        let second : m (first_of (n + 1)) ≡ by_key (ones w origin (at input)) = fact 1 0 in
        let third : m (first_of (n + 2)) ≡ at origin = fact 2 0 in (
          (first ∙ ap (through w pair) (sym read), tt, tt),
          (
            second ∙ ap by_key (sym first),
            (
              (
                third ∙ is ∙ sym (count_is w origin (at input) (settled input).set)
                    ∙ ap (through w sum) (sym second),
                tt,
                tt,
              ),
              tt,
            ),
          ),
        )

    join_holds : (left right : ℕ) → Facts (made.Join left right)
        → m (gives left) ≡ at left → m (gives right) ≡ at right
        → at origin ≡ joined_collections (at left) (at right)
        → Meets w (made_nodes script gives origin source n (made.Join left right)) m
    join_holds left right fact read other is =
        let tag_left = only_label origin false does.TagLeft in
        let tag_right = only_label origin false does.TagRight in
        let split = only_label origin true does.Split in
        let all : Collection = tagged w origin (at left) (at right) in
        let first : m (first_of n) ≡ through w tag_left (at left) = at_first (fact 0 0) in
        let second : m (first_of (n + 1)) ≡ through w tag_right (at right) = fact 1 0 in
        let third : m (first_of (n + 2)) ≡ all = fact 2 0 in
        let fourth : m (first_of (n + 3)) ≡ by_key all = fact 3 0 in
        let fifth : m (first_of (n + 4)) ≡ at origin = fact 4 0 in (
          (first ∙ ap (through w tag_left) (sym read), tt, tt),
          (
            (second ∙ ap (through w tag_right) (sym other), tt, tt),
            (
              third ∙ (λ i. together (sym first i ∷ sym second i ∷ [])),
              (
                fourth ∙ ap by_key (sym third),
                (
                  (
                    fifth ∙ is
                        ∙ sym (join_is w origin (at left) (at right) (settled left).set
                        (settled right).set)
                        ∙ ap (through w split) (sym fourth),
                    tt,
                    tt,
                  ),
                  tt,
                ),
              ),
            ),
          ),
        )

    -- all members under one key, in one group, combined, and what stands behind
    combined_holds : (input : ℕ) (k : Comb) (last : Node) → m (gives input) ≡ at input
        → m (first_of n) ≡ zeros w origin (at input)
        → m (first_of (n + 1)) ≡ by_key (zeros w origin (at input))
        → m (first_of (n + 2)) ≡ whole_of w origin k (at input)
        → Holds w m (n + 3) last
        → Meets w
        (entry n (step origin does.Solo (gives input))
        ∷ entry (n + 1) (gbk_of origin (first_of n))
        ∷ entry (n + 2) (step origin (does.Combine k) (first_of (n + 1)))
        ∷ entry (n + 3) last ∷ []) m
    combined_holds input k last read first second third holds = (
      (first ∙ ap (through w (only_label origin false does.Solo)) (sym read), tt, tt),
      (
        second ∙ ap by_key (sym first),
        (
          (
            third ∙ ap (through w (only_label origin false (does.Combine k))) (sym second),
            tt,
            tt,
          ),
          (holds, tt),
        ),
      ),
    )

    top_holds : (many input : ℕ) → Facts (made.Top many input) → m (gives input) ≡ at input
        → at origin ≡ top_by many (at input)
        → Meets w (made_nodes script gives origin source n (made.Top many input)) m
    top_holds many input fact read is =
        let spread = only_label origin true does.Spread in
        let third : m (first_of (n + 2)) ≡ greatest_of w origin many (at input) = fact 2 0 in
        let fourth : m (first_of (n + 3)) ≡ at origin = fact 3 0 in
        combined_holds input (by.Top many) (last_step origin does.Spread (first_of (n + 2)))
        read (at_first (fact 0 0)) (fact 1 0) third (
          fourth ∙ is
              ∙ sym (top_is w origin many (at input) (settled input).set (settled input).bag)
              ∙ ap (through w spread) (sym third),
          tt,
          tt,
        )

    whole_holds : (input : ℕ) (k : Comb) → Facts (made.CombineAll input k)
        → m (gives input) ≡ at input → at origin ≡ combined_whole origin k (at input)
        → Meets w (made_nodes script gives origin source n (made.CombineAll input k)) m
    whole_holds input k fact read is =
        let third : m (first_of (n + 2)) ≡ whole_of w origin k (at input) = fact 2 0 in
        let fourth : m (first_of (n + 3)) ≡ at origin = fact 3 0 in
        combined_holds input k (barrier origin (Singleton k) (first_of (n + 2) ∷ [])) read
        (at_first (fact 0 0)) (fact 1 0) third
        (fourth ∙ is
        ∙ sym (whole_is w origin k (at input) (settled input).set (settled input).bag)
        ∙ ap (λ c. act_result w origin (Singleton k) (c ∷ [])) (sym third))

    pub block_holds : (made : Made) → Facts made → Reads made
        → IsBuiltBy script w at origin source made
        → Meets w (made_nodes script gives origin source n made) m
    block_holds (made.Input file columns) fact reads is = (at_first (fact 0 0) ∙ is, tt)
    block_holds (made.Do input function output) fact reads is =
        let first : ℕ = origin - output in
        let b = call_branch first function (emitted_at script first)
        (needed_from script (suc first) (other_names script function)) in
        let names = names_needed script first function in (
          buds_fit w b (m (gives input)) m n at first 0 0 names
              (λ i. subst (λ k. m (place n k) ≡ get_or (kept at first names) i nothing)
              (sym (zero-add i))
              (subst (λ k. m (place k i) ≡ get_or (kept at first names) i nothing) (add-zero n)
              (fact 0 i)))
              (subst (λ c. EachName (λ number k needed. needed ≡ true
              → at number ≡ through w (call_label first function k) c) first 0 names)
              (sym reads.0) is),
          tt,
        )
    block_holds (made.Group input) fact reads is =
        (at_first (fact 0 0) ∙ is ∙ ap by_key (sym reads.0), tt)
    block_holds (made.Combine input comb) fact reads is = (
      (
        at_first (fact 0 0) ∙ is ∙ sym (through_combined w origin true comb (at input))
            ∙ ap (through w (only_label origin true (does.Combine comb))) (sym reads.0),
        tt,
        tt,
      ),
      tt,
    )
    block_holds (made.Flatten inputs) fact reads is =
        (at_first (fact 0 0) ∙ is ∙ ap together (sym (same_inputs inputs reads)), tt)
    block_holds (made.Count input) fact reads is = count_holds input fact reads.0 is
    block_holds (made.Join left right) fact reads is =
        join_holds left right fact reads.0 reads.1.0 is
    block_holds (made.Top many input) fact reads is = top_holds many input fact reads.0 is
    block_holds (made.CombineAll input k) fact reads is = whole_holds input k fact reads.0 is
    block_holds (made.Operate objects function) fact reads is = (
      at_first (fact 0 0) ∙ is ∙ sym (barrier_operate w origin function (map at objects))
          ∙ ap (act_result w origin (Operate function)) (sym (same_inputs objects reads)),
      tt,
    )
    block_holds (made.DoWith input function object) fact reads is = (
      at_first (fact 0 0) ∙ is ∙ sym (barrier_side_input w origin function (at input) (at object))
          ∙ ap (act_result w origin (SideInput function))
          (sym (same_inputs (input ∷ object ∷ []) reads)),
      tt,
    )
    block_holds (made.Saved is_object call) fact reads is = (at_first (fact 0 0) ∙ is, tt)

module _ (script : Script) (w : World) (at : ℕ → Collection) (m : Place → Collection)
    (gives : ℕ → Place) where
  abbrev pub MadeAt : ℕ → ℕ → Option Made → Type 0
  MadeAt origin source None = Unit {0}
  MadeAt origin source (Some made) =
      IsMadeBy script w at origin source made
      × AllByRecursion (λ j. m (gives j) ≡ at j) (operands made)

  -- each collection that is needed meets its equation, and what it reads is given
  abbrev pub AllMade : ℕ → ℕ → List (Option Made) → Type 0
  AllMade origin source [] = Unit {0}
  AllMade origin source (made ∷ rest) =
      MadeAt origin source made × AllMade (suc origin) (next_wanted source made) rest

  -- the one of a place
  pub made_of_place : (origin source : ℕ) (ws : List (Option Made)) (t : ℕ) (made : Made)
      → AllMade origin source ws → get_or ws t None ≡ Some made
      → MadeAt (origin + t) (wanted_source source ws t) (Some made)
  made_of_place origin source [] t made all found = cc
  made_of_place origin source (None ∷ ws) zero made all found = cc
  made_of_place origin source (Some own ∷ ws) zero made all found =
      let same : own ≡ made = cc in
      subst (λ o. MadeAt o source (Some made)) (sym (add-zero origin))
      (subst (λ k. MadeAt origin source (Some k)) same all.0)
  made_of_place origin source (w ∷ ws) (suc t) made all found =
      let e : suc origin + t ≡ origin + suc t = omega arith in
      subst (λ o. MadeAt o (wanted_source (next_wanted source w) ws t) (Some made)) e
      (made_of_place (suc origin) (next_wanted source w) ws t made all.1 found)
