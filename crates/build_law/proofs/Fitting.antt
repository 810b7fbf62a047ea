-- Each node of a script's graph is well-formed.
use Rattle.std.proofs.Common.{◌≡◌, ℕ, suc, ◌+◌, ◌-◌, ◌<◌, ◌≤◌, Bool, true, false, List, [], ◌∷◌, map, length, refl, subst, arith, add-zero}
use Rattle.std.specs.Prelude.{◌==◌, ◌||◌}
use Rattle.std.specs.List.{AllByRecursion}
use Rattle.std.proofs.lemmas.Bool.{eqb-true}
use Rattle.std.proofs.lemmas.List.{length-map}
use Rattle.exec_graph.specs.Forests.{Branch}
use Rattle.exec_graph.specs.Meaning.{has_out, place}
use Rattle.exec_graph.specs.Readers.{among, is_read, same_place, uses}
use Rattle.exec_graph.specs.Wellformed.{IsForestOk, IsNodeOk, most_nodes}
use Rattle.exec_graph.specs.declared.graph.Entry.{Entry}
use Rattle.exec_graph.specs.declared.graph.Graph.{Graph}
use Rattle.exec_graph.specs.declared.graph.Place.{Place}
use Rattle.exec_graph.specs.declared.step.Does.{Does}
use Rattle.graph_build.specs.Calls.{emitted_at, names_needed, needed_from, other_names}
use Rattle.graph_build.specs.Nodes.{barrier, before_last, call_branch, entry, first_of, gbk_of, made_nodes, one_step}
use Rattle.combine_table.specs.declared.comb.Comb.{Comb}
use Rattle.combine_table.specs.declared.comb.Comb.TheVariants as by
use Rattle.exec_graph.specs.declared.graph.Act.TheVariants.{Singleton}
use Rattle.exec_graph.specs.declared.graph.Node.{Node}
use Rattle.exec_graph.specs.declared.graph.Node.TheVariants.{Flatten}
use Rattle.exec_graph.specs.declared.step.Does.TheVariants as does
use Rattle.graph_build.specs.of_script_program.declared.made.Made.{Made}
use Rattle.graph_build.specs.of_script_program.declared.made.Made.TheVariants as made
use Rattle.graph_build.specs.of_script_program.Script.{Script}
use Rattle.build_law.proofs.Outputs.{buds, in_order}
use Rattle.build_law.proofs.Reading.{any_behind, any_uses, or_left, or_right, same_self}
use Rattle.build_law.proofs.Steps.{last_step, step}

-- a step has its first output alone
first_only : (j : ℕ) (b : Bool) → (0 == j) ≡ b → (b || (false || false)) ≡ true → 0 ≡ j
first_only j true is h = eqb-true 0 j is
first_only j false is h = cc

-- how many collections are put together
abbrev pub FlattenFits : Made → Type 0
FlattenFits (made.Flatten inputs) = (0 < length inputs) × (length inputs ≤ most_nodes)
FlattenFits _ = Unit {0}

module _ (g : Graph) where
  abbrev pub Ok : List Entry → Type 0
  Ok es = AllByRecursion (λ e. IsNodeOk g e.number e.node) es

  step_ok : (n origin : ℕ) (last : Bool) (does : Does) → is_read g (first_of n) ≡ true
      → IsForestOk g n (one_step origin last does)
  step_ok n origin last does read = record {
    order = refl;
    read = λ j h.
        subst (λ i. is_read g (place n i) ≡ true) (first_only j (0 == j) refl h) read;
  }

  last_ok : (n origin : ℕ) (last : Bool) (does : Does) → is_read g (first_of (n + 0)) ≡ true
      → IsForestOk g n (one_step origin last does)
  last_ok n origin last does read =
      step_ok n origin last does
      (subst (λ k. is_read g (first_of k) ≡ true) (add-zero n) read)

  -- the step of a call, whose outputs that have numbers are read
  call_ok : (n : ℕ) (b : Branch) (needed : List Bool)
      → ((j : ℕ) → has_out j (buds b 0 0 needed) ≡ true → is_read g (place n j) ≡ true)
      → IsForestOk g n (buds b 0 0 needed)
  call_ok n b needed read = record { order = in_order b 0 0 needed; read = read }

  module _ (script : Script) (gives : ℕ → Place) (origin source n : ℕ) where
    abbrev Inner : Made → Type 0
    Inner made =
        (c : Place) → any_uses c (made_nodes script gives origin source n made) ≡ true
        → is_read g c ≡ true

    -- the right side is read by the third node of a join
    right_read : (left right : ℕ)
        → any_uses (first_of (n + 1))
        (made_nodes script gives origin source n (made.Join left right)) ≡ true
    right_read left right =
        let c = first_of (n + 1) in
        any_behind (λ e. uses c e.node)
        (entry n (step origin does.TagLeft (gives left))
        ∷ entry (n + 1) (step origin does.TagRight (gives right)) ∷ [])
        (entry (n + 2) (Flatten (first_of n ∷ first_of (n + 1) ∷ []))
        ∷ entry (n + 3) (gbk_of origin (first_of (n + 2)))
        ∷ entry (n + 4) (last_step origin does.Split (first_of (n + 3))) ∷ [])
        (or_left (among c (first_of n ∷ first_of (n + 1) ∷ [])) _
        (or_right (same_place c (first_of n)) (same_place c c || false)
        (or_left (same_place c c) false (same_self c))))

    -- what is combined of all members is read by the node behind it
    combined_read : (input : ℕ) (k : Comb) (last : Node) → uses (first_of (n + 2)) last ≡ true
        → any_uses (first_of (n + 2))
        (entry n (step origin does.Solo (gives input))
        ∷ entry (n + 1) (gbk_of origin (first_of n))
        ∷ entry (n + 2) (step origin (does.Combine k) (first_of (n + 1)))
        ∷ entry (n + 3) last ∷ []) ≡ true
    combined_read input k last used =
        let c = first_of (n + 2) in
        any_behind (λ e. uses c e.node)
        (entry n (step origin does.Solo (gives input))
        ∷ entry (n + 1) (gbk_of origin (first_of n))
        ∷ entry (n + 2) (step origin (does.Combine k) (first_of (n + 1))) ∷ [])
        (entry (n + 3) last ∷ []) (or_left (uses c last) false used)

    greatest_read : (many input : ℕ)
        → any_uses (first_of (n + 2))
        (made_nodes script gives origin source n (made.Top many input)) ≡ true
    greatest_read many input =
        let c = first_of (n + 2) in
        combined_read input (by.Top many) (last_step origin does.Spread c)
        (or_left (same_place c c) false (same_self c))

    whole_read : (input : ℕ) (k : Comb)
        → any_uses (first_of (n + 2))
        (made_nodes script gives origin source n (made.CombineAll input k)) ≡ true
    whole_read input k =
        let c = first_of (n + 2) in
        combined_read input k (barrier origin (Singleton k) (c ∷ []))
        (or_left (same_place c c) false (same_self c))

    -- its last node is read, or each output of its call that has a number
    abbrev pub IsLastRead : Made → Type 0
    IsLastRead (made.Do input f output) =
        (j : ℕ) → has_out j (buds (call_branch (origin - output) f
        (emitted_at script (origin - output))
        (needed_from script (suc (origin - output)) (other_names script f))) 0 0
        (names_needed script (origin - output) f)) ≡ true → is_read g (place n j) ≡ true
    IsLastRead made = is_read g (first_of (n + before_last made)) ≡ true

    pub block_ok : (made : Made) → IsLastRead made
        → Inner made → FlattenFits made → Ok (made_nodes script gives origin source n made)
    block_ok (made.Do input f output) last inner fits = (
      call_ok n
          (call_branch (origin - output) f (emitted_at script (origin - output))
          (needed_from script (suc (origin - output)) (other_names script f)))
          (names_needed script (origin - output) f) last,
      tt,
    )
    block_ok (made.Combine input k) last inner fits = (last_ok n _ _ _ last, tt)
    block_ok (made.Flatten inputs) last inner fits =
        let same : length (map gives inputs) ≡ length inputs = length-map inputs gives in
        let some = fits.0 in
        let few = fits.1 in
        ((omega arith, omega arith), tt)
    block_ok (made.Count input) last inner fits = (
      step_ok n _ _ _ (inner (first_of n) (or_right _ _ (or_left _ _ (same_self (first_of n))))),
      (tt, (step_ok (n + 2) _ _ _ last, tt)),
    )
    block_ok (made.Join left right) last inner fits = (
      step_ok n _ _ _
          (inner (first_of n)
          (or_right _ _ (or_right _ _ (or_left _ _ (or_left _ _ (same_self (first_of n))))))),
      (
        step_ok (n + 1) _ _ _
            (inner (first_of (n + 1)) (right_read left right)),
        ((omega arith, omega arith), (tt, (step_ok (n + 4) _ _ _ last, tt))),
      ),
    )
    block_ok (made.Top many input) last inner fits = (
      step_ok n _ _ _ (inner (first_of n) (or_right _ _ (or_left _ _ (same_self (first_of n))))),
      (
        tt,
        (
          step_ok (n + 2) _ _ _
              (inner (first_of (n + 2)) (greatest_read many input)),
          (step_ok (n + 3) _ _ _ last, tt),
        ),
      ),
    )
    block_ok (made.CombineAll input k) last inner fits = (
      step_ok n _ _ _ (inner (first_of n) (or_right _ _ (or_left _ _ (same_self (first_of n))))),
      (
        tt,
        (step_ok (n + 2) _ _ _ (inner (first_of (n + 2)) (whole_read input k)), (tt, tt)),
      ),
    )
    block_ok _ last inner fits = (tt, tt)
