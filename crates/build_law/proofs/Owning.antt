-- The bag of a collection of the script is what its last node gives, or its call to its output.
use Rattle.std.proofs.Common.{◌≡◌, ℕ, suc, ◌+◌, ◌-◌, ◌<◌, Bool, true, false, cond, List, [], ◌∷◌, ◌++◌, map, length, refl, sym, ap, ◌∙◌, subst, arith, add-zero, zero-add, append-nil}
use Rattle.std.specs.Prelude.{◌==◌}
use Rattle.std.specs.List.{flat_map}
use Rattle.std.proofs.lemmas.Bool.{eq-eqb, eqb-true}
use Rattle.flume_value.specs.Bag.{bag_of}
use Rattle.flume_value.specs.declared.value.Value.{Value}
use Rattle.flume_collection.specs.Collection.{Collection, by_key}
use Rattle.combine_table.specs.declared.comb.Comb.TheVariants as by
use Rattle.exec_graph.specs.Calls.{emitted}
use Rattle.exec_graph.specs.Meaning.{Meets, own, through}
use Rattle.exec_graph.specs.World.{World}
use Rattle.exec_graph.specs.Objects.{act_result}
use Rattle.exec_graph.specs.declared.graph.Act.{Act}
use Rattle.exec_graph.specs.declared.graph.Act.TheVariants.{SideInput, Operate, Singleton}
use Rattle.exec_graph.specs.declared.graph.Entry.{Entry}
use Rattle.exec_graph.specs.declared.graph.Place.{Place}
use Rattle.exec_graph.specs.declared.step.Does.{Does}
use Rattle.exec_graph.specs.declared.step.Does.TheVariants as does
use Rattle.graph_build.specs.Calls.{emitted_at, names_needed, needed_from, other_names}
use Rattle.graph_build.specs.Nodes.{before_last, call_branch, first_of, made_nodes}
use Rattle.graph_build.specs.of_script_program.declared.made.Made.{Made}
use Rattle.graph_build.specs.of_script_program.declared.made.Made.TheVariants as made
use Rattle.graph_build.specs.of_script_program.Script.{Script}
use Rattle.build_law.proofs.Names.{length_needed}
use Rattle.build_law.proofs.MadeKinds.{IsOther}
use Rattle.build_law.proofs.Meeting.{IsSettled}
use Rattle.build_law.proofs.Outputs.{none_own, one_own}
use Rattle.build_law.proofs.Passing.{call_label, only_label}

-- it is made by nodes of its own, and is no call
abbrev pub HasOwnNode : Made → Type 0
HasOwnNode (made.Input file columns) = ⊥
HasOwnNode (made.Flatten sources) = ⊥
HasOwnNode (made.Do source function output) = ⊥
HasOwnNode (made.Saved is_object call) = ⊥
HasOwnNode _ = Unit {0}

-- ---- what a node adds, by whether it is of that collection

not_own : (b : Bool) (xs : List Value) → b ≡ false → (cond b xs [] ++ []) ++ [] ≡ []
not_own true xs h = cc
not_own false xs h = refl

is_own_list : (b : Bool) (xs : List Value) → b ≡ true → (cond b xs [] ++ []) ++ [] ≡ xs
is_own_list true xs h = append-nil (xs ++ []) ∙ append-nil xs
is_own_list false xs h = cc

not_groups : (b : Bool) (xs : List Value) → b ≡ false → cond b xs [] ++ [] ≡ []
not_groups true xs h = cc
not_groups false xs h = refl

are_groups : (b : Bool) (xs : List Value) → b ≡ true → cond b xs [] ++ [] ≡ xs
are_groups true xs h = append-nil xs
are_groups false xs h = cc

apart : (o i : ℕ) → (o ≡ i → ⊥) → (b : Bool) → (o == i) ≡ b → (o == i) ≡ false
apart o i differ true is = absurd (differ (eqb-true o i is))
apart o i differ false is = is

differs : (o i : ℕ) → (o ≡ i → ⊥) → (o == i) ≡ false
differs o i differ = apart o i differ (o == i) refl

differs_zero : (o i : ℕ) → (o ≡ i → ⊥) → (o + 0 == i) ≡ false
differs_zero o i differ = ap (λ k. k == i) (add-zero o) ∙ differs o i differ

same_zero : (o : ℕ) → (o + 0 == o) ≡ true
same_zero o = eq-eqb (o + 0) o (add-zero o)

module _ (script : Script) (w : World) (m : Place → Collection) (gives : ℕ → Place) where
  abbrev pub owned : ℕ → List Entry → List Value
  owned i es = flat_map (λ e. own w m i e.node) es

  module _ (origin source n : ℕ) where
    -- none of the collections that these nodes give is i
    abbrev pub Apart : ℕ → Made → Type 0
    Apart i (made.Do input f o) =
        (k : ℕ) → k < suc (other_names script f) → (origin - o) + k ≡ i → ⊥
    Apart i made = origin ≡ i → ⊥

    name_differs : (i f o : ℕ)
        → ((k : ℕ) → k < suc (other_names script f) → (origin - o) + k ≡ i → ⊥) → (j : ℕ)
        → j < length (names_needed script (origin - o) f) → (origin - o) + (0 + j) ≡ i → ⊥
    name_differs i f o differ j below same =
        let size = length_needed script (origin - o) (suc (other_names script f)) in
        let e : 0 + j ≡ j = omega arith in
        differ j (omega (arith, size, below)) (ap (λ k. (origin - o) + k) (sym e) ∙ same)

    -- the nodes of other collections add nothing
    pub block_other : (i : ℕ) (made : Made) → Apart i made
        → owned i (made_nodes script gives origin source n made) ≡ []
    block_other i (made.Input file columns) differ = refl
    block_other i (made.Do input f o) differ =
        let first : ℕ = origin - o in
        let b = call_branch first f (emitted_at script first)
        (needed_from script (suc first) (other_names script f)) in
        append-nil _
        ∙ none_own w b (m (gives input)) i 0 0 (names_needed script first f)
        (λ j below same. name_differs i f o differ j below same)
    block_other i (made.Group input) differ = not_groups _ _ (differs origin i differ)
    block_other i (made.Combine input k) differ = not_own _ _ (differs_zero origin i differ)
    block_other i (made.Flatten inputs) differ = refl
    block_other i (made.Count input) differ = not_own _ _ (differs_zero origin i differ)
    block_other i (made.Join left right) differ = not_own _ _ (differs_zero origin i differ)
    block_other i (made.Top many input) differ = not_own _ _ (differs_zero origin i differ)
    block_other i (made.CombineAll input k) differ = not_groups _ _ (differs origin i differ)
    block_other i (made.Operate objects f) differ = not_groups _ _ (differs origin i differ)
    block_other i (made.DoWith input f object) differ =
        not_groups _ _ (differs origin i differ)
    block_other i (made.Saved is_object call) differ = refl

    pub by_other : (i : ℕ) (made : Made) → IsOther made → (origin ≡ i → ⊥) → Apart i made
    by_other i (made.Do input f o) apart differ = absurd apart
    by_other i _ apart differ = differ

    -- a call adds to each of its names what it gives to it
    pub call_adds : (i input f o k : ℕ) (c : Collection) → k < suc (other_names script f)
        → (origin - o) + k ≡ i → m (gives input) ≡ c
        → bag_of (owned i (made_nodes script gives origin source n (made.Do input f o)))
        ≡ (through w (call_label (origin - o) f k) c).bag
    call_adds i input f o k c below same read =
        let first : ℕ = origin - o in
        let b = call_branch first f (emitted_at script first)
        (needed_from script (suc first) (other_names script f)) in
        let size = length_needed script (origin - o) (suc (other_names script f)) in
        let e : 0 + k ≡ k = omega arith in
        ap bag_of
        (append-nil _
        ∙ one_own w b (m (gives input)) refl i 0 0 (names_needed script first f) k
        (omega (arith, size, below)) (ap (λ j. (origin - o) + j) e ∙ same)
        ∙ (λ t. flat_map (emitted w (call_label (origin - o) f (zero-add k t))) (read t).bag))

    -- the last step adds what it gives
    step_adds : (k : ℕ) (does : Does) (c : Place) (d : Collection)
        → m (first_of k) ≡ through w (only_label origin true does) (m c)
        → m (first_of k) ≡ d
        → bag_of ((cond (origin + 0 == origin)
        (flat_map (emitted w (only_label origin true does)) (m c).bag) [] ++ []) ++ []) ≡ d.bag
    step_adds k does c d holds is =
        ap bag_of
        (is_own_list (origin + 0 == origin)
        (flat_map (emitted w (only_label origin true does)) (m c).bag) (same_zero origin))
        ∙ ap (λ (x : Collection). x.bag) (sym holds ∙ is)

    at_start : {d : Collection} → m (first_of (n + 0)) ≡ d → m (first_of n) ≡ d
    at_start {d} h = subst (λ k. m (first_of k) ≡ d) (add-zero n) h

    groups_add : (input : ℕ) (d : Collection) → IsSettled d
        → m (first_of n) ≡ by_key (m (gives input)) → m (first_of n) ≡ d
        → bag_of (cond (origin == origin) (by_key (m (gives input))).bag [] ++ []) ≡ d.bag
    groups_add input d settled holds is =
        ap bag_of
        (are_groups (origin == origin) (by_key (m (gives input))).bag (eq-eqb origin origin refl))
        ∙ ap (λ (x : Collection). bag_of x.bag) (sym holds ∙ is) ∙ settled.bag

    -- so does what an act makes
    act_adds : (k : ℕ) (act : Act) (cs : List Place) (d : Collection) → IsSettled d
        → m (first_of k) ≡ act_result w origin act (map m cs) → m (first_of k) ≡ d
        → bag_of (cond (origin == origin) (act_result w origin act (map m cs)).bag [] ++ [])
        ≡ d.bag
    act_adds k act cs d settled holds is =
        ap bag_of
        (are_groups (origin == origin) (act_result w origin act (map m cs)).bag
        (eq-eqb origin origin refl))
        ∙ ap (λ (x : Collection). bag_of x.bag) (sym holds ∙ is) ∙ settled.bag

    -- the nodes of a collection add what its last one gives
    pub block_here : (made : Made) (d : Collection) → HasOwnNode made → IsSettled d
        → Meets w (made_nodes script gives origin source n made) m
        → m (first_of (n + before_last made)) ≡ d
        → bag_of (owned origin (made_nodes script gives origin source n made)) ≡ d.bag
    block_here (made.Input file columns) d has settled h is = absurd has
    block_here (made.Do input f output) d has settled h is = absurd has
    block_here (made.Group input) d has settled h is =
        groups_add input d settled h.0 (at_start is)
    block_here (made.Combine input k) d has settled h is =
        step_adds n (does.Combine k) (gives input) d h.0.0 (at_start is)
    block_here (made.Flatten inputs) d has settled h is = absurd has
    block_here (made.Saved is_object call) d has settled h is = absurd has
    block_here (made.Count input) d has settled h is =
        step_adds (n + 2) (does.Combine by.Sum) (first_of (n + 1)) d h.1.1.0.0 is
    block_here (made.Join left right) d has settled h is =
        step_adds (n + 4) does.Split (first_of (n + 3)) d h.1.1.1.1.0.0 is
    block_here (made.Top many input) d has settled h is =
        step_adds (n + 3) does.Spread (first_of (n + 2)) d h.1.1.1.0.0 is
    block_here (made.CombineAll input k) d has settled h is =
        act_adds (n + 3) (Singleton k) (first_of (n + 2) ∷ []) d settled h.1.1.1.0 is
    block_here (made.Operate objects f) d has settled h is =
        act_adds n (Operate f) (map gives objects) d settled h.0 (at_start is)
    block_here (made.DoWith input f object) d has settled h is =
        act_adds n (SideInput f) (gives input ∷ gives object ∷ []) d settled h.0 (at_start is)
