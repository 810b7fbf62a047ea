-- The collections of a script meet their equations.
use Rattle.std.proofs.Common.{◌≡◌, ℕ, zero, suc, ◌-◌, ◌<◌, List, [], ◌∷◌, map, drop, length, get_or, Option, Some, sym, ap, ◌∙◌, subst, arith, add-zero}
use Rattle.std.specs.Prelude.{option_map, option_and_then}
use Rattle.std.specs.List.{AllByRecursion}
use Rattle.flume_value.specs.declared.value.Value.{Value}
use Rattle.flume_collection.specs.Calls.{Called, passed}
use Rattle.flume_collection.specs.Collection.{Collection, by_key, together}
use Rattle.combine_table.specs.declared.comb.Comb.{Comb}
use Rattle.std.proofs.lemmas.List.{get_or-drop}
use Rattle.exec_graph.specs.Calls.{called}
use Rattle.exec_graph.specs.Meaning.{through}
use Rattle.exec_graph.specs.Objects.{operated, side_input}
use Rattle.exec_graph.specs.World.{World}
use Rattle.graph_build.specs.of_script_program.declared.made.Made.{Made}
use Rattle.graph_build.specs.of_script_program.declared.made.Made.TheVariants as made
use Rattle.graph_build.specs.of_script_program.Script.{Script}
use Rattle.direct_meaning.specs.of_script_laws.WellFormed.{function_at}
use Rattle.direct_meaning.proofs.DoneLemmas.{has_done}
use Rattle.direct_meaning.specs.Calls.{answer_of, answers_on}
use Rattle.direct_meaning.specs.Direct.{all_made, called_by, combined_by, counted_by, done_at, done_beside_at, joined_at, joined_collections, made_as, made_at, operated_at, rows_as, top_by}
use Rattle.direct_meaning.specs.Objects.{combined_whole, done_beside, operated_by}
use Rattle.graph_build.specs.of_script_program.Needed.{operands}
use Rattle.graph_build.specs.Nodes.{source_number}
use Rattle.build_law.specs.Worlds.{answered_by, or_silent, script_world}
use Rattle.build_law.proofs.Meeting.{IsMadeBy, IsSettled}
use Rattle.build_law.proofs.Operating.{beside_is, operate_is, passed_is}
use Rattle.build_law.proofs.Passing.{call_label}
use Rattle.build_law.proofs.Settling.{beside_settled, called_settled, combined_settled, counted_settled, groups_settled, joined_settled, operated_settled, rows_settled, together_settled, top_settled, whole_settled}
use Rattle.build_law.proofs.Tables.{and_then_some, map_some}

-- what a function makes is what its step gives to the output
call_is : (w : World) (n f output : ℕ) (answer : Value → Option Called) (c : Collection)
    (calls : List Called) → w.called f ≡ (λ x. or_silent (answer x))
    → answers_on answer c.bag ≡ Some calls
    → called_by n output c.traps calls ≡ through w (call_label n f output) c
unfolding called
call_is w n f output answer c calls world h =
    passed_is n output answer c calls h ∙ (λ i. passed n output (sym world i) c)

-- what is made of flattened collections
all_at : (table : List (Option Collection)) (at : ℕ → Collection) (js : List ℕ)
    (cs : List Collection)
    → ((j : ℕ) (c : Collection) → made_at table j ≡ Some c → at j ≡ c)
    → all_made table js ≡ Some cs → map at js ≡ cs
all_at table at [] cs same h = cc
all_at table at (j ∷ js) cs same h =
    let (c, first, rest) =
    and_then_some (λ c. option_map (λ cs. c ∷ cs) (all_made table js)) (made_at table j) cs h in
    let (others, behind, is) = map_some (λ cs. c ∷ cs) (all_made table js) cs rest in
    (λ i. same j c first i ∷ all_at table at js others same behind i) ∙ is

-- ---- one node

abbrev pub AreMade : List (Option Collection) → List ℕ → Type 0
AreMade table js = AllByRecursion (λ j. (c : Collection) × (made_at table j ≡ Some c)) js

all_are_made : (table : List (Option Collection)) (js : List ℕ) (cs : List Collection)
    → all_made table js ≡ Some cs → AreMade table js
all_are_made table [] cs h = tt
all_are_made table (j ∷ js) cs h =
    let (c, first, rest) =
    and_then_some (λ c. option_map (λ cs. c ∷ cs) (all_made table js)) (made_at table j) cs h in
    let (others, behind, is) = map_some (λ cs. c ∷ cs) (all_made table js) cs rest in
    ((c, first), all_are_made table js others behind)

-- a node meets its equation, what it makes is settled, and what it reads is made
pub record IsMade (script : Script) (w : World) (at : ℕ → Collection)
    (table : List (Option Collection)) (n source : ℕ) (mk : Made) (c : Collection) : Type 0 where
  pub is : IsMadeBy script w at n source mk
  pub settled : IsSettled c
  pub read : AreMade table (operands mk)

-- what stands ahead is there
not_past : {X : Type 0} (n : ℕ) (xs : List X) (x : X) (rest : List X) → x ∷ rest ≡ drop n xs
    → n < length xs
not_past zero [] x rest h = cc
not_past zero (y ∷ xs) x rest h = omega arith
not_past (suc n) [] x rest h = cc
not_past (suc n) (y ∷ xs) x rest h = let low = not_past n xs x rest h in omega arith

-- the lists by their numbers, and all of them in order of the script
module _ (script : Script) (lists all : List (List Value))
    (given : (k : ℕ) → k < length all
    → get_or all k [] ≡ get_or lists (source_number script k) [])
    (at : ℕ → Collection) (table : List (Option Collection))
    (same : (j : ℕ) (c : Collection) → made_at table j ≡ Some c → at j ≡ c)
    (settled : (j : ℕ) (c : Collection) → made_at table j ≡ Some c → IsSettled c)
    (n source : ℕ) (c : Collection) (here : at n ≡ c) where
  abbrev Is : Made → Type 0
  Is mk = IsMade script (script_world script lists) at table n source mk c

  rows_here : (rows : List Value) (rest : List (List Value)) → rows ∷ rest ≡ drop source all
      → get_or lists (source_number script source) [] ≡ rows
  rows_here rows rest ahead =
      sym (given source (not_past source all rows rest ahead))
      ∙ ap (λ k. get_or all k []) (sym (add-zero source)) ∙ sym (get_or-drop source all 0 [])
      ∙ ap (λ xs. get_or xs 0 []) (sym ahead)

  by_rows : (rows : List Value) (rest : List (List Value)) → rows ∷ rest ≡ drop source all
      → Some (rows_as rows) ≡ Some c
      → (at n ≡ rows_as (get_or lists (source_number script source) [])) × IsSettled c
  by_rows rows rest ahead h =
      let e : rows_as rows ≡ c = cc in (
        here ∙ sym e ∙ ap rows_as (sym (rows_here rows rest ahead)),
        subst IsSettled e (rows_settled rows),
      )

  by_function : (input f output : ℕ)
      → option_and_then (λ function. done_at (n - output) output function input table)
      (function_at script.functions f) ≡ Some c
      → Is (made.Do input f output)
  by_function input f output h =
      let it = has_done script table (n - output) input f output c h in
      let w : World = script_world script lists in
      record {
        is = here ∙ sym it.is
            ∙ call_is w (n - output) f output (answer_of it.function) it.from it.calls
            (λ i x. answered_by (it.at i) x) it.all
            ∙ ap (through w (call_label (n - output) f output)) (sym (same input it.from it.read));
        settled = subst IsSettled it.is (called_settled (n - output) output it.from.traps it.calls);
        read = ((it.from, it.read), tt);
      }

  by_group : (input : ℕ) → option_map by_key (made_at table input) ≡ Some c
      → Is (made.Group input)
  by_group input h =
      let (d, read, is) = map_some by_key (made_at table input) c h in
      record {
        is = here ∙ sym is ∙ ap by_key (sym (same input d read));
        settled = subst IsSettled is (groups_settled d (settled input d read));
        read = ((d, read), tt);
      }

  by_combining : (input : ℕ) (k : Comb)
      → option_map (combined_by n k) (made_at table input) ≡ Some c → Is (made.Combine input k)
  by_combining input k h =
      let (d, read, is) = map_some (combined_by n k) (made_at table input) c h in
      record {
        is = here ∙ sym is ∙ ap (combined_by n k) (sym (same input d read));
        settled = subst IsSettled is (combined_settled n k d);
        read = ((d, read), tt);
      }

  by_flattening : (inputs : List ℕ) → option_map together (all_made table inputs) ≡ Some c
      → Is (made.Flatten inputs)
  by_flattening inputs h =
      let (cs, read, is) = map_some together (all_made table inputs) c h in
      record {
        is = here ∙ sym is ∙ ap together (sym (all_at table at inputs cs same read));
        settled = subst IsSettled is (together_settled cs);
        read = all_are_made table inputs cs read;
      }

  by_counting : (input : ℕ) → option_map (counted_by n) (made_at table input) ≡ Some c
      → Is (made.Count input)
  by_counting input h =
      let (d, read, is) = map_some (counted_by n) (made_at table input) c h in
      record {
        is = here ∙ sym is ∙ ap (counted_by n) (sym (same input d read));
        settled = subst IsSettled is (counted_settled n d (settled input d read));
        read = ((d, read), tt);
      }

  by_joining : (left right : ℕ) → joined_at left right table ≡ Some c → Is (made.Join left right)
  by_joining left right h =
      let (a, left_read, rest) =
      and_then_some (λ a. option_map (joined_collections a) (made_at table right))
      (made_at table left) c h
      in
      let (b, right_read, is) = map_some (joined_collections a) (made_at table right) c rest in
      record {
        is = here ∙ sym is
            ∙ (λ i. joined_collections (sym (same left a left_read) i)
            (sym (same right b right_read) i));
        settled = subst IsSettled is (joined_settled a b);
        read = ((a, left_read), ((b, right_read), tt));
      }

  by_top : (many input : ℕ) → option_map (top_by many) (made_at table input) ≡ Some c
      → Is (made.Top many input)
  by_top many input h =
      let (d, read, is) = map_some (top_by many) (made_at table input) c h in
      record {
        is = here ∙ sym is ∙ ap (top_by many) (sym (same input d read));
        settled = subst IsSettled is (top_settled many d (settled input d read));
        read = ((d, read), tt);
      }

  by_whole : (input : ℕ) (k : Comb)
      → option_map (combined_whole n k) (made_at table input) ≡ Some c
      → Is (made.CombineAll input k)
  by_whole input k h =
      let (d, read, is) = map_some (combined_whole n k) (made_at table input) c h in
      record {
        is = here ∙ sym is ∙ ap (combined_whole n k) (sym (same input d read));
        settled = subst IsSettled is (whole_settled n k d (settled input d read));
        read = ((d, read), tt);
      }

  by_operating : (objects : List ℕ) (f : ℕ)
      → option_and_then (λ function. operated_at n function objects table)
      (function_at script.functions f) ≡ Some c
      → Is (made.Operate objects f)
  by_operating objects f h =
      let w : World = script_world script lists in
      let (function, calls_it, done) =
      and_then_some (λ function. operated_at n function objects table)
      (function_at script.functions f) c h in
      let (cs, read, done_cs) =
      and_then_some (operated_by n (answer_of function)) (all_made table objects) c done in
      let is : c ≡ operated w n f cs =
      operate_is w n f (answer_of function) cs c (λ i x. answered_by (calls_it i) x) done_cs in
      record {
        is = here ∙ is ∙ ap (operated w n f) (sym (all_at table at objects cs same read));
        settled = subst IsSettled (sym is) (operated_settled w n f cs);
        read = all_are_made table objects cs read;
      }

  by_beside : (input f object : ℕ)
      → option_and_then (λ function. done_beside_at n function input object table)
      (function_at script.functions f) ≡ Some c
      → Is (made.DoWith input f object)
  by_beside input f object h =
      let w : World = script_world script lists in
      let (function, calls_it, done) =
      and_then_some (λ function. done_beside_at n function input object table)
      (function_at script.functions f) c h in
      let (d, read, rest) =
      and_then_some (λ d. option_and_then (done_beside n (answer_of function) d)
      (made_at table object)) (made_at table input) c done in
      let (v, value_read, done_v) =
      and_then_some (done_beside n (answer_of function) d) (made_at table object) c rest in
      let is : c ≡ side_input w n f d v =
      beside_is w n f (answer_of function) d v c (λ i x. answered_by (calls_it i) x) done_v in
      record {
        is = here ∙ is
            ∙ (λ i. side_input w n f (sym (same input d read) i)
            (sym (same object v value_read) i));
        settled = subst IsSettled (sym is) (beside_settled w n f d v);
        read = ((d, read), ((v, value_read), tt));
      }

  pub is_made : (mk : Made) (rem : List (List Value)) → rem ≡ drop source all
      → made_as script n mk rem table ≡ Some c → Is mk
  is_made (made.Input file columns) [] ahead h = cc
  is_made (made.Input file columns) (rows ∷ rem) ahead h =
      let it = by_rows rows rem ahead h in record { is = it.0; settled = it.1; read = tt }
  is_made (made.Saved is_object call) [] ahead h = cc
  is_made (made.Saved is_object call) (rows ∷ rem) ahead h =
      let it = by_rows rows rem ahead h in record { is = it.0; settled = it.1; read = tt }
  is_made (made.Do input f output) rem ahead h = by_function input f output h
  is_made (made.Group input) rem ahead h = by_group input h
  is_made (made.Combine input k) rem ahead h = by_combining input k h
  is_made (made.Flatten inputs) rem ahead h = by_flattening inputs h
  is_made (made.Count input) rem ahead h = by_counting input h
  is_made (made.Join left right) rem ahead h = by_joining left right h
  is_made (made.Top many input) rem ahead h = by_top many input h
  is_made (made.CombineAll input k) rem ahead h = by_whole input k h
  is_made (made.Operate objects f) rem ahead h = by_operating objects f h
  is_made (made.DoWith input f object) rem ahead h = by_beside input f object h
