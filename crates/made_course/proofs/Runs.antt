-- What the run of the script of the sums comes to.
use Rattle.std.proofs.Common.{◌≡◌, ◌∙◌, ◌≤◌, List, [], ◌∷◌, length, drop, Option, Some, None, slice_get, sym, ap, subst, inr, arith}
use Rattle.std.specs.Prelude.{Err, IfErr, IfOk, IsSomeAnd, Ok, Result}
use Rattle.std.specs.List.{AllZip, Contains}
use Rattle.std.specs.Option.{option_map}
use Rattle.command_words.specs.declared.workload.Workload.{Workload}
use Rattle.outside.specs.Accounts.{Account}
use Rattle.made_rows.specs.of_direct_meaning.Direct.{made_at, meaning, traps_of}
use Rattle.made_rows.specs.of_direct_meaning.Inputs.{AreInputs}
use Rattle.exec_plan.specs.declared.plan.Plan.{Plan}
use Rattle.flume_collection.proofs.Members.{not_in_none}
use Rattle.flume_collection.specs.Collection.{Collection}
use Rattle.flume_collection.specs.declared.trap.Trap.{Trap}
use Rattle.flume_value.specs.declared.value.Value.{Value}
use Rattle.plan_phases.specs.declared.fault.RunFault.{RunFault}
use Rattle.plan_phases.specs.declared.fault.RunFault.TheVariants as fault
use Rattle.run_course.specs.Lent.{lent}
use Rattle.run_settings.specs.Settings.{RunSettings, standard}
use Rattle.run_course.specs.of_script_plans.Plans.{IsScriptPlan}
use Rattle.script_program.specs.Script.{Script}
use Rattle.run_course.specs.of_script_run.Comes.{AreMembersOf}
use Rattle.run_course.specs.of_script_run.Runs.{AsksSomePhases, IsFirstTrap, IsRan, IsRunFault, phases_of}
use Rattle.run_course.specs.of_script_run.declared.run.Ran.{Ran}
use Rattle.made_rows.specs.Means.{MeansSums}
use Rattle.made_rows.specs.Sums.{sums_script}
use Rattle.made_course.specs.Files.{workload_rows, sums_for}
use Rattle.made_course.specs.Runs.{AsksHosts}
use Rattle.made_course.specs.inner.Stops.{ComesTo}

-- ---- one meaning

some_is : {A : Type 0} (x y : A) → Some x ≡ Some y → x ≡ y
some_is x y same = cc same

-- what the script of the sums means over the rows of a workload is known
module _ (w : Workload) (means : MeansSums w.start w.rows) where
  same_table : (made : List (Option Collection))
      → meaning sums_script (workload_rows w ∷ []) ≡ Some made → made ≡ means.table
  same_table made is = some_is made means.table (sym is ∙ means.means)

  no_traps : (made : List (Option Collection))
      → meaning sums_script (workload_rows w ∷ []) ≡ Some made → traps_of made ≡ []
  no_traps made is = ap traps_of (same_table made is) ∙ means.through

  -- so no trap is met
  no_first : (s : RunSettings) (plan : Plan) (olds news : List Account) (trap : Trap)
      → IsFirstTrap s sums_script (workload_rows w ∷ []) plan olds news trap → ⊥
  no_first s plan olds news trap it =
      not_in_none trap (subst (λ (l : List Trap). Contains l trap) (no_traps it.made it.means)
      it.among)

  -- and what is written is the sums
  members_are : (found : Option Collection) (members : List Value)
      → option_map (λ c. c.bag) found ≡ Some (sums_for w)
      → IsSomeAnd found (λ c. members ≡ c.bag) → members ≡ sums_for w
  members_are None members is are = absurd are
  members_are (Some c) members is are = are ∙ some_is c.bag (sums_for w) is

  first_output : (lists : List (List Value)) (made : List (Option Collection))
      → made ≡ means.table
      → AllZip (λ output members. AreMembersOf made output.1.reads members) sums_script.outputs
      lists
      → lists ≡ sums_for w ∷ []
  first_output [] made same all = absurd all
  first_output (members ∷ []) made same all =
      let own = subst (λ (t : List (Option Collection)). AreMembersOf t 3 members) same all.0 in
      ap (λ l. l ∷ []) (members_are (made_at means.table 3) members means.sums own)
  first_output (members ∷ more ∷ lists) made same all = absurd all.1

  one_list : (s : RunSettings) (plan : Plan) (olds news : List Account) (it : Ran)
      → IsRan s sums_script (workload_rows w ∷ []) plan olds news it
      → it.outputs.items ≡ sums_for w ∷ []
  one_list s plan olds news it ran =
      first_output it.outputs.items ran.made (same_table ran.made ran.means) ran.written

  abbrev rows : List (List Value)
  rows = workload_rows w ∷ []

  -- so it is what a run of the usual settings comes to
  usual_comes : (plan : Plan) (olds news : List Account) (r : Result Ran RunFault)
      → IsScriptPlan sums_script plan
      → IfOk r (IsRan standard sums_script rows plan (lent standard olds) (lent standard news))
      → IfErr r
      (IsRunFault standard sums_script rows plan (lent standard olds) (lent standard news))
      → ComesTo w olds news r
  usual_comes plan olds news (Ok it) own ran none = (
    one_list standard plan (lent standard olds) (lent standard news) it ran,
    (plan, own, (it.winners.items, ran.ran, ran.asked)),
  )
  usual_comes plan olds news (Err (fault.GaveUp stage phase task)) own none lost =
      (plan, own, lost.given_up)
  usual_comes plan olds news (Err fault.Memory) own none memory = tt
  usual_comes plan olds news (Err (fault.Trap trap)) own none first =
      no_first standard plan (lent standard olds) (lent standard news) trap first

-- ---- what a run comes to

-- how a run goes: its settings, its script and the rows of its inputs
abbrev Ways : Type 0
Ways = RunSettings × Script × List (List Value)

-- what follows of a run by the usual settings, over the script of the sums and the rows of a
-- workload, follows of one that goes so
module _ (w : Workload) (s : RunSettings) (script : Script) (inputs : List (List Value))
    (usual : s ≡ standard) (is : script ≡ sums_script) (are : inputs ≡ workload_rows w ∷ []) where
  by_usual : (P : Ways → Type 0) → P (standard, sums_script, workload_rows w ∷ [])
      → P (s, script, inputs)
  by_usual P own =
      let same : ◌≡◌ {A = Ways} (standard, sums_script, workload_rows w ∷ []) (s, script, inputs)
      = λ i. (sym usual i, sym is i, sym are i) in
      subst P same own

  pub inputs_typed : AreInputs sums_script (workload_rows w ∷ []) → AreInputs script inputs
  inputs_typed = by_usual (λ t. AreInputs t.1 t.2)

  pub comes : MeansSums w.start w.rows → (plan : Plan) (olds news : List Account)
      (r : Result Ran RunFault) → IsScriptPlan script plan
      → IfOk r (IsRan s script inputs plan (lent s olds) (lent s news))
      → IfErr r (IsRunFault s script inputs plan (lent s olds) (lent s news))
      → ComesTo w olds news r
  comes means plan olds news r =
      by_usual (λ t. IsScriptPlan t.1 plan
      → IfOk r (IsRan t.0 t.1 t.2 plan (lent t.0 olds) (lent t.0 news))
      → IfErr r (IsRunFault t.0 t.1 t.2 plan (lent t.0 olds) (lent t.0 news))
      → ComesTo w olds news r) (usual_comes w means plan olds news r)

  pub asks_sums : (plan : Plan) (olds news : List Account) → IsScriptPlan script plan
      → AsksSomePhases s (phases_of s script inputs plan) (lent s olds) (lent s news)
      → drop s.workers news ≡ drop s.workers olds → AsksHosts w olds news
  asks_sums plan olds news =
      by_usual (λ t. IsScriptPlan t.1 plan
      → AsksSomePhases t.0 (phases_of t.0 t.1 t.2 plan) (lent t.0 olds) (lent t.0 news)
      → drop t.0.workers news ≡ drop t.0.workers olds → AsksHosts w olds news)
      (λ own asked others.
      inr (record { plan = plan; is = own; asked = asked; others = others }))

-- ---- the one list of sums

pub first_sums : (w : Workload) (lists : List (List Value)) (sums : List Value)
    → lists ≡ sums_for w ∷ [] → slice_get lists 0 ≡ Some sums → sums ≡ sums_for w
first_sums w lists sums are is =
    sym (some_is (sums_for w) sums (sym (ap (λ l. slice_get l 0) are) ∙ is))

pub some_list : (w : Workload) (lists : List (List Value)) → lists ≡ sums_for w ∷ []
    → 1 ≤ length lists
some_list w lists are = subst (λ (l : List (List Value)). 1 ≤ length l) (sym are) (omega arith)
