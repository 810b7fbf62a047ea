-- Where files are told, the file of a plan gives one answer.
use Rattle.std.proofs.Common.{◌≡◌, ℕ, inl, inr, List, Option, Some, Err, ap, sym, ◌∙◌, refl, subst}
use Rattle.std.specs.Prelude.{IsSome}
use Rattle.command_words.specs.declared.words.Command.{Command}
use Rattle.exec_graph.specs.Typing.{IsTyped}
use Rattle.exec_graph.specs.Wellformed.{IsGraphOk}
use Rattle.exec_plan.specs.declared.plan.Plan.{Plan}
use Rattle.script_loading.specs.of_graph_build.Graphs.{graph_of}
use Rattle.outer_plans.specs.of_script_plans.Plans.{MeansGraph}
use Rattle.script_loading.specs.of_script_laws.WellFormed.{IsWellFormed}
use Rattle.outer_plans.specs.Plans.{IsAnswer, IsNotTaken, IsTaken}
use Rattle.outer_plans.proofs.Once.{refused_once, taken_alone}
use Rattle.outside.specs.Seen.{SeenSource}
use Rattle.plan_faults.specs.declared.fault.PlanFault.{PlanFault}
use Rattle.plan_faults.specs.declared.fault.PlanFault.TheVariants.{Refused, Memory}
use Rattle.plan_faults.specs.declared.fault.PlanKind.{PlanKind}
use Rattle.outer_plans.specs.of_plan_texts.Texts.{naming_of}
use Rattle.run_texts.specs.declared.status.Status.{Status}
use Rattle.run_texts.specs.declared.status.Status.TheVariants.{TooLong, NoFile, PlanRefused}
use Rattle.script_loading.specs.Causes.{IsLoadCause}
use Rattle.script_loading.specs.of_build_law.Signatures.{signatures_of}
use Rattle.script_run.specs.Runs.{IsPlanOf}
use Rattle.script_loading.specs.Limits.{plan_limit}
use Rattle.script_loading.specs.Loads.{IsAbove, IsMissing, Loads}
use Rattle.script_program.specs.Program.{Numbered}
use Rattle.script_program.specs.Script.{Script}
use Rattle.run_course.specs.Asked.{IsPlanTurn, AskOn, plan_read}
use Rattle.run_course.specs.Plans.{HasPlan, IsFileCause, IsPlanFor}
use Rattle.run_course.specs.inner.Course.{IsTakingStop, refusal_of}
use Rattle.run_course.proofs.GraphLemmas.{accepted_graph}
use Rattle.run_course.proofs.ReadLemmas.{Told, Words, not_above, not_gone_and_long, not_missing, same_bytes, same_command, same_script}

-- the graph of a well-formed script is typed
abbrev pub TypesLaw : Type 0
TypesLaw = (script : Script) → IsWellFormed script → IsTyped (signatures_of script)
    (graph_of script)

-- a plan that means what the graph of a script means is one of the script
pub is_plan_of : {held own : Numbered} {plan : Plan} → held ≡ own → TypesLaw
    → IsWellFormed held.script → MeansGraph held.script plan → IsPlanOf own.script plan
is_plan_of {held} {own} {plan} is law well means =
    subst (λ (p : Numbered). IsPlanOf p.script plan) is (record {
      well_formed = means.well_formed;
      typed = means.types (signatures_of held.script) (law held.script well);
      same = means.same;
      sources = means.sources;
    })

-- ---- a file

-- the file of a plan stops a call so
pub data BadPlan (told : Told) (script : Script) (name : List ℕ) (status : Status) : Type 0 where
  no_plan : IsMissing told name → status ≡ NoFile name → BadPlan told script name status
  long_plan : IsAbove told name plan_limit → status ≡ TooLong name plan_limit
      → BadPlan told script name status
  bad_plan : (bytes : List ℕ) (step : ℕ) (kind : PlanKind) → Loads told name plan_limit bytes
      → IsNotTaken script bytes step kind → status ≡ PlanRefused step kind
      → BadPlan told script name status

-- such a file gives no plan
pub not_had : (told : Told) (script : Script) (name : List ℕ) (status : Status) → IsSome told
    → IsGraphOk (graph_of script) → BadPlan told script name status → (plan : Plan)
    → IsPlanFor told script (Some name) plan → ⊥
not_had told script name status tells ok (no_plan gone is) plan has =
    not_missing told name has.0 plan_limit tells has.1 gone
not_had told script name status tells ok (long_plan longer is) plan has =
    not_above told name has.0 plan_limit tells has.1 longer
not_had told script name status tells ok (bad_plan bytes step kind loads bad is) plan has =
    let equal : has.0 ≡ bytes = same_bytes told name has.0 bytes _ _ tells has.1 loads in
    taken_alone (naming_of script) (graph_of script) ok bytes plan step kind
    (subst (λ (b : List ℕ). IsTaken script b plan) equal has.2) bad

one_bad_plan : (told : Told) (script : Script) (name : List ℕ) (a b : Status) → IsSome told
    → IsGraphOk (graph_of script) → BadPlan told script name a → BadPlan told script name b
    → a ≡ b
one_bad_plan told script name a b tells ok (no_plan gone is) (no_plan gone' is') = is ∙ sym is'
one_bad_plan told script name a b tells ok (no_plan gone is) (long_plan longer is') =
    absurd (not_gone_and_long told name plan_limit tells gone longer)
one_bad_plan told script name a b tells ok (no_plan gone is)
    (bad_plan bytes step kind loads bad is') =
    absurd (not_missing told name bytes plan_limit tells loads gone)
one_bad_plan told script name a b tells ok (long_plan longer is) (no_plan gone is') =
    absurd (not_gone_and_long told name plan_limit tells gone longer)
one_bad_plan told script name a b tells ok (long_plan longer is) (long_plan longer' is') =
    is ∙ sym is'
one_bad_plan told script name a b tells ok (long_plan longer is)
    (bad_plan bytes step kind loads bad is') =
    absurd (not_above told name bytes plan_limit tells loads longer)
one_bad_plan told script name a b tells ok (bad_plan bytes step kind loads bad is)
    (no_plan gone is') = absurd (not_missing told name bytes plan_limit tells loads gone)
one_bad_plan told script name a b tells ok (bad_plan bytes step kind loads bad is)
    (long_plan longer is') = absurd (not_above told name bytes plan_limit tells loads longer)
one_bad_plan told script name a b tells ok (bad_plan bytes step kind loads bad is)
    (bad_plan bytes' step' kind' loads' bad' is') =
    let equal : bytes ≡ bytes' = same_bytes told name bytes bytes' _ _ tells loads loads' in
    let one = refused_once (naming_of script) (graph_of script) ok bytes' step step' kind kind'
    (subst (λ (b : List ℕ). IsNotTaken script b step kind) equal bad) bad' in
    is ∙ ((λ i. PlanRefused (one.0 i) (one.1 i)) ∙ sym is')

-- ---- turns

-- a command that has the plan that it names has that of a turn
pub plan_had : (words : Words) (told : Told) (c d : Command) (script p : Script) (name : List ℕ)
    → IsSome told → AskOn words told c script → HasPlan told script (plan_read c)
    → IsPlanTurn words told d p name → HasPlan told p (Some name)
plan_had words told c d script p name tells reads has turn =
    let same : script ≡ p = same_script words told c d script p tells reads turn.1 in
    let again : c ≡ d = same_command words told c d script p reads turn.1 in
    let named : plan_read c ≡ Some name = ap plan_read again ∙ turn.3 in
    subst (λ (s : Script). HasPlan told s (Some name)) same
    (subst (λ (o : Option (List ℕ)). HasPlan told script o) named has)

-- of two such files both are one
same_plan_file : (words : Words) (told : Told) (c d : Command) (p q : Script) (n m : List ℕ)
    → IsPlanTurn words told c p n → IsPlanTurn words told d q m → n ≡ m
same_plan_file words told c d p q n m first second =
    let again : c ≡ d = same_command words told c d p q first.1 second.1 in
    let same : Some n ≡ Some m = sym first.3 ∙ (ap plan_read again ∙ second.3) in
    cc

pub one_plan : (words : Words) (told : Told) (c d : Command) (p q : Script) (n m : List ℕ)
    (a b : Status) → IsSome told → IsPlanTurn words told c p n → IsPlanTurn words told d q m
    → BadPlan told p n a → BadPlan told q m b → a ≡ b
one_plan words told c d p q n m a b tells first second bad worse =
    let script : p ≡ q = same_script words told c d p q tells first.1 second.1 in
    let name : n ≡ m = same_plan_file words told c d p q n m first second in
    one_bad_plan told q m a b tells (accepted_graph second.1.1 q second.1.4)
    (subst (λ (s : Script). BadPlan told s m a) script
    (subst (λ (l : List ℕ). BadPlan told p l a) name bad)) worse

-- ---- why there is none

pub taking_stop : (script : Script) (bytes : List ℕ) (fault : PlanFault)
    → IsAnswer script bytes (Err fault) → IsTakingStop script bytes (refusal_of fault)
taking_stop script bytes (Refused step kind) answer = inr (step, kind, refl, answer)
taking_stop script bytes Memory answer = inl refl

module _ (tries : ℕ) (before after : SeenSource) (script : Script) (name : List ℕ) where
  -- it was not loaded
  pub file_load : (status : Status) → IsLoadCause tries before after name plan_limit status
      → IsFileCause tries before after script name status
  file_load (PlanRefused step kind) cause = absurd cause
  file_load _ cause = cause

  -- it was not taken
  pub file_taken : (bytes : List ℕ) (status : Status) → Loads before.files name plan_limit bytes
      → IsTakingStop script bytes status → IsFileCause tries before after script name status
  file_taken bytes status loads (inl memory) =
      subst (λ (s : Status). IsFileCause tries before after script name s) (sym memory) tt
  file_taken bytes status loads (inr it) =
      subst (λ (s : Status). IsFileCause tries before after script name s) (sym it.2)
      (bytes, loads, it.3)
