-- Bytes are taken or refused, and that in one way, whatever the names and the graph are.
use Rattle.std.proofs.Common.{◌≡◌, ℕ, List, Result, Ok, Err}
use Rattle.exec_graph.specs.Wellformed.{IsGraphOk}
use Rattle.exec_graph.specs.declared.graph.Graph.{Graph}
use Rattle.exec_plan.specs.declared.plan.Plan.{Plan}
use Rattle.plan_tracing.proofs.of_plan_check.One.{one_answer}
use Rattle.plan_tracing.specs.of_plan_check.Checked.{IsChecked}
use Rattle.plan_faults.specs.declared.fault.PlanFault.{PlanFault}
use Rattle.plan_faults.specs.declared.fault.PlanFault.TheVariants.{Refused, Memory}
use Rattle.plan_faults.specs.declared.fault.PlanKind.{PlanKind}
use Rattle.plan_writing.specs.Naming.{Naming}

abbrev Answer : Type 0
Answer = Result Plan PlanFault

found_not_missed : (plan : Plan) → ◌≡◌ {A = Answer} (Ok plan) (Err Memory) → ⊥
found_not_missed plan e = absurd (cc)

refused_not_missed : (step : ℕ) (kind : PlanKind)
    → ◌≡◌ {A = Answer} (Err (Refused step kind)) (Err Memory) → ⊥
refused_not_missed step kind e = absurd (cc)

found_not_refused : (plan : Plan) (step : ℕ) (kind : PlanKind)
    → ◌≡◌ {A = Answer} (Ok plan) (Err (Refused step kind)) → ⊥
found_not_refused plan step kind e = absurd (cc)

same_refusal : (i j : ℕ) (h k : PlanKind)
    → ◌≡◌ {A = Answer} (Err (Refused i h)) (Err (Refused j k)) → (i ≡ j) × (h ≡ k)
same_refusal i j h k e =
    let steps : i ≡ j = cc in
    let kinds : h ≡ k = cc in
    (steps, kinds)

module _ (names : Naming) (g : Graph) (ok : IsGraphOk g) (bytes : List ℕ) where
  -- bytes that are taken are not refused
  pub taken_alone : (plan : Plan) (step : ℕ) (kind : PlanKind) → IsChecked names g bytes (Ok plan)
      → IsChecked names g bytes (Err (Refused step kind)) → ⊥
  taken_alone plan step kind taken other =
      found_not_refused plan step kind
      (one_answer names g bytes (Ok plan) (Err (Refused step kind)) ok taken other
      (found_not_missed plan) (refused_not_missed step kind))

  -- bytes are refused in one way
  pub refused_once : (i j : ℕ) (h k : PlanKind) → IsChecked names g bytes (Err (Refused i h))
      → IsChecked names g bytes (Err (Refused j k)) → (i ≡ j) × (h ≡ k)
  refused_once i j h k first second =
      same_refusal i j h k
      (one_answer names g bytes (Err (Refused i h)) (Err (Refused j k)) ok first second
      (refused_not_missed i h) (refused_not_missed j k))
