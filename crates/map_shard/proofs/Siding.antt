-- What a call on the record of an element and a value gives, as a call on the element beside it.
use Rattle.std.proofs.Common.{◌≡◌, List, sym, ap, ◌∙◌}
use Rattle.std.specs.Prelude.{IfErr, IfOk, Result, Ok, Err}
use Rattle.flume_value.specs.declared.fault.CallFault.{CallFault}
use Rattle.flume_value.specs.declared.fault.CallFault.TheVariants as call
use Rattle.flume_value.specs.declared.value.Value.{Value}
use Rattle.flume_collection.specs.Calls.{Called}
use Rattle.exec_graph.specs.Objects.{naming}
use Rattle.forest_steps.specs.Functions.{IsCallFault}

module _ (answer : Value → Called) (x both made : Value) (is : made ≡ both) where
  same_answer : naming x (answer both) ≡ naming x (answer made)
  same_answer = ap (λ (y : Value). naming x (answer y)) (sym is)

  pub emits_beside : {L E : Type 0} (items : L → List (List Value)) (r : Result L E)
      → IfOk r (λ lists. answer made ≡ Ok (items lists))
      → IfOk r (λ lists. naming x (answer both) ≡ Ok (items lists))
  emits_beside items (Ok lists) e = same_answer ∙ ap (naming x) e
  emits_beside items (Err fault) e = tt

  pub traps_beside : {L : Type 0} (r : Result L CallFault)
      → IfErr r (IsCallFault (answer made) made) → IfErr r (IsCallFault (naming x (answer both)) x)
  traps_beside (Ok lists) e = tt
  traps_beside (Err (call.Trap kind)) e = same_answer ∙ ap (naming x) e
  traps_beside (Err call.Memory) e = tt
