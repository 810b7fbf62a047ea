-- What a call of a function of a script gives.
use Rattle.std.proofs.Common.{◌≡◌, ◌≤◌, ℕ, List, [], length, Option, Some, ap, ◌∙◌}
use Rattle.std.specs.Prelude.{Result, Ok, Err, IfOk, IfErr}
use Rattle.std.specs.Option.{option_map}
use Rattle.std.proofs.lemmas.Option.{slice_get_past}
use Rattle.std.proofs.lemmas.Result.{IfOk-weaker, IfErr-weaker}
use Rattle.flume_value.specs.declared.fault.CallFault.{CallFault}
use Rattle.flume_value.specs.declared.fault.CallFault.TheVariants as call
use Rattle.flume_value.specs.declared.value.Value.{Value}
use Rattle.flume_collection.specs.Calls.{Called}
use Rattle.written_types.specs.Named.{Named}
use Rattle.dofn_eval.specs.Function.{SlotFunction as Fun}
use Rattle.dofn_eval.specs.Outcome.{Gives, IsFaultIn}
use Rattle.dofn_eval.specs.Run.{slots_mean}
use Rattle.forest_steps.specs.Functions.{IsCallFault}
use Rattle.build_law.specs.of_script_program.Program.{DoesAsWritten}
use Rattle.build_law.specs.of_script_program.Script.{Function}
use Rattle.build_law.specs.of_script_laws.WellFormed.{function_at}
use Rattle.build_law.proofs.of_direct_meaning.CallLemmas.{gives_answer, same_answer, traps_answer}
use Rattle.build_law.specs.Worlds.{answered_by, or_silent}

-- ---- a function's number

module _ (found : Option Function) (function : Function) (at : found ≡ Some function) (fun : Fun)
    (does : DoesAsWritten fun function) (x : Value) where
  answered : (called : Called) → answered_by (Some function) x ≡ called
      → answered_by found x ≡ called
  answered called is = ap (λ (o : Option Function). answered_by o x) at ∙ is

  emitted : (lists : List (List Value)) → slots_mean fun.outputs fun.body x ≡ Gives lists
      → answered_by found x ≡ Ok lists
  emitted lists is =
      answered (Ok lists)
      (ap or_silent (same_answer fun function does x ∙ gives_answer fun x lists is))

  trapped : (fault : CallFault) → IsFaultIn (slots_mean fun.outputs fun.body x) fault
      → IsCallFault (answered_by found x) x fault
  trapped (call.Trap kind) is =
      answered (Err (kind, x))
      (ap or_silent (same_answer fun function does x ∙ traps_answer fun x kind is))
  trapped call.Memory is = tt

  pub emits : {T : Type 0} (items : T → List (List Value)) (result : Result T CallFault)
      → IfOk result (λ lists. slots_mean fun.outputs fun.body x ≡ Gives (items lists))
      → IfOk result (λ lists. answered_by found x ≡ Ok (items lists))
  emits items result is =
      IfOk-weaker result (λ lists. slots_mean fun.outputs fun.body x ≡ Gives (items lists))
      (λ lists. answered_by found x ≡ Ok (items lists)) (λ lists e. emitted (items lists) e) is

  pub traps : {T : Type 0} (result : Result T CallFault)
      → IfErr result (IsFaultIn (slots_mean fun.outputs fun.body x))
      → IfErr result (IsCallFault (answered_by found x) x)
  traps result is =
      IfErr-weaker result (IsFaultIn (slots_mean fun.outputs fun.body x))
      (IsCallFault (answered_by found x) x) trapped is

-- ---- another number

pub silent : (functions : Named Function) (number : ℕ) → length functions ≤ number
    → (x : Value) → answered_by (function_at functions number) x ≡ Ok []
silent functions number h x =
    ap (λ (o : Option (List ℕ × Function)). answered_by (option_map (λ entry. entry.1) o) x)
    (slice_get_past functions number h)
