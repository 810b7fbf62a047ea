-- What a finished accumulator answers, and the steps on it.
use Rattle.std.proofs.Common.{◌≡◌, ℕ, [], ◌∷◌, sym, ap, ◌∙◌}
use Rattle.std.specs.Prelude.{Result, Ok, Err}
use Rattle.flume_value.specs.declared.value.Value.{Value}
use Rattle.flume_value.specs.declared.fault.CallFault.TheVariants as call
use Rattle.flume_value.specs.declared.fault.Kind.{Kind}
use Rattle.flume_collection.specs.Calls.{trap_of}
use Rattle.bag_groups.specs.Pairs.{pair}
use Rattle.combine_table.specs.Combinations.{answer}
use Rattle.exec_graph.specs.Calls.{of_combine}
use Rattle.forest_steps.specs.declared.fault.StepFault.TheVariants as fault

pub gives : (key v emitted : Value) (r : Result Value Kind) → Ok v ≡ answer r
    → emitted ≡ pair key v → of_combine key r ≡ Ok ((emitted ∷ []) ∷ [])
gives key v emitted (Ok x) e is =
    let same : v ≡ x = cc in
    ap (λ y. Ok ((pair key y ∷ []) ∷ [])) (sym same)
    ∙ ap (λ p. Ok ((p ∷ []) ∷ [])) (sym is)
gives key v emitted (Err kind) e is = cc e

pub traps : (origin : ℕ) (key : Value) (kind : Kind) (r : Result Value Kind)
    → Err (call.Trap kind) ≡ answer r
    → trap_of origin (of_combine key r)
    ≡ record { origin = origin; element = key; kind = kind } ∷ []
traps origin key kind (Ok x) e = cc e
traps origin key kind (Err k) e =
    let same : kind ≡ k = cc in
    ap (λ (j : Kind). trap_of origin (Err (j, key))) (sym same)
