use Rattle.std.proofs.Common.{◌≡◌, map, take}
use Rattle.serde_json.specs.View.{view}
use Rattle.plan_writing.specs.Places.{given_text}
use Rattle.plan_json.specs.PlanJson.{text_json}
use Rattle.plan_json.proofs.values.results_value.Given as goal

abbrev pub invariant-loop-out : goal.invariant-loop-out
invariant-loop-out l =
    map view l.values.items ≡ map (λ x. text_json (given_text l.stage l.group x))
    (take l.out-index l.outs)
