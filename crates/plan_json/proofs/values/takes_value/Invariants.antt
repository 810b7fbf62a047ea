use Rattle.std.proofs.Common.{◌≡◌, map, take}
use Rattle.serde_json.specs.View.{view}
use Rattle.plan_writing.specs.Places.{take_text}
use Rattle.plan_json.specs.PlanJson.{text_json}
use Rattle.plan_json.proofs.values.takes_value.Given as goal

abbrev pub invariant-loop-take : goal.invariant-loop-take
invariant-loop-take l =
    map view l.values.items ≡ map (λ x. text_json (take_text x)) (take l.take-index l.takes)
