use Rattle.std.proofs.Common.{◌≡◌, map, take}
use Rattle.serde_json.specs.View.{view}
use Rattle.plan_writing.specs.Places.{place_text}
use Rattle.plan_json.specs.PlanJson.{text_json}
use Rattle.plan_json.proofs.values.places_value.Given as goal

abbrev pub invariant-loop-place : goal.invariant-loop-place
invariant-loop-place l =
    map view l.values.items ≡ map (λ x. text_json (place_text x)) (take l.place-index l.places)
