use Rattle.std.proofs.Common.{◌≡◌, ◌++◌, drop, map}
use Rattle.serde_json.specs.View.{view}
use Rattle.plan_writing.specs.Lists.{paired}
use Rattle.plan_json.specs.PlanJson.{output_json}
use Rattle.plan_json.proofs.json.outputs_value.Given as goal

abbrev pub invariant-loop-number : goal.invariant-loop-number
invariant-loop-number g l =
    let outputs = (g.N.Names.naming l.names).outputs in
    map view l.values.items
    ++ paired output_json (drop l.number outputs) (drop l.number l.places)
    ≡ paired output_json outputs l.places
