use Rattle.std.proofs.Common.{◌≡◌, ◌+◌, ◌++◌, drop, map}
use Rattle.serde_json.specs.View.{view}
use Rattle.plan_writing.specs.Lists.{numbered_texts}
use Rattle.plan_json.specs.PlanJson.{stage_json}
use Rattle.plan_json.proofs.json.stages_value.Given as goal

abbrev pub invariant-loop-i : goal.invariant-loop-i
invariant-loop-i g l =
    let value = stage_json (g.N.Names.naming l.names) in
    map view l.values.items ++ numbered_texts value (l.i + 1) (drop l.i l.stages)
    ≡ numbered_texts value 1 l.stages
