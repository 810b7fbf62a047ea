use Rattle.std.proofs.Common.{◌≡◌, map, take}
use Rattle.serde_json.specs.View.{view}
use Rattle.plan_json.specs.PlanJson.{out_json}
use Rattle.plan_json.proofs.json.outs_value.Given as goal

abbrev pub invariant-loop-channel : goal.invariant-loop-channel
invariant-loop-channel g l =
    map view l.values.items
    ≡ map (out_json (g.N.Names.naming l.names) l.stage) (take l.channel-index l.outputs)
