use Rattle.std.proofs.Common.{◌≡◌, map, take}
use Rattle.serde_json.specs.View.{view}
use Rattle.plan_files.specs.Written.{rewrite_json}
use Rattle.plan_files.proofs.writing.rewrites_value.Given as goal

abbrev pub invariant-loop-rewrite : goal.invariant-loop-rewrite
invariant-loop-rewrite l =
    map view l.values.items ≡ map rewrite_json (take l.rewrite-index l.rewrites)
