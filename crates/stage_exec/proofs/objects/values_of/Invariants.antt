use Rattle.std.proofs.Common.{◌≡◌, drop, map}
use Rattle.exec_graph.specs.Objects.{values_in}
use Rattle.stage_results.specs.of_map_shard.Tables.{table}
use Rattle.task_lists.specs.Lists.{calm_list}
use Rattle.stage_exec.specs.inner.Objects.{then_values}
use Rattle.stage_exec.proofs.objects.values_of.Given as goal

-- what is left of the values, behind those so far, comes to all of them
abbrev pub invariant-loop-place : goal.invariant-loop-place
invariant-loop-place l =
    then_values l.values
    (values_in (map (calm_list (table l.sources l.results)) (drop l.place-index l.place-items)))
    ≡ values_in (map (calm_list (table l.sources l.results)) l.fn.takes)
