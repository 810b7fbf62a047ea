use Rattle.std.proofs.Common.{◌≡◌, ◌++◌, map, drop}
use Rattle.stage_results.specs.of_map_shard.Tables.{table}
use Rattle.stage_exec.proofs.outputs.output_lists.Given as goal

abbrev pub invariant-loop-k : goal.invariant-loop-k
invariant-loop-k l =
    l.lists.items ++ map (table l.rows.items l.results.items) (drop l.k l.outputs)
    ≡ map (table l.fn.sources.items l.fn.results.items) l.outputs
