use Rattle.std.proofs.Common.{◌≡◌, ◌++◌, drop}
use Rattle.std.specs.List.{flat_map}
use Rattle.stage_results.specs.of_map_shard.Tables.{table}
use Rattle.stage_exec.proofs.flatten.flatten_lists.Given as goal

abbrev pub invariant-loop-place : goal.invariant-loop-place
invariant-loop-place l =
    l.all.items ++ flat_map (table l.sources l.results) (drop l.place-index l.places)
    ≡ flat_map (table l.sources l.results) l.places
