-- Threads may share the map tasks of a stage, where they may share its functions.
use denote.RattleType.{RattleType}
use denote.Ref.{NamedLft}
use denote.Param.Send.{IsSync, sendable}
use Rattle.std.proofs.Crossing.{crosses}
use Rattle.forest_steps.specs.declared.functions.Functions.{Ghosts}
use Rattle.forest_run.proofs.CrossLemmas.{stages_cross}
use Rattle.map_shard.specs.contracts.tasks.MapTasks as tasks

pub MapTasks-sync : (a : NamedLft) (T : RattleType) (g : Ghosts T.Denot) → IsSync T
    → IsSync (tasks.the_row a T g)
MapTasks-sync a T g s = search (sendable, crosses, stages_cross) depth 60
