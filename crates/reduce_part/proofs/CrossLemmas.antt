-- Threads may share the reduce tasks of a stage, where they may share its functions.
use denote.RattleType.{RattleType}
use denote.Ref.{NamedLft}
use denote.Param.Send.{IsSync, sendable}
use Rattle.std.proofs.Crossing.{crosses}
use Rattle.flume_value.proofs.CrossLemmas.{values_cross}
use Rattle.key_order.proofs.CrossLemmas.{Couple-sync}
use Rattle.shuffle_parts.specs.contracts.out.Sent as sent
use Rattle.shuffle_parts.specs.contracts.out.MapOut as map_out
use Rattle.forest_steps.specs.declared.functions.Functions.{Ghosts}
use Rattle.forest_run.proofs.CrossLemmas.{Mscr-sync}
use Rattle.reduce_part.specs.contracts.tasks.ReduceTasks as tasks

Sent-sync : IsSync sent.the_row
Sent-sync = search (sendable, crosses, values_cross, Couple-sync) depth 60

MapOut-sync : IsSync map_out.the_row
MapOut-sync = search (sendable, crosses, values_cross, Sent-sync) depth 60

pub ReduceTasks-sync : (a : NamedLft) (F : RattleType) (ghosts : Ghosts F.Denot) → IsSync F
    → IsSync (tasks.the_row a F ghosts)
ReduceTasks-sync a F ghosts shared = search (sendable, crosses, Mscr-sync, MapOut-sync) depth 60
