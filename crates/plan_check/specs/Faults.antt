-- Faults of parts as faults of a plan from outside.
use Rattle.plan_files.specs.declared.file.FileFault.{FileFault}
use Rattle.plan_files.specs.declared.file.FileFault.TheVariants as file
use Rattle.graph_rewriting.specs.declared.replaying.ReplayFault.{ReplayFault}
use Rattle.graph_rewriting.specs.declared.replaying.ReplayFault.TheVariants as replay
use Rattle.plan_faults.specs.declared.fault.PlanFault.{PlanFault}
use Rattle.plan_faults.specs.declared.fault.PlanFault.TheVariants.{Refused, Memory}
use Rattle.plan_faults.specs.declared.fault.PlanKind.TheVariants.{NotJson, Shape, BadStep}

abbrev pub of_file : FileFault → PlanFault
of_file file.NotJson = Refused 0 NotJson
of_file file.Shape = Refused 0 Shape
of_file file.Memory = Memory

abbrev pub of_replay : ReplayFault → PlanFault
of_replay (replay.Step i) = Refused i BadStep
of_replay replay.Memory = Memory
