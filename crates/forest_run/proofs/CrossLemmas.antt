-- Threads may share the stages of plans.
use denote.Param.Send.{IsSync, sendable}
use Rattle.std.proofs.Crossing.{crosses}
use Rattle.flume_value.proofs.CrossLemmas.{values_cross}
use Rattle.exec_graph.specs.contracts.step.Step as step
use Rattle.exec_graph.specs.contracts.step.Does as does
use Rattle.exec_graph.specs.contracts.step.Roots as roots
use Rattle.exec_graph.proofs.step.Step.TheLaws.TheKnot as knot
use Rattle.exec_plan.specs.contracts.plan.Mscr as mscr
use Rattle.exec_plan.specs.contracts.plan.InChannel as ins
use Rattle.exec_plan.specs.contracts.plan.OutChannel as outs
use Rattle.exec_plan.specs.contracts.plan.Grouping as grouping
use Rattle.exec_plan.specs.contracts.plan.Take as take

pub Does-sync : IsSync does.the_row
Does-sync = search (sendable, crosses) depth 40

pub Step-sync : IsSync step.the_row
Step-sync = search (sendable, crosses, knot.crosses, Does-sync) depth 60

pub Roots-sync : IsSync roots.the_row
Roots-sync = search (sendable, crosses, Step-sync) depth 60

pub InChannel-sync : IsSync ins.the_row
InChannel-sync = search (sendable, crosses, Roots-sync) depth 60

pub Grouping-sync : IsSync grouping.the_row
Grouping-sync = search (sendable, crosses, values_cross, Roots-sync) depth 60

pub Take-sync : IsSync take.the_row
Take-sync = search (sendable, crosses) depth 60

pub OutChannel-sync : IsSync outs.the_row
OutChannel-sync = search (sendable, crosses, values_cross, Roots-sync, Take-sync) depth 60

pub Mscr-sync : IsSync mscr.the_row
Mscr-sync = search (sendable, crosses, values_cross, InChannel-sync, OutChannel-sync) depth 60

pub ruleset stages_cross = (
  values_cross,
  Does-sync,
  Step-sync,
  Roots-sync,
  Take-sync,
  InChannel-sync,
  Grouping-sync,
  OutChannel-sync,
  Mscr-sync,
)
