use Rattle.sink_weights.proofs.Ending.{ends_once, ends_somewhere}
use Rattle.sink_weights.proofs.MergeLighter.{merge_lighter}
use Rattle.sink_weights.proofs.SinkLighter.{sink_lighter}
use Rattle.sink_weights.proofs.Weighing.{weight_fits}
use Rattle.sink_weights.proofs.laws.weight_law.Goals as goal

pub returns-clause-weighs : goal.returns-clause-weighs
returns-clause-weighs c = λ g n x ok at. weight_fits g n x ok.founded at

pub returns-clause-merge : goal.returns-clause-merge
returns-clause-merge c = merge_lighter

pub returns-clause-step : goal.returns-clause-step
returns-clause-step c = sink_lighter

pub returns-clause-ends : goal.returns-clause-ends
returns-clause-ends c = ends_somewhere

pub returns-clause-one : goal.returns-clause-one
returns-clause-one c = ends_once
