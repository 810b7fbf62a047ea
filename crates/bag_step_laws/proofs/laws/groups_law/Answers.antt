use Rattle.bag_step_laws.proofs.GroupRows.{combined-grouped, traps-grouped}
use Rattle.bag_step_laws.proofs.laws.groups_law.Goals as goal

pub returns-clause-combined : goal.returns-clause-combined
returns-clause-combined c = combined-grouped

pub returns-clause-traps : goal.returns-clause-traps
returns-clause-traps c = traps-grouped
