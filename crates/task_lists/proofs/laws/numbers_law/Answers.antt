use Rattle.task_lists.proofs.Numbers.{maps_numbered, reduces_numbered}
use Rattle.task_lists.proofs.laws.numbers_law.Goals as goal

pub returns-clause-map_traps : goal.returns-clause-map_traps
returns-clause-map_traps c = maps_numbered

pub returns-clause-map_counts : goal.returns-clause-map_counts
returns-clause-map_counts c = maps_numbered

pub returns-clause-reduce_traps : goal.returns-clause-reduce_traps
returns-clause-reduce_traps c = reduces_numbered

pub returns-clause-reduce_counts : goal.returns-clause-reduce_counts
returns-clause-reduce_counts c = reduces_numbered
