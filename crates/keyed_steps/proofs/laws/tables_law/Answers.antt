use Rattle.keyed_steps.proofs.TypedFacts.{all_pairs, all_groups, all_suited}
use Rattle.keyed_steps.proofs.laws.tables_law.Goals as goal

pub returns-clause-pairs : goal.returns-clause-pairs
returns-clause-pairs c = all_pairs

pub returns-clause-groups : goal.returns-clause-groups
returns-clause-groups c = all_groups

pub returns-clause-suited : goal.returns-clause-suited
returns-clause-suited c = all_suited
