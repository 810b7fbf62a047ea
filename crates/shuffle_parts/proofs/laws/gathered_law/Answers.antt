use Rattle.shuffle_parts.proofs.Gathered.{all_pairs-are, all_partials-stand}
use Rattle.shuffle_parts.proofs.laws.gathered_law.Goals as goal

pub returns-clause-pairs : goal.returns-clause-pairs
returns-clause-pairs c = all_pairs-are

pub returns-clause-partials : goal.returns-clause-partials
returns-clause-partials c = all_partials-stand
