use Rattle.shuffle_parts.specs.Partitions.{is_in_part}
use Rattle.shuffle_parts.proofs.Passing.{grouped-passing, accumulated-passing}
use Rattle.shuffle_parts.proofs.Whole.{part_own, parts_whole}
use Rattle.shuffle_parts.proofs.laws.parts_law.Goals as goal

pub returns-clause-own : goal.returns-clause-own
returns-clause-own c = part_own

pub returns-clause-whole : goal.returns-clause-whole
returns-clause-whole c = parts_whole

pub returns-clause-groups : goal.returns-clause-groups
returns-clause-groups c n p pairs = grouped-passing (is_in_part n p) pairs

pub returns-clause-partials : goal.returns-clause-partials
returns-clause-partials c n p comb pairs = accumulated-passing (is_in_part n p) comb pairs
