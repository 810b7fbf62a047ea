use Rattle.std.proofs.Common.{pos, false}
use Rattle.flume_value.specs.Parts.{bool_of, int_of}
use Rattle.bag_groups.specs.Combining.{group_of}
use Rattle.bag_groups.specs.Pairs.{parts_of}
use Rattle.no_defaults.proofs.ReadingLemmas.{all_found, known, there}
use Rattle.no_defaults.proofs.readings.readings_law.Goals as goal

pub returns-clause-emissions : goal.returns-clause-emissions
returns-clause-emissions c = λ at outputs below. there outputs at below

pub returns-clause-pairs : goal.returns-clause-pairs
returns-clause-pairs c = all_found parts_of

pub returns-clause-groups : goal.returns-clause-groups
returns-clause-groups c = all_found group_of

pub returns-clause-ints : goal.returns-clause-ints
returns-clause-ints c = λ v some. known (int_of v) (pos 0) some

pub returns-clause-truths : goal.returns-clause-truths
returns-clause-truths c = λ v some. known (bool_of v) false some
