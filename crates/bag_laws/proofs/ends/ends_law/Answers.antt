use Rattle.bag_laws.proofs.EndLemmas.{distinct_are, greatest_are, least_are, only_greatest, only_least}
use Rattle.bag_laws.proofs.ends.ends_law.Goals as goal

pub returns-clause-least : goal.returns-clause-least
returns-clause-least c = least_are

pub returns-clause-only_least : goal.returns-clause-only_least
returns-clause-only_least c = only_least

pub returns-clause-greatest : goal.returns-clause-greatest
returns-clause-greatest c = greatest_are

pub returns-clause-only_greatest : goal.returns-clause-only_greatest
returns-clause-only_greatest c = only_greatest

pub returns-clause-distinct : goal.returns-clause-distinct
returns-clause-distinct c = distinct_are
