-- The rules by which values that are sorted are a bag.
use Rattle.flume_value.proofs.OrderLemmas.{the_order}
use Rattle.flume_value.proofs.BagLemmas.{the_bags}

pub ruleset sorted_rules = (the_order, the_bags)
