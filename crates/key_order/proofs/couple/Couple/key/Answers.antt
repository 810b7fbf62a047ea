use Rattle.std.proofs.Common.{◌≡◌, Some, subst}
use Rattle.bag_groups.specs.Pairs.{key_of}
use Rattle.bag_groups.proofs.PairLemmas.{key_of-pair}
use Rattle.key_order.proofs.couple.Couple.key.Goals as goal

pub returns : goal.returns
returns c =
    subst (λ pair. key_of pair ≡ Some c.self.inside.key) c.self.view_is (key_of-pair _ _)
