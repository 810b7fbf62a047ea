use Rattle.std.proofs.Common.{◌∙◌}
use Rattle.flume_value.specs.Order.{value_cmp}
use Rattle.key_order.proofs.Keying.{key_in-made}
use Rattle.key_order.proofs.couple.Couple.compare_keys.Goals as goal

pub returns : goal.returns
returns c =
    c.compare.ensures
    ∙ (λ i. value_cmp (key_in-made _ _ _ c.self.view_is i) (key_in-made _ _ _ c.other.view_is i))
