use Rattle.key_order.proofs.Ordering.{key_less}
use Rattle.key_order.proofs.laws.number_law.Goals as goal

pub returns : goal.returns
returns c = record { monotone = key_less }
