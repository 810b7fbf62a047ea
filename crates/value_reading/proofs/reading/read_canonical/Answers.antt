use Rattle.std.proofs.Common.{arith}
use Rattle.flume_value.proofs.NumberLemmas.{small_from}
use Rattle.value_reading.proofs.Whole.{is_written, none_is, is_back}
use Rattle.value_reading.proofs.reading.read_canonical.Goals as goal

pub returns-clause-value : goal.returns-clause-value
returns-clause-value c =
    is_written c.args.bytes.now c.whole.result
    (small_from c.args.bytes.now (λ i. omega (arith, c.type_inv.bytes i))) c.whole.ensures

pub returns-clause-none : goal.returns-clause-none
returns-clause-none c = none_is c.args.bytes.now c.whole.result c.whole.ensures

pub returns-clause-back : goal.returns-clause-back
returns-clause-back c = is_back c.args.bytes.now c.whole.result c.whole.ensures
