use Rattle.flume_value.proofs.NumberLemmas.{long_first}
use Rattle.flume_value.proofs.numbers.first_of.Goals as goal

pub returns : goal.returns
returns c =
    long_first _ c.args.bytes.now c.requires c.first_eight.ensures.number
    c.first_eight.ensures.small
