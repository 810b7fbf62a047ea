use Rattle.flume_value.proofs.NumberLemmas.{short_first}
use Rattle.flume_value.proofs.short.Short.first.Goals as goal

pub returns : goal.returns
returns c =
    short_first c.self.inside.len _ c.self.inside.bytes _ c.self.invariant.1 c.self.view_is
    c.first_in.ensures.small c.first_in.ensures.number
