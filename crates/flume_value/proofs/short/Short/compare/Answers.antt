use Rattle.std.proofs.Common.{◌∙◌}
use Rattle.flume_value.proofs.NumberLemmas.{framed-cmp}
use Rattle.flume_value.proofs.short.Short.compare.Goals as goal

pub returns : goal.returns
returns c =
    c.order.ensures
    ∙ framed-cmp c.self.inside.len c.other.inside.len c.self.inside.bytes c.other.inside.bytes _ _
    c.self.invariant.0 c.other.invariant.0 c.self.told c.other.told c.self.invariant.1
    c.other.invariant.1 c.self.view_is c.other.view_is
