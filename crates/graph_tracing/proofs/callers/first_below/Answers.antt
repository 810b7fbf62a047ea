use Rattle.std.proofs.Common.{ap, rules, ◌∙◌}
use Rattle.graph_tracing.specs.inner.Callers.{below}
use Rattle.graph_tracing.proofs.callers.first_below.Goals as goal

pub returns : goal.returns
returns c =
    c.below.ensures
    ∙ ap (below c.args.number)
    (c.first_at.ensures ∙ c.requires c.args.read (search rules))
