use Rattle.std.proofs.Common.{ap, sym, ◌∙◌}
use Rattle.std.specs.Ordering.{is_eq}
use Rattle.key_order.specs.inner.Numbered.{is_key}
use Rattle.key_order.proofs.groups.has_key.Goals as goal

pub returns : goal.returns
returns c =
    c.is_eq.ensures ∙ ap is_eq c.compare.ensures ∙ sym (ap (is_key c.args.key.now) c.key.ensures)
