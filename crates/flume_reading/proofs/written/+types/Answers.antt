use Rattle.std.proofs.Common.{refl, sym, ◌∙◌}
use Rattle.flume_grammar.specs.Limits.{the_limits}
use Rattle.flume_grammar.specs.inner.Types.{at_comma, next_field_type, type_below}
use Rattle.flume_grammar.specs.inner.Reads.{Below}
use Rattle.flume_grammar.proofs.Loops.{at_first, failed}
use Rattle.flume_reading.proofs.written.+types.Goals as goal

pub more_field_types-more-init : goal.more_field_types-more-init
more_field_types-more-init t c =
    at_first at_comma (next_field_type the_limits (type_below c.args.limit)) (Below c.args.limit)
    c.args.first c.args.first c.args.tokens.now refl c.requires.depth

pub more_field_types-returns-in_err-fields : goal.more_field_types-returns-in_err-fields
more_field_types-returns-in_err-fields t c =
    let q = failed c.more.invariant refl (sym c.is_at_sign.ensures ∙ c.more-test.true)
    c.in_err-fields.ensures c.from_residual.result c.from_residual.ensures.1 in
    rw q.0 q.1
