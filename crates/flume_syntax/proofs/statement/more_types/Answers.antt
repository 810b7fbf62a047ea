use Rattle.std.proofs.Common.{◌<◌, [], length, refl, sym, ap, ◌∙◌, arith}
use Rattle.flume_grammar.specs.Limits.{the_limits}
use Rattle.flume_grammar.specs.inner.Types.{at_comma}
use Rattle.flume_grammar.specs.inner.Statements.{next_type}
use Rattle.flume_grammar.proofs.Loops.{at_first, failed}
use Rattle.flume_syntax.proofs.statement.more_types.Goals as goal

pub more-init : goal.more-init
more-init c =
    let none = ap length c.new-types.ensures in
    at_first at_comma (next_type the_limits) (λ types. length types < 8) [] _ _ c.new-types.ensures
    (omega (arith, none))

pub returns-in_err-types : goal.returns-in_err-types
returns-in_err-types c =
    let q = failed c.more.invariant refl (sym c.is_at_sign.ensures ∙ c.more-test.true)
    c.in_err-types.ensures c.from_residual.result c.from_residual.ensures.1 in
    rw q.0 q.1
