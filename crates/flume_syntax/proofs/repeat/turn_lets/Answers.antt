use Rattle.std.proofs.Common.{[], refl, sym, ◌∙◌}
use Rattle.flume_grammar.specs.Limits.{the_limits}
use Rattle.flume_grammar.specs.inner.Reads.{all}
use Rattle.flume_grammar.specs.inner.Statements.{at_let, next_let, turn_let}
use Rattle.flume_grammar.proofs.Loops.{lost, at_first, failed}
use Rattle.flume_syntax.proofs.repeat.turn_lets.Goals as goal

pub more-init : goal.more-init
more-init c = at_first at_let (next_let the_limits) all [] _ _ c.new-lets.ensures tt

pub returns-in_err-turn_let : goal.returns-in_err-turn_let
returns-in_err-turn_let c =
    let q = failed c.more.invariant refl (sym c.is_at_keyword.ensures ∙ c.more-test.true)
    (λ other. lost (turn_let the_limits c.more.tokens) _ _ (c.in_err-turn_let.ensures other))
    c.from_residual.result c.from_residual.ensures.1 in
    rw q.0 q.1
