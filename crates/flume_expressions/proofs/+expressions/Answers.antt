use Rattle.std.proofs.Common.{◌<◌, is_some, refl, sym, ap, ◌∙◌, arith}
use Rattle.std.proofs.lemmas.Result.{err_from_is_err_and}
use Rattle.flume_grammar.specs.Limits.{the_limits}
use Rattle.flume_grammar.specs.inner.Out.{all_of}
use Rattle.flume_grammar.specs.inner.Types.{at_comma}
use Rattle.flume_grammar.specs.inner.Expressions.{suffix_of, goes_on, next_suffix, next_field, next_member, with_suffix, expression_below}
use Rattle.flume_grammar.proofs.Loops.{lost, reaches_start, reaches_fault, at_first, failed}
use Rattle.flume_grammar.proofs.Operands.{opens_fault, close_next, close_fault}
use Rattle.flume_grammar.specs.inner.Reads.{Below, FitsSoFar}
use Rattle.flume_expressions.proofs.Sides.{after_side}
use Rattle.flume_expressions.proofs.+expressions.Goals as goal

pub expression::continued-more-init : goal.expression::continued-more-init
expression::continued-more-init t c = record {
  reaches =
      reaches_start (goes_on c.args.least)
      (next_suffix c.args.limit (expression_below c.args.limit) c.args.least) c.args.first
      c.args.tokens.now;
  limit = c.requires.limit;
  depth = c.requires.depth;
  shorter = omega arith;
}

pub operand::more_fields-more-init : goal.operand::more_fields-more-init
operand::more_fields-more-init t c =
    at_first at_comma (next_field the_limits (expression_below c.args.limit)) (Below c.args.limit)
    c.args.first c.args.first c.args.tokens.now refl c.requires.depth

pub operand::more_members-more-init : goal.operand::more_members-more-init
operand::more_members-more-init t c =
    at_first at_comma (next_member the_limits (expression_below c.args.limit))
    (λ m. m.1 < c.args.limit) c.args.first c.args.first c.args.tokens.now refl c.requires.depth

pub expression::continued-returns-in_err-left : goal.expression::continued-returns-in_err-left
expression::continued-returns-in_err-left t c =
    let inner = expression_below c.args.limit in
    let part = next_suffix c.args.limit inner c.args.least in
    let s = sym (c.in-Some.ensures
    ∙ ap (λ o. suffix_of o c.more.left.rank c.args.least) c.peek.ensures) in
    let p = err_from_is_err_and c.from_residual.result c.from_residual.ensures.1 in
    rw (p.1, p.2) (λ other.
    lost (all_of (goes_on c.args.least) part c.args.first c.args.tokens.now) _ _
    (reaches_fault (goes_on c.args.least) part _ c.more.left c.more.tokens _ refl
    c.more.invariant.reaches (ap is_some s)
    (ap (λ o. with_suffix c.args.limit inner c.more.left o c.more.tokens) s
    ∙ c.in_err-left.ensures other)))

pub operand::more_fields-returns-in_err-fields : goal.operand::more_fields-returns-in_err-fields
operand::more_fields-returns-in_err-fields t c =
    let q = failed c.more.invariant refl (sym c.is_at_sign.ensures ∙ c.more-test.true)
    c.in_err-fields.ensures c.from_residual.result c.from_residual.ensures.1 in
    rw q.0 q.1

pub operand::more_members-returns-in_err-members : goal.operand::more_members-returns-in_err-members
operand::more_members-returns-in_err-members t c =
    let q = failed c.more.invariant refl (sym c.is_at_sign.ensures ∙ c.more-test.true)
    c.in_err-members.ensures c.from_residual.result c.from_residual.ensures.1 in
    rw q.0 q.1

pub operand::operand-returns-in_err-inner : goal.operand::operand-returns-in_err-inner
operand::operand-returns-in_err-inner t c =
    let p = err_from_is_err_and c.from_residual-in_err-inner.result
    c.from_residual-in_err-inner.ensures.1 in
    rw (p.1, p.2) (λ other.
    opens_fault c.args.limit (expression_below c.args.limit) the_limits c.in_ok-parens.parens
    c.args.least c.args.tokens.now c.opened.new.tokens _ c.in_ok-parens.ensures.ok
    c.if-parens-eq0.false (c.in_err-inner.ensures other))

pub operand::operand-returns-in_err-inner-2 : goal.operand::operand-returns-in_err-inner-2
operand::operand-returns-in_err-inner-2 t c =
    let p = err_from_is_err_and c.from_residual-in_err-inner-2.result
    c.from_residual-in_err-inner-2.ensures.1 in
    rw (p.1, p.2) (λ other.
    close_fault c.args.limit (expression_below c.args.limit) c.in_ok-parens.parens c.close.closed
    c.close.inner c.close.tokens _ _ c.close-test.true (c.in_err-inner-2.ensures other)
    c.close.invariant.rest)

pub operand::operand-close-preserved : goal.operand::operand-close-preserved
operand::operand-close-preserved t c = record {
  rest =
      close_next c.args.limit (expression_below c.args.limit) c.in_ok-parens.parens c.close.closed
      c.close.inner _ c.close.tokens _ _ c.close-test.true c.in_ok-inner-2.ensures.value
      c.close.invariant.rest;
  limit = c.close.invariant.limit;
  depth = c.in_ok-inner-2.ensures.fits;
  shorter = omega (arith, c.close.invariant.shorter, c.in_ok-inner-2.ensures.shorter);
}

pub operand::after_start-returns-in-Side : goal.operand::after_start-returns-in-Side
operand::after_start-returns-in-Side t c =
    after_side (FitsSoFar c.args.limit) (expression_below c.args.limit) c.args.start c.in-Side.side
    _ _ _ c.in-Side.is c.sided.ensures
