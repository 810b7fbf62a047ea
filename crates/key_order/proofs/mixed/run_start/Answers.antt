use Rattle.std.proofs.Common.{◌≡◌, Some, ap, ◌∙◌, arith}
use Rattle.key_order.proofs.KeyRuns.{run_ends, run_more}
use Rattle.key_order.proofs.mixed.run_start.Goals as goal

pub loop-start-preserved : goal.loop-start-preserved
loop-start-preserved c = record {
  within = omega (arith, c.loop-start.invariant.within);
  same = run_more c.args.wanted.now c.args.pairs.now c.loop-start.start c.index-pairs-start.result
      c.loop-start-test.true c.loop-start.invariant.within c.index-pairs-start.is
      c.loop-start.invariant.same (c.key.ensures ∙ ap Some (c.equals.ensures.0 c.if-equals.true));
}

pub returns-else-equals : goal.returns-else-equals
returns-else-equals c =
    run_ends c.args.wanted.now c.args.pairs.now c.loop-start.start c.index-pairs-start.result
    c.loop-start-test.true c.loop-start.invariant.within c.index-pairs-start.is
    c.loop-start.invariant.same
    (λ e. let keyed = c.key.ensures in
    let same : c.key.result.now ≡ c.args.wanted.now = cc in
    let wrong = c.equals.ensures.1 same in let other = c.if-equals.false in cc)
