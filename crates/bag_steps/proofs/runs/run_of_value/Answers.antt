use Rattle.std.proofs.Common.{arith}
use Rattle.bag_steps.proofs.Loops.{run_ends, run_more, run_whole}
use Rattle.bag_steps.proofs.runs.run_of_value.Goals as goal

pub loop-n-preserved : goal.loop-n-preserved
loop-n-preserved c = record {
  within = omega arith;
  same = run_more (λ v. v) c.args.wanted.now c.args.values.now c.loop-n.n
      c.index-values-n.result c.loop-n-test.true c.index-values-n.is
      (c.equals.ensures.0 c.if-equals.true) c.loop-n.invariant.same;
}

pub returns-else-equals : goal.returns-else-equals
returns-else-equals c =
    run_ends (λ v. v) c.args.wanted.now c.args.values.now c.loop-n.n c.index-values-n.result
    c.loop-n-test.true c.index-values-n.is
    (λ e. let wrong = c.equals.ensures.1 e in let other = c.if-equals.false in cc)
    c.loop-n.invariant.same

pub returns-after-loop-n : goal.returns-after-loop-n
returns-after-loop-n c =
    run_whole (λ v. v) c.args.wanted.now c.args.values.now c.loop-n.n
    (omega arith) c.loop-n.invariant.within c.loop-n.invariant.same
