use Rattle.std.proofs.Common.{◌≡◌, Some, ◌∙◌, ap, arith}
use Rattle.keyed_steps.specs.of_bag_groups.Pairs.{key_of}
use Rattle.bag_steps.proofs.Loops.{run_ends, run_more, run_whole}
use Rattle.bag_steps.proofs.runs.run_of_key.Goals as goal

pub loop-n-preserved : goal.loop-n-preserved
loop-n-preserved c = record {
  within = omega arith;
  same = run_more key_of (Some c.args.wanted.now) c.args.pairs.now c.loop-n.n
      c.index-pairs-n.result c.loop-n-test.true c.index-pairs-n.is
      (c.key.ensures ∙ ap Some (c.equals.ensures.0 c.if-equals.true)) c.loop-n.invariant.same;
}

pub returns-else-equals : goal.returns-else-equals
returns-else-equals c =
    run_ends key_of (Some c.args.wanted.now) c.args.pairs.now c.loop-n.n c.index-pairs-n.result
    c.loop-n-test.true c.index-pairs-n.is
    (λ e. let keyed = c.key.ensures in
    let same : c.key.result.now ≡ c.args.wanted.now = cc in
    let wrong = c.equals.ensures.1 same in let other = c.if-equals.false in cc)
    c.loop-n.invariant.same

pub returns-after-loop-n : goal.returns-after-loop-n
returns-after-loop-n c =
    run_whole key_of (Some c.args.wanted.now) c.args.pairs.now c.loop-n.n
    (omega arith) c.loop-n.invariant.within c.loop-n.invariant.same
