use Rattle.std.proofs.Common.{arith}
use Rattle.key_order.proofs.NumberRuns.{ends_at, first_number, first_run, same_begin, same_more}
use Rattle.key_order.proofs.sorting.run_end.Goals as goal

pub loop-end-init : goal.loop-end-init
loop-end-init c = record {
  some = omega arith;
  within = omega (arith, c.requires.some);
  same = same_begin c.args.numbered.now c.index-numbered-0.result c.requires.some;
}

pub loop-end-preserved : goal.loop-end-preserved
loop-end-preserved c = record {
  some = omega arith;
  within = omega (arith, c.loop-end.invariant.within);
  same = same_more c.args.numbered.now c.loop-end.end
      (first_number c.args.numbered.now c.index-numbered-0.result) c.index-numbered-end.result
      c.loop-end-test.true c.loop-end.invariant.same c.if-numbered-end.true;
}

pub returns-else-numbered-end-clause-first : goal.returns-else-numbered-end-clause-first
returns-else-numbered-end-clause-first c =
    first_run c.args.numbered.now c.loop-end.end c.index-numbered-0.result c.requires.rise
    c.requires.some c.loop-end.invariant.same
    (ends_at c.args.numbered.now c.loop-end.end
    (first_number c.args.numbered.now c.index-numbered-0.result) c.index-numbered-end.result
    c.if-numbered-end.false)

pub returns-after-loop-end-clause-first : goal.returns-after-loop-end-clause-first
returns-after-loop-end-clause-first c =
    first_run c.args.numbered.now c.loop-end.end c.index-numbered-0.result c.requires.rise
    c.requires.some c.loop-end.invariant.same
    (λ l x e. omega (arith, l, c.loop-end-test.false))
