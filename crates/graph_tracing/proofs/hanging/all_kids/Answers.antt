use Rattle.std.proofs.Common.{ℕ, ◌+◌, List, drop, subst, arith}
use Rattle.std.proofs.lemmas.List.{drop_all, drop_more}
use Rattle.graph_tracing.specs.inner.Named.{trace_of}
use Rattle.graph_tracing.specs.inner.Numbers.{number_in}
use Rattle.graph_tracing.specs.inner.Waiting.{IsLeaving}
use Rattle.graph_tracing.proofs.hanging.all_kids.Goals as goal

pub loop-number-preserved : goal.loop-number-preserved
loop-number-preserved c = record {
  session = c.in_ok-kids.ensures.session;
  keeps = c.in_ok-kids.ensures.keeps;
  traced = λ g t. c.in_ok-kids.ensures.traced g (c.loop-number.invariant.traced g t);
  whole = λ m f all u. c.in_ok-kids.ensures.whole m f
      (drop (c.loop-number.number-index + 1) c.args.numbers.now) all
      (subst (λ (xs : List ℕ). IsLeaving (number_in c.loop-number.kids.numbers) f
      (trace_of c.loop-number.kids.trace) m xs all)
      (drop_more c.args.numbers.now c.loop-number.number-index 0 c.loop-number-test.true)
      (c.loop-number.invariant.whole m f all u));
}

pub returns-clause-whole : goal.returns-clause-whole
returns-clause-whole c = λ m f all u.
    subst (λ (xs : List ℕ). IsLeaving (number_in c.loop-number.kids.numbers) f
    (trace_of c.loop-number.kids.trace) m xs all)
    (drop_all c.loop-number.number-index c.args.numbers.now
    (omega (arith, c.loop-number-test.false))) (c.loop-number.invariant.whole m f all u)
