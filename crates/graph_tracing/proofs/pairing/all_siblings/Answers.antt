use Rattle.std.proofs.Common.{ℕ, ◌+◌, true, List, drop, subst, arith}
use Rattle.std.proofs.lemmas.List.{drop_all, drop_more}
use Rattle.graph_tracing.specs.inner.Named.{trace_of}
use Rattle.graph_tracing.specs.inner.Waiting.{IsUnderway}
use Rattle.graph_tracing.proofs.pairing.all_siblings.Goals as goal

pub loop-number-preserved : goal.loop-number-preserved
loop-number-preserved c = record {
  session = c.in_ok-trace.ensures.session;
  firsts = c.in_ok-trace.ensures.firsts;
  traced = λ g t. c.in_ok-trace.ensures.traced g (c.loop-number.invariant.traced g t);
  whole = λ m f all apart u. c.in_ok-trace.ensures.whole m f
      (drop (c.loop-number.number-index + 1) c.args.numbers.now) all apart
      (subst (λ (xs : List ℕ). IsUnderway true (λ j. j) f (trace_of c.loop-number.trace) m xs all)
      (drop_more c.args.numbers.now c.loop-number.number-index 0 c.loop-number-test.true)
      (c.loop-number.invariant.whole m f all apart u));
}

pub returns-clause-whole : goal.returns-clause-whole
returns-clause-whole c = λ m f all apart u.
    subst (λ (xs : List ℕ). IsUnderway true (λ j. j) f
    (trace_of c.loop-number.trace) m xs all)
    (drop_all c.loop-number.number-index c.args.numbers.now
    (omega (arith, c.loop-number-test.false))) (c.loop-number.invariant.whole m f all apart u)
