use Rattle.std.proofs.Common.{◌++◌, arith, subst, ◌∙◌}
use Rattle.std.proofs.lemmas.List.{take_all}
use Rattle.script_program.specs.inner.Flags.{AreFlags}
use Rattle.script_program.proofs.FlagLemmas.{all-step}
use Rattle.script_program.proofs.needed.mark_all.Goals as goal

pub loop-source-preserved : goal.loop-source-preserved
loop-source-preserved c = record {
  many = c.mark.ensures.many ∙ c.loop-source.invariant.many;
  marked = λ numbers are.
      all-step c.mark.new.flags.items c.args.sources.now numbers c.loop-source.source-index _
      c.loop-source-test.true
      (c.mark.ensures.marked _ (c.loop-source.invariant.marked numbers are));
}

pub returns-clause-marked : goal.returns-clause-marked
returns-clause-marked c = λ numbers are.
    subst (λ xs. AreFlags (xs ++ numbers) c.loop-source.flags.items)
    (take_all c.loop-source.source-index c.args.sources.now
    (omega (arith, c.loop-source-test.false)))
    (c.loop-source.invariant.marked numbers are)
