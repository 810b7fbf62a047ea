use Rattle.std.proofs.Common.{List, ℕ, ◌≡◌, ◌-◌, suc, drop, sym, subst, arith, ◌∙◌}
use Rattle.script_program.specs.declared.made.Node.{Node as HeldNode}
use Rattle.script_program.specs.Needed.{read_from}
use Rattle.script_program.specs.inner.Flags.{AreFlags, held_made}
use Rattle.script_program.proofs.FlagLemmas.{read-next}
use Rattle.script_program.proofs.needed.mark_needed.Goals as goal

pub loop-number-preserved : goal.loop-number-preserved
loop-number-preserved c = record {
  many = c.mark_reads.ensures.many ∙ c.loop-number.invariant.many;
  within = omega (arith, c.loop-number.invariant.within);
  marked = λ numbers are.
      let number = c.loop-number.number in let entries = c.args.nodes.now in
      let next : suc (number - 1) ≡ number = omega (arith, c.loop-number-test.true) in
      subst (λ ns. AreFlags ns c.mark_reads.new.flags.items)
      (sym
      (read-next (λ (entry : List ℕ × HeldNode). entry.1.made) numbers entries (number - 1) number
      c.in-Some.field-0.now next (omega (arith, next, c.loop-number.invariant.within))
      c.in-Some.ensures.lookup.1))
      (c.mark_reads.ensures.marked (read_from numbers number (held_made (drop number entries)))
      (c.loop-number.invariant.marked numbers are));
}
