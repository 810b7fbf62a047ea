use Rattle.std.proofs.Common.{List, ℕ, ◌∙◌}
use Rattle.script_program.specs.declared.made.Output.{Output}
use Rattle.script_program.proofs.FlagLemmas.{each-step}
use Rattle.script_program.proofs.needed.mark_outputs.Goals as goal

pub loop-number-preserved : goal.loop-number-preserved
loop-number-preserved c = record {
  many = c.mark.ensures.many ∙ c.loop-number.invariant.many;
  marked = λ none.
      each-step (λ (entry : List ℕ × Output). entry.1.reads) c.mark.new.flags.items
      c.args.outputs.now.entries c.loop-number.number
      (c.in-Some.field-0-0.now, c.in-Some.output.now) c.in-Some.ensures.entry
      (c.mark.ensures.marked _ (c.loop-number.invariant.marked none));
}
