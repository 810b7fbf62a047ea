use Rattle.std.proofs.Common.{rules}
use Rattle.outside.proofs.FileLemmas.{say_step}
use Rattle.outside.proofs.says.say.Goals as goal

pub loop-done-preserved : goal.loop-done-preserved
loop-done-preserved g c = record {
  within = search rules;
  text = say_step _ _ _ _ _ _ c.loop-done.invariant.text c.in_ok-done.ensures.ok;
  faults = search rules;
}
