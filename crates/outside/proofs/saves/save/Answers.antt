use Rattle.std.proofs.Common.{rules}
use Rattle.outside.proofs.FileLemmas.{save_step}
use Rattle.outside.proofs.saves.save.Goals as goal

pub loop-done-preserved : goal.loop-done-preserved
loop-done-preserved g c = record {
  within = search rules;
  files = save_step _ _ _ _ _ _ _ _ c.loop-done.invariant.name c.loop-done.invariant.files
      c.in_ok-done.ensures.ok;
  begun = search rules;
  left = search rules;
  name = search rules;
  faults = search rules;
}
