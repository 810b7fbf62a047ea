use Rattle.std.proofs.Common.{◌∙◌, refl, sym}
use Rattle.stage_results.proofs.SideBySide.{none_joined}
use Rattle.stage_results.proofs.passed.join_passed.Goals as goal

pub loop-one-init : goal.loop-one-init
loop-one-init c = record {
  whole = c.into_iter-one-iterator.ensures.into_iter_gives.0 ∙ c.into_vec-one-items.ensures;
  at = refl;
  lists = sym (none_joined c.args.lists.now.items);
}
