use Rattle.std.proofs.Common.{◌∙◌, refl, sym}
use Rattle.stage_results.proofs.SideBySide.{none_joined}
use Rattle.stage_results.proofs.joining.join_each.Goals as goal

pub loop-list-init : goal.loop-list-init
loop-list-init c = record {
  whole =
      c.into_iter-list-iterator.ensures.into_iter_gives.0 ∙ c.into_vec-list-items.ensures;
  at = refl;
  lists = sym (none_joined c.args.lists.now.items);
}
