use Rattle.std.proofs.Common.{◌+◌, sym, ap, ◌∙◌, slice_index, add-zero}
use Rattle.std.proofs.lemmas.Slice.Zip.{either_empty_from_Zip}
use Rattle.task_lists.specs.Runs.{kept_count}
use Rattle.step_counts.proofs.Adding.{none_left}
use Rattle.step_counts.proofs.sizes.add_all.Goals as goal

pub returns-clause-grown : goal.returns-clause-grown
returns-clause-grown c = record {
  count = c.loop-owner.invariant.count;
  sizes = λ i below.
      let size = slice_index c.loop-owner.sizes i in
      let empty = either_empty_from_Zip c.loop-owner.owner-iterator c.next.new.self _
      c.in-None.is c.next.ensures.steps in
      let none = none_left i _ _ empty in
      sym (c.loop-owner.invariant.kept i below)
      ∙ ap kept_count (sym (ap (λ n. size + n) none ∙ add-zero size))
      ∙ c.loop-owner.invariant.left i below;
}
