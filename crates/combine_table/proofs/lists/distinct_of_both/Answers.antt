use Rattle.combine_table.proofs.Repeats.{drawn, drawn_once, drawn_fewer}
use Rattle.combine_table.proofs.lists.distinct_of_both.Goals as goal

pub draws-smaller : goal.draws-smaller
draws-smaller c = drawn_fewer _ _ _ _ c.in-Some.value c.in-Some.ensures.greatest

pub draws-preserved : goal.draws-preserved
draws-preserved c = record {
  left = c.pop_greatest.ensures.left;
  right = c.pop_greatest.ensures.right;
  all = drawn _ _ _ _ _ c.in-Some.value c.draws.invariant.all c.in-Some.ensures.greatest
      c.in_ok-push_new-in-Some.ensures;
  once = drawn_once _ _ c.in-Some.value c.draws.invariant.once c.in_ok-push_new-in-Some.ensures;
}
