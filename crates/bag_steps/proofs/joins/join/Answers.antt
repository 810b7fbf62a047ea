use Rattle.std.proofs.lemmas.List.{take_rest}
use Rattle.flume_value.proofs.BagLemmas.{bag_of-settled}
use Rattle.bag_steps.specs.Joins.{joined}
use Rattle.bag_steps.proofs.GroupSteps.{cut_of_rest, sorted_as}
use Rattle.bag_steps.proofs.JoinSteps.{join_done, join_more, join_within}
use Rattle.bag_steps.proofs.RowOrder.{joined-IsSorted}
use Rattle.bag_steps.proofs.joins.join.Goals as goal

pub loop-key-preserved : goal.loop-key-preserved
loop-key-preserved c = record {
  left =
      join_within c.args.left.now _ c.loop-key.i c.run_of_key-lefts.result
      c.requires.left_pairs c.requires.left_ascending c.loop-key.invariant.left
      (take_rest c.args.left.now c.loop-key.i) c.in-Some.key.now c.run_of_key-lefts.ensures;
  right =
      join_within c.args.right.now _ c.loop-key.j c.run_of_key-rights.result
      c.requires.right_pairs c.requires.right_ascending c.loop-key.invariant.right
      (take_rest c.args.right.now c.loop-key.j) c.in-Some.key.now c.run_of_key-rights.ensures;
  all =
      join_more c.args.left.now _ c.loop-key.i c.run_of_key-lefts.result
      c.requires.left_pairs c.requires.left_ascending c.loop-key.invariant.left
      (take_rest c.args.left.now c.loop-key.i)
      c.args.right.now _ c.loop-key.j c.run_of_key-rights.result
      c.requires.right_pairs c.requires.right_ascending c.loop-key.invariant.right
      (take_rest c.args.right.now c.loop-key.j) c.in-Some.key.now c.in-Some.ensures
      c.run_of_key-lefts.ensures c.run_of_key-rights.ensures _ _ c.loop-key.rows.items
      c.push.new.self.items c.in_ok-row.field-0
      (cut_of_rest c.args.left.now c.loop-key.i c.run_of_key-lefts.result)
      (cut_of_rest c.args.right.now c.loop-key.j c.run_of_key-rights.result)
      c.in_ok-row.ensures c.loop-key.invariant.all c.in_ok-push.ensures.items;
}

pub returns-clause-joined : goal.returns-clause-joined
returns-clause-joined c =
    join_done c.args.left.now c.args.right.now _ _ c.loop-key.rows.items c.loop-key.i c.loop-key.j
    c.requires.left_pairs c.requires.right_pairs (take_rest c.args.left.now c.loop-key.i)
    (take_rest c.args.right.now c.loop-key.j) c.in_default.ensures c.loop-key.invariant.all

pub returns-clause-ascending : goal.returns-clause-ascending
returns-clause-ascending c =
    sorted_as _ (joined c.args.left.now c.args.right.now) (returns-clause-joined c)
    (joined-IsSorted c.args.left.now c.args.right.now)

pub returns-clause-bag : goal.returns-clause-bag
returns-clause-bag c = bag_of-settled c.loop-key.rows.items (returns-clause-ascending c)
