use Rattle.std.proofs.Common.{refl, arith}
use Rattle.std.proofs.lemmas.List.{take_rest}
use Rattle.flume_value.proofs.BagLemmas.{bag_of-settled}
use Rattle.bag_steps.specs.Counts.{counted}
use Rattle.bag_steps.proofs.CountSteps.{count_begins, count_more, count_within, no_traps}
use Rattle.bag_steps.proofs.GroupSteps.{sorted}
use Rattle.bag_steps.proofs.RowOrder.{counted-IsSorted}
use Rattle.bag_steps.proofs.counts.count.Goals as goal

pub loop-at-preserved : goal.loop-at-preserved
loop-at-preserved c = record {
  within =
      count_within c.args.bag.now _ c.loop-at.at c.run_of_value-run.result
      c.index-bag-at.result c.requires c.loop-at-test.true
      (take_rest c.args.bag.now c.loop-at.at) c.index-bag-at.is c.run_of_value-run.ensures;
  all =
      count_more c.args.bag.now _ c.loop-at.at c.run_of_value-run.result
      c.index-bag-at.result c.requires c.loop-at-test.true
      (take_rest c.args.bag.now c.loop-at.at) c.index-bag-at.is c.run_of_value-run.ensures
      c.loop-at.pairs.items c.push.new.self.items c.in_ok-pair_of_count.field-0 (omega arith)
      c.in_ok-pair_of_count.ensures c.loop-at.invariant.all c.in_ok-push.ensures.items;
}

pub loop-at-smaller : goal.loop-at-smaller
loop-at-smaller c =
    let some = count_begins c.args.bag.now _ c.loop-at.at c.run_of_value-run.result
    c.index-bag-at.result c.requires c.loop-at-test.true
    (take_rest c.args.bag.now c.loop-at.at) c.index-bag-at.is c.run_of_value-run.ensures in
    omega arith

pub returns-in_err-pair_of_count-clause-through : goal.returns-in_err-pair_of_count-clause-through
returns-in_err-pair_of_count-clause-through c = no_traps c.args.bag.now (omega arith)

pub returns-in_err-push-clause-through : goal.returns-in_err-push-clause-through
returns-in_err-push-clause-through c = no_traps c.args.bag.now (omega arith)

pub returns-clause-through : goal.returns-clause-through
returns-clause-through c = no_traps c.args.bag.now (omega arith)

pub returns-clause-ascending : goal.returns-clause-ascending
returns-clause-ascending c =
    sorted counted _ _ _ c.loop-at.invariant (omega arith) refl (counted-IsSorted c.args.bag.now)

pub returns-clause-bag : goal.returns-clause-bag
returns-clause-bag c = bag_of-settled c.loop-at.pairs.items (returns-clause-ascending c)
