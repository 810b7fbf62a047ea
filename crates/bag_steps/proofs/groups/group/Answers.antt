use Rattle.std.proofs.Common.{refl, arith}
use Rattle.std.proofs.lemmas.List.{take_rest}
use Rattle.flume_value.proofs.BagLemmas.{bag_of-settled}
use Rattle.keyed_steps.specs.of_bag_groups.Groups.{grouped}
use Rattle.keyed_steps.proofs.of_bag_groups.Grouping.{grouped-IsSorted}
use Rattle.bag_steps.proofs.GroupSteps.{group_more, run_within, sorted}
use Rattle.bag_steps.proofs.groups.group.Goals as goal

pub loop-at-preserved : goal.loop-at-preserved
loop-at-preserved c = record {
  within =
      run_within c.args.pairs.now _ c.loop-at.at c.run_of_key-run.result c.key-first.result.now
      c.index-rest-0.result c.requires.pairs c.requires.ascending c.loop-at-test.true
      (take_rest c.args.pairs.now c.loop-at.at) c.index-rest-0.is c.key-first.ensures
      c.run_of_key-run.ensures;
  all =
      group_more c.args.pairs.now _ c.loop-at.at c.run_of_key-run.result c.key-first.result.now
      c.index-rest-0.result c.requires.pairs c.requires.ascending c.loop-at-test.true
      (take_rest c.args.pairs.now c.loop-at.at) c.index-rest-0.is c.key-first.ensures
      c.run_of_key-run.ensures _ c.loop-at.groups.items c.push.new.self.items
      c.in_ok-group_of_run.field-0 refl c.in_ok-group_of_run.ensures c.loop-at.invariant.all
      c.in_ok-push.ensures.items;
}

pub returns-clause-ascending : goal.returns-clause-ascending
returns-clause-ascending c =
    sorted grouped _ _ _ c.loop-at.invariant (omega arith) refl (grouped-IsSorted c.args.pairs.now)

pub returns-clause-bag : goal.returns-clause-bag
returns-clause-bag c = bag_of-settled c.loop-at.groups.items (returns-clause-ascending c)
