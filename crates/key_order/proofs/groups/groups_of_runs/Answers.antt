use Rattle.std.proofs.Common.{length-drop, refl, arith}
use Rattle.std.proofs.lemmas.List.{take_rest}
use Rattle.bag_groups.specs.Groups.{grouped}
use Rattle.key_order.proofs.NumberRuns.{holds_left, one_run_more, pairs_held, rises_left}
use Rattle.key_order.proofs.Pairing.{told}
use Rattle.key_order.proofs.groups.groups_of_runs.Goals as goal

pub run_end-end-requires-clause-rise : goal.run_end-end-requires-clause-rise
run_end-end-requires-clause-rise c =
    rises_left c.args.numbered.now _ c.loop-at.at c.requires.numbers
    (take_rest c.args.numbered.now c.loop-at.at) c.requires.rise

pub add_groups-requires-clause-pairs : goal.add_groups-requires-clause-pairs
add_groups-requires-clause-pairs c =
    pairs_held _ _ c.run_end-end.result (holds_left c.args.numbered.now _ c.loop-at.at
    c.requires.numbers (take_rest c.args.numbered.now c.loop-at.at)) refl

pub loop-at-preserved : goal.loop-at-preserved
loop-at-preserved c = record {
  within =
      omega (
        arith,
        c.run_end-end.ensures.within,
        c.loop-at.invariant.within,
        length-drop c.loop-at.at c.args.numbered.now,
      );
  all =
      one_run_more c.args.numbered.now _ c.loop-at.at c.requires.numbers
      (take_rest c.args.numbered.now c.loop-at.at) c.run_end-end.result
      (grouped (told c.args.numbered.now)) c.loop-at.groups.items c.add_groups.new.groups.items _
      c.run_end-end.ensures.first refl c.loop-at.invariant.all c.in_ok-add_groups.ensures;
}
