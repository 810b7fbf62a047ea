use Rattle.std.proofs.Common.{◌≡◌}
use Rattle.std.specs.Vec.Iter.{into_iter_items}
use Rattle.type_table.specs.Table.{Extends}
use Rattle.script_rules.specs.Rules.{all_named}
use Rattle.let_check.proofs.repeats.add_lets.Given as goal

abbrev pub invariant-loop-it : goal.invariant-loop-it
invariant-loop-it l =
    let left = into_iter_items l.it-iterator in
    record {
      gives : all_named left l.state.state ≡ all_named l.fn.lets l.fn.state.state;
      extends : Extends l.fn.state.types l.state.types;
    }
