use Rattle.std.proofs.Common.{◌≡◌, ◌+◌, length}
use Rattle.std.specs.Vec.Iter.{into_iter_items}
use Rattle.script_rules.specs.Rules.{defined}
use Rattle.script_check.proofs.checks.define.Given as goal

abbrev pub invariant-loop-statement : goal.invariant-loop-statement
invariant-loop-statement l =
    let left = into_iter_items l.statement-iterator in
    record {
      defined :
          defined left l.state.state ≡ defined l.fn.statements l.fn.state.state;
      count : l.state.state.statements + length left ≡ length l.fn.statements;
    }
