use Rattle.std.proofs.Common.{◌≡◌, ◌<◌, [], length, map, drop}
use Rattle.std.specs.List.{All}
use Rattle.script_rules.specs.Operations.{collections_behind}
use Rattle.script_state.specs.Held.{operand_in}
use Rattle.operation_check.proofs.flatten.collections.Given as goal

abbrev pub invariant-loop-name : goal.invariant-loop-name
invariant-loop-name l = record {
  gives :
      collections_behind l.line (map (operand_in l.state.types) l.sources)
      (drop l.name-index l.names) l.state.state
      ≡ collections_behind l.line [] l.names l.state.state;
  within : All (λ source. source.ty < length l.state.types) l.sources;
}
