use Rattle.std.proofs.Common.{◌≡◌, ◌≤◌, ◌∷◌, [], length, map, drop}
use Rattle.operation_check.specs.of_expression_types.Held.{AreTypes}
use Rattle.type_table.specs.Table.{type_at, Extends}
use Rattle.script_rules.specs.Rules.{types_behind}
use Rattle.script_check.proofs.signatures.types_of.Given as goal

abbrev pub invariant-loop-ty : goal.invariant-loop-ty
invariant-loop-ty l = record {
  gives :
      types_behind l.line (map (type_at l.state.types) l.ids) (drop l.ty-index l.more)
      l.fn.state.state.types
      ≡ types_behind l.line [] (l.first ∷ l.more) l.fn.state.state.types;
  within : AreTypes (length l.state.types) l.ids;
  some : 1 ≤ length l.ids;
  extends : Extends l.fn.state.types l.state.types;
  state : l.state.state ≡ l.fn.state.state;
}
