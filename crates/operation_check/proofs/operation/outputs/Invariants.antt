use Rattle.std.proofs.Common.{◌≡◌, ◌<◌, ◌++◌, ℕ, List, map, drop}
use Rattle.std.specs.List.{All}
use Rattle.script_program.specs.of_expression_types.Held.{AreTypes}
use Rattle.flume_types.specs.declared.types.Ty.{Ty}
use Rattle.script_rules.specs.Operations.{outputs_from}
use Rattle.script_program.specs.Program.{making_in}
use Rattle.type_table.specs.Table.{type_at}
use Rattle.operation_check.proofs.operation.outputs.Given as goal

abbrev pub invariant-loop-output : goal.invariant-loop-output
invariant-loop-output l = record {
  makings : (types : List Ty)
      → map (making_in types) l.makings
      ++ outputs_from l.source l.function l.output (map (type_at types) (drop l.output l.gives))
      ≡ outputs_from l.source l.function 0 (map (type_at types) l.gives);
  within : (n : ℕ) → AreTypes n l.gives → All (λ making. making.ty < n) l.makings;
}
