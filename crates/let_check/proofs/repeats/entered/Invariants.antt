use Rattle.std.proofs.Common.{◌≡◌, ◌<◌, List, length, map, take}
use Rattle.std.specs.List.{All}
use Rattle.flume_types.specs.declared.types.Ty.{Ty}
use Rattle.script_state.specs.Held.{operand_in}
use Rattle.script_program.specs.Program.{making_in}
use Rattle.script_rules.specs.Rules.{entered}
use Rattle.let_check.proofs.repeats.entered.Given as goal

abbrev pub invariant-loop-source : goal.invariant-loop-source
invariant-loop-source l = record {
  made :
      (types : List Ty) → map (making_in types) l.makings
      ≡ map entered (map (operand_in types) (take l.source-index l.from));
  within :
      (types : List Ty) → All (λ source. source.ty < length types) l.from
      → All (λ making. making.ty < length types) l.makings;
}
