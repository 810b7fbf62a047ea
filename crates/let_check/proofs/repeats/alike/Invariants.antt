use Rattle.std.proofs.Common.{◌≡◌, drop, map}
use Rattle.script_state.specs.Held.{operand_in}
use Rattle.script_rules.specs.Rules.{alike}
use Rattle.let_check.proofs.repeats.alike.Given as goal

abbrev pub invariant-loop-place : goal.invariant-loop-place
invariant-loop-place l =
    alike (map (operand_in l.types) (drop l.place l.from))
    (map (operand_in l.types) (drop l.place l.given))
    ≡ alike (map (operand_in l.types) l.from) (map (operand_in l.types) l.given)
