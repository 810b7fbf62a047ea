use Rattle.std.proofs.Common.{◌≡◌, map, drop}
use Rattle.script_program.specs.Program.{making_in}
use Rattle.script_rules.specs.Rules.{all_shallow}
use Rattle.let_check.proofs.lets.all_fit.Given as goal

abbrev pub invariant-loop-making : goal.invariant-loop-making
invariant-loop-making l =
    all_shallow l.line (map (making_in l.types) (drop l.making-index l.makings))
    ≡ all_shallow l.line (map (making_in l.types) l.makings)
