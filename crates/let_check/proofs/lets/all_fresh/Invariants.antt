use Rattle.std.proofs.Common.{◌≡◌, ◌++◌, take, drop}
use Rattle.std.specs.Map.{keys_of}
use Rattle.script_rules.specs.Rules.{all_fresh}
use Rattle.let_check.proofs.lets.all_fresh.Given as goal

abbrev pub invariant-loop-number : goal.invariant-loop-number
invariant-loop-number l =
    all_fresh l.line (keys_of l.state.state.names ++ take l.number l.names)
    (drop l.number l.names)
    ≡ all_fresh l.line (keys_of l.state.state.names) l.names
