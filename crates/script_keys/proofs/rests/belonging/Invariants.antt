use Rattle.std.proofs.Common.{◌≡◌, ◌≤◌, length, drop}
use Rattle.script_keys.specs.Rests.{flags_from, is_defined, rested_on}
use Rattle.script_keys.proofs.rests.belonging.Given as goal

-- all is told of the statements from this one on
abbrev pub invariant-loop-number : goal.invariant-loop-number
invariant-loop-number l = record {
  within : l.number ≤ length l.outlines;
  many : length l.flags.items ≡ length l.outlines;
  names : l.names ≡ rested_on l.name (drop l.number l.outlines);
  found : l.found ≡ is_defined l.name (drop l.number l.outlines);
  flags : drop l.number l.flags.items ≡ flags_from l.name (drop l.number l.outlines);
}

abbrev pub decreases-loop-number : goal.decreases-loop-number
decreases-loop-number l = l.number
