use Rattle.std.proofs.Common.{◌≡◌, ◌≤◌, ◌-◌, ◌++◌}
use Rattle.std.specs.List.{range_with_len}
use Rattle.let_check.proofs.turns.seen.Given as goal

abbrev pub invariant-loop-number : goal.invariant-loop-number
invariant-loop-number l = record {
  from : l.start ≤ l.number;
  seen : l.seen.items ≡ l.entering ++ range_with_len l.start (l.number - l.start);
}
