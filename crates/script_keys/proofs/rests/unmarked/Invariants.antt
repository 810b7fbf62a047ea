use Rattle.std.proofs.Common.{◌≡◌, length}
use Rattle.script_keys.proofs.rests.unmarked.Given as goal

abbrev pub invariant-loop-number : goal.invariant-loop-number
invariant-loop-number l = length l.flags.items ≡ l._number
