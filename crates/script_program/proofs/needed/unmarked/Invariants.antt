use Rattle.std.proofs.Common.{◌≡◌, false, replicate}
use Rattle.script_program.proofs.needed.unmarked.Given as goal

abbrev pub invariant-loop-number : goal.invariant-loop-number
invariant-loop-number l = l.flags.items ≡ replicate l._number false
