use Rattle.std.proofs.Common.{◌≡◌, ℕ, ◌<◌, false, length, get_or}
use Rattle.script_program.proofs.needed.unmark_all.Given as goal

abbrev pub invariant-loop-number : goal.invariant-loop-number
invariant-loop-number l = record {
  many : length l.flags.items ≡ length l.fn.flags.items;
  unset : (n : ℕ) → n < l.number → get_or l.flags.items n false ≡ false;
}
