use Rattle.std.proofs.Common.{◌≡◌, ℕ, ◌≤◌, List, length, drop}
use Rattle.script_program.specs.Needed.{read_from}
use Rattle.script_program.specs.inner.Flags.{AreFlags, held_made}
use Rattle.script_program.proofs.needed.mark_needed.Given as goal

abbrev pub invariant-loop-number : goal.invariant-loop-number
invariant-loop-number l = record {
  many : length l.flags.items ≡ length l.fn.flags.items;
  within : l.number ≤ length l.nodes;
  marked : (numbers : List ℕ) → AreFlags numbers l.fn.flags.items
      → AreFlags (read_from numbers l.number (held_made (drop l.number l.nodes)))
      l.flags.items;
}

abbrev pub decreases-loop-number : goal.decreases-loop-number
decreases-loop-number l = l.number
