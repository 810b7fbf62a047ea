use Rattle.std.proofs.Common.{◌≡◌, [], length, take}
use Rattle.script_program.specs.inner.Flags.{AreFlags, held_reads}
use Rattle.script_program.proofs.needed.mark_outputs.Given as goal

abbrev pub invariant-loop-number : goal.invariant-loop-number
invariant-loop-number l = record {
  many : length l.flags.items ≡ length l.fn.flags.items;
  marked : AreFlags [] l.fn.flags.items
      → AreFlags (held_reads (take l.number l.outputs.entries)) l.flags.items;
}
