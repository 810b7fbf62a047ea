use Rattle.std.proofs.Common.{◌≡◌, ℕ, List, ◌++◌, length, take}
use Rattle.script_program.specs.inner.Flags.{AreFlags}
use Rattle.script_program.proofs.needed.mark_all.Given as goal

abbrev pub invariant-loop-source : goal.invariant-loop-source
invariant-loop-source l = record {
  many : length l.flags.items ≡ length l.fn.flags.items;
  marked : (numbers : List ℕ) → AreFlags numbers l.fn.flags.items
      → AreFlags (take l.source-index l.sources ++ numbers) l.flags.items;
}
