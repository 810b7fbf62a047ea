use Rattle.std.proofs.Common.{◌≡◌, map}
use Rattle.memory_outside.specs.inner.Entries.{as_entry}
use Rattle.memory_outside.proofs.cache.as_files.Given as goal

abbrev pub invariant-loop-entry : goal.invariant-loop-entry
invariant-loop-entry l = map as_entry l.files.items ≡ l.yielded
