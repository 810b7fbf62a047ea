use Rattle.std.proofs.Common.{◌≡◌, ◌++◌, take}
use Rattle.stage_exec.proofs.flatten.append_copies.Given as goal

abbrev pub invariant-loop-value : goal.invariant-loop-value
invariant-loop-value l = l.all.items ≡ l.fn.all.items ++ take l.value-index l.values
