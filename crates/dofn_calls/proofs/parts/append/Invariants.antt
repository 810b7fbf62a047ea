use Rattle.std.proofs.Common.{◌≡◌, ◌++◌, take}
use Rattle.dofn_calls.proofs.parts.append.Given as goal

abbrev pub invariant-loop-value : goal.invariant-loop-value
invariant-loop-value l = l.all.items ≡ l.fn.all.items ++ take l.value-index l.members
