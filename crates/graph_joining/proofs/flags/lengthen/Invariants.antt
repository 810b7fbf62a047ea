use Rattle.std.proofs.Common.{◌≡◌, ◌+◌, ◌-◌, ℕ, length}
use Rattle.graph_walks.specs.Outs.{flag}
use Rattle.graph_joining.proofs.flags.lengthen.Given as goal

abbrev pub invariant-loop-flags : goal.invariant-loop-flags
invariant-loop-flags l = (j : ℕ) → flag l.flags.items j ≡ flag l.initial.flags.items j

abbrev pub decreases-loop-flags : goal.decreases-loop-flags
decreases-loop-flags l = l.at + 1 - length l.flags.items
