use Rattle.std.proofs.Common.{take}
use Rattle.keyed_steps.proofs.Stepping.{ComeTo}
use Rattle.keyed_steps.proofs.steps.combine_each.Given as goal

abbrev pub invariant-loop-group : goal.invariant-loop-group
invariant-loop-group l = ComeTo l.fn.comb (take l.group-index l.groups) l.values
