use Rattle.std.proofs.Common.{◌≡◌, [], ◌∷◌, replicate}
use Rattle.dofn_calls.proofs.lists.Lists.new.Given as goal

abbrev pub invariant-loop-output : goal.invariant-loop-output
invariant-loop-output l = [] ∷ l.others.items ≡ replicate l._output []
