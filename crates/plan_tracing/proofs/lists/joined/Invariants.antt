use Rattle.std.proofs.Common.{◌≡◌, ◌++◌, take}
use Rattle.plan_tracing.proofs.lists.joined.Given as goal

abbrev pub invariant-loop-rewrite : goal.invariant-loop-rewrite
invariant-loop-rewrite l = l.all ≡ l.fn.first ++ take l.rewrite-index l.more
