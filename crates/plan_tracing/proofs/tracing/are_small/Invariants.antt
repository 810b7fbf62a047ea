use Rattle.std.proofs.Common.{take}
use Rattle.std.specs.List.{AllByRecursion}
use Rattle.plan_file_law.specs.of_plan_files.Written.{HasSmallNumbers}
use Rattle.plan_tracing.proofs.tracing.are_small.Given as goal

abbrev pub invariant-loop-rewrite : goal.invariant-loop-rewrite
invariant-loop-rewrite l = AllByRecursion HasSmallNumbers (take l.rewrite-index l.rewrites)
