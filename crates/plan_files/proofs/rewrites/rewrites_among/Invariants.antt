use Rattle.plan_files.specs.Forms.{rewrite_of}
use Rattle.plan_files.proofs.Lists.{IsRead}
use Rattle.plan_files.proofs.rewrites.rewrites_among.Given as goal

abbrev pub invariant-loop-value : goal.invariant-loop-value
invariant-loop-value l = IsRead rewrite_of l.rewrites l.value-index l.values
