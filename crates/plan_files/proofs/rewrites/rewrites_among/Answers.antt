use Rattle.std.proofs.Common.{sym, ◌∙◌, arith}
use Rattle.plan_files.specs.Forms.{rewrite_of}
use Rattle.plan_files.proofs.Lists.{read_all, read_more, read_none}
use Rattle.plan_files.proofs.rewrites.rewrites_among.Goals as goal

pub loop-value-preserved : goal.loop-value-preserved
loop-value-preserved c =
    read_more rewrite_of c.loop-value.rewrites _ c.in-Some.rewrite c.args.values.now
    c.loop-value.value-index c.value-item.result (omega arith) c.value-item.is
    (sym c.in_ok-rewrite.ensures ∙ c.in-Some.is) c.in_ok-push-in-Some.ensures.ok
    c.loop-value.invariant

pub returns-in-None : goal.returns-in-None
returns-in-None c =
    read_none rewrite_of c.loop-value.rewrites c.args.values.now c.loop-value.value-index
    c.value-item.result (omega arith) c.value-item.is (sym c.in_ok-rewrite.ensures ∙ c.in-None.is)
    c.loop-value.invariant

pub returns : goal.returns
returns c =
    read_all rewrite_of c.loop-value.rewrites c.args.values.now c.loop-value.value-index
    (omega arith) c.loop-value.invariant
