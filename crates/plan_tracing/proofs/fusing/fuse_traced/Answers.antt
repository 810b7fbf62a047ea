use Rattle.std.proofs.Common.{sym, subst}
use Rattle.std.specs.List.{AllByRecursion}
use Rattle.exec_graph.specs.Wellformed.{IsGraphOk}
use Rattle.exec_graph.specs.declared.graph.Blocked.{Blocked}
use Rattle.fusion_blocks.specs.Blocks.{CanMark}
use Rattle.plan_tracing.specs.Refined.{IsFusedBy}
use Rattle.plan_tracing.proofs.fusing.fuse_traced.Goals as goal

pub fusions_of-requires : goal.fusions_of-requires
fusions_of-requires c =
    record { ok = subst IsGraphOk (sym c.in_ok-copy.ensures) c.requires.fusible.ok.ok }

pub with_marks-requires : goal.with_marks-requires
with_marks-requires c =
    subst (λ (b : Blocked). AllByRecursion (CanMark b.graph) b.marks)
    (sym c.in_ok-fused.ensures.fused) c.requires.marks

pub returns : goal.returns
returns c =
    subst (λ (b : Blocked). IsFusedBy c.args.blocked.graph b c.in_ok-refined.refined.rewrites
    c.in_ok-refined.refined.blocked) c.in_ok-fused.ensures.fused
    (c.in_ok-refined.ensures c.args.blocked
    (c.in_ok-fusions.ensures c.args.blocked (sym c.in_ok-copy.ensures) (sym c.as_slice.ensures)
    c.requires.fusible)
    c.in_ok-fused.ensures.fused)
