use Rattle.std.proofs.Common.{List, ◌++◌, sym, ap, ◌∙◌, subst}
use Rattle.graph_rewrites.specs.declared.rewrite.Rewrite.{Rewrite}
use Rattle.plan_tracing.specs.Refined.{IsRefinedBy}
use Rattle.plan_tracing.proofs.Refined.{can_be_marked, fusible, refined_by}
use Rattle.plan_tracing.proofs.refining.refine_traced.Goals as goal

pub fuse_traced-requires-clause-fusible : goal.fuse_traced-requires-clause-fusible
fuse_traced-requires-clause-fusible c =
    fusible c.args.graph c.in_ok-sunk.sunk.graph c.in_ok-lifted.lifted.graph
    c.in_ok-blocked.blocked c.in_ok-blocked.ensures.well_formed c.in_ok-blocked.ensures.same
    c.in_ok-lifted.ensures.lifted c.in_ok-sunk.ensures.steps c.requires.unfused c.requires.narrow

pub fuse_traced-requires-clause-marks : goal.fuse_traced-requires-clause-marks
fuse_traced-requires-clause-marks c =
    can_be_marked c.args.scales.now c.in_ok-blocked.blocked
    (fusible c.args.graph c.in_ok-sunk.sunk.graph c.in_ok-lifted.lifted.graph
    c.in_ok-blocked.blocked c.in_ok-blocked.ensures.well_formed c.in_ok-blocked.ensures.same
    c.in_ok-lifted.ensures.lifted c.in_ok-sunk.ensures.steps c.requires.unfused
    c.requires.narrow) c.in_ok-blocked.ensures.blocked

pub returns : goal.returns
returns c =
    let is = c.in_ok-rewrites.ensures
    ∙ ap (λ (xs : List Rewrite). xs ++ c.as_slice-2.result.now) c.in_ok-before.ensures
    ∙ ap (λ (xs : List Rewrite). (c.in_ok-sunk.sunk.rewrites ++ xs) ++ c.as_slice-2.result.now)
    c.as_slice.ensures
    ∙ ap (λ (xs : List Rewrite). (c.in_ok-sunk.sunk.rewrites ++ c.in_ok-lifted.lifted.rewrites)
    ++ xs) c.as_slice-2.ensures in
    subst (λ (rs : List Rewrite). IsRefinedBy c.args.scales.now c.args.graph rs
    c.in_ok-fused.fused.blocked) (sym is)
    (refined_by c.args.scales.now c.args.graph c.in_ok-sunk.sunk.graph
    c.in_ok-lifted.lifted.graph c.in_ok-blocked.blocked c.in_ok-fused.fused.blocked
    c.in_ok-sunk.sunk.rewrites c.in_ok-lifted.lifted.rewrites c.in_ok-fused.fused.rewrites
    c.in_ok-sunk.ensures.sunk c.in_ok-lifted.ensures.lifted c.in_ok-blocked.ensures.same
    c.in_ok-blocked.ensures.blocked c.in_ok-sunk.ensures.sinking c.in_ok-lifted.ensures.traced
    c.in_ok-lifted.ensures.lifts c.in_ok-fused.ensures)
