use Rattle.std.proofs.Common.{sym, subst, ◌∙◌}
use Rattle.std.specs.List.{AllByRecursion}
use Rattle.exec_graph.specs.Forests.{Forest}
use Rattle.forest_steps.specs.Functions.{world_of}
use Rattle.forest_steps.specs.Safety.{Safe}
use Rattle.forest_run.proofs.Ending.{gone_course}
use Rattle.forest_run.proofs.parts.run_steps.Goals as goal

pub go_through-requires : goal.go_through-requires
go_through-requires g c =
    let w = world_of (g.F.Functions.called c.args.functions.now) in
    let takes = g.F.Functions.can_call c.args.functions.now in
    subst (λ (f : Forest). AllByRecursion (Safe w takes f) c.args.elements.now)
    (sym c.steps.ensures) c.requires.safe

pub returns : goal.returns
returns g c =
    let w = world_of (g.F.Functions.called c.args.functions.now) in
    let begun = c.in_ok-sizes in
    gone_course w c.args.roots.now c.steps.result.now c.deref.result.now begun.outputs
    c.steps.ensures c.requires.numbered begun.ensures.few
    (c.deref.ensures.value ∙ begun.ensures.sizes) begun.ensures.fresh c.args.elements.now
    c.go_through.result c.go_through.ensures
