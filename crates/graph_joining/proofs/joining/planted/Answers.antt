use Rattle.std.proofs.Common.{ℕ, ap, ap₂, ◌∙◌}
use Rattle.exec_graph.specs.Forests.{Forest, grown}
use Rattle.graph_laws.specs.Joining.{grafted}
use Rattle.graph_laws.specs.Kids.{even}
use Rattle.graph_joining.proofs.Steps.{even_differ}
use Rattle.graph_joining.proofs.joining.planted.Goals as goal

pub plant-requires : goal.plant-requires
plant-requires c =
    even_differ (grown c.halve.new.steps.items) (grown c.args.steps.items) c.in_ok-halve.ensures
    c.requires

pub returns : goal.returns
returns c =
    let near = grown c.halve.new.steps.items in
    let far = grown c.halve-2.new.steps.items in
    c.in_ok-plant.ensures
    ∙ ap (λ (k : ℕ). grafted k far near) c.in_ok-number.ensures
    ∙ ap₂ (λ (h f : Forest). grafted (even c.args.output) h f) c.in_ok-halve-2.ensures
    c.in_ok-halve.ensures
