use Rattle.std.proofs.Common.{◌∙◌, ◌∷◌, [], ap, sym}
use Rattle.std.specs.Prelude.{Ok}
use Rattle.exec_graph.specs.Forests.{Branch}
use Rattle.forest_steps.specs.Running.{with_values_put}
use Rattle.forest_steps.proofs.KeptOnce.{once_run}
use Rattle.forest_steps.proofs.once.keep_once.Goals as goal

pub returns : goal.returns
returns c w sizes =
    let number = sym (ap (λ (b : Branch). b.first.out) c.step.view_is) in
    once_run w sizes c.args.at c.args.step.now c.args.x c.args.outputs.now c.requires
    ∙ (λ i. Ok (with_values_put (number i) (sym c.of_int.ensures i ∷ []) (sym c.count.ensures i)))
    ∙ ap Ok (sym c.in_ok-keep_couple.ensures)
