use Rattle.std.proofs.Common.{ℕ, List, ◌++◌, ap, ◌∙◌}
use Rattle.exec_plan.proofs.Spotted.{outs_spotted, spot_outs}
use Rattle.exec_plan.proofs.outs.outs_of.Goals as goal

pub loop-spot-init : goal.loop-spot-init
loop-spot-init c =
    ap (λ (ns : List ℕ). ns ++ spot_outs c.deref-spot-items.result.now) c.new-outs.ensures.items
    ∙ ap spot_outs (c.deref-spot-items.ensures.value ∙ c.in_ok-spots.ensures)
    ∙ outs_spotted c.args.roots.now
