use Rattle.std.proofs.Common.{◌∙◌, sym, ap, List, map}
use Rattle.exec_graph.specs.declared.graph.Place.{Place}
use Rattle.fusion_blocks.specs.Estimates.{act_estimate, capped, estimate, sum_of}
use Rattle.fusion_blocks.specs.inner.Tables.{known}
use Rattle.fusion_blocks.proofs.estimates.estimate_of.Goals as goal

pub returns-in-Flatten : goal.returns-in-Flatten
returns-in-Flatten c =
    c.sum_of.ensures
    ∙ ap (λ (cs : List Place). capped
    (sum_of (map (λ (d : Place). known c.args.estimates.now d.node) cs))) c.as_slice.ensures
    ∙ ap (estimate c.args.scales.now (known c.args.estimates.now)) (sym c.in-Flatten.is)

pub returns-in-Barrier : goal.returns-in-Barrier
returns-in-Barrier c =
    c.act_estimate.ensures
    ∙ ap (λ (cs : List Place). act_estimate c.args.scales.now c.in-Barrier.act
    (map (λ (d : Place). known c.args.estimates.now d.node) cs)) c.as_slice-in-Barrier.ensures
    ∙ ap (estimate c.args.scales.now (known c.args.estimates.now)) (sym c.in-Barrier.is)
