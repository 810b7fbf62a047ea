use Rattle.std.proofs.Common.{rules, eqb, ap, sym, ◌∙◌}
use Rattle.exec_graph.specs.Forests.{Branch}
use Rattle.exec_graph.proofs.Rooted.{no_more}
use Rattle.exec_graph.proofs.combiners.only_comb.Goals as goal

pub returns-then-not-is_empty : goal.returns-then-not-is_empty
returns-then-not-is_empty c =
    no_more c.args.step.now c.step.inside.more.items c.is_empty.result
    (sym (ap (λ (b : Branch). b.more) c.step.view_is)) (c.is_empty.ensures ∙ ap
    (λ n. eqb n 0) c.step.inside.more.ok.0)
    (let q = c.if-not-is_empty.true in search rules)
