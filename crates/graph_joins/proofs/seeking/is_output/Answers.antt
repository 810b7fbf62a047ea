use Rattle.std.proofs.Common.{ℕ, List, sym, ap, ◌∙◌}
use Rattle.graph_walks.proofs.NumberLemmas.{outs_grown}
use Rattle.graph_joins.specs.inner.Seeks.{is_name, seek}
use Rattle.graph_joins.proofs.seeking.is_output.Goals as goal

pub returns-in-Found : goal.returns-in-Found
returns-in-Found c =
    ap (is_name c.args.name) (sym c.in-Found.is ∙ c.seek_steps.ensures
    ∙ ap (λ (ns : List ℕ). seek ns c.args.number) (outs_grown c.args.steps.now))

pub returns-in-Behind : goal.returns-in-Behind
returns-in-Behind c =
    ap (is_name c.args.name) (sym c.in-Behind.is ∙ c.seek_steps.ensures
    ∙ ap (λ (ns : List ℕ). seek ns c.args.number) (outs_grown c.args.steps.now))
