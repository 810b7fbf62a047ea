use Rattle.std.proofs.Common.{ℕ, List, ap, sym, ◌∙◌}
use Rattle.std.specs.Option.{option_copied}
use Rattle.graph_walks.specs.Outs.{outs}
use Rattle.graph_joins.specs.inner.Seeks.{is_kth}
use Rattle.graph_joins.proofs.session.is_told.Goals as goal

pub returns-in-Some : goal.returns-in-Some
returns-in-Some c =
    c.is_listed.ensures
    ∙ ap (λ (ns : List ℕ). is_kth ns c.args.output c.args.name)
    (c.requires c.args.keeper c.in-Some.names.now
    (sym c.get.ensures.value ∙ ap option_copied c.in-Some.is))

pub returns-in-None : goal.returns-in-None
returns-in-None c =
    c.is_output.ensures
    ∙ ap (λ f. is_kth (outs f) c.args.output c.args.name) c.steps.ensures
