use Rattle.std.proofs.Common.{rules, ap, ◌∙◌}
use Rattle.std.specs.Prelude.{ltb}
use Rattle.std.specs.List.{filter}
use Rattle.std.proofs.lemmas.Fn.{filter_same}
use Rattle.crew.specs.declared.kept.KeptOut.{KeptOut}
use Rattle.crew.proofs.kept.Kept.below.Goals as goal

pub returns : goal.returns
returns g c =
    filter_same _ _ _ (λ x b f' k. search rules) _ _ c.retain.ensures.filtered
    ∙ ap (filter (λ (k : KeptOut g.row.O.Denot). ltb k.task c.args.task)) c.self.view_is
