use Rattle.std.proofs.Common.{◌||◌, ap, ◌∙◌, sym}
use Rattle.std.specs.List.{list_any}
use Rattle.std.specs.Str.{bytes_eq}
use Rattle.let_check.proofs.NameLemmas.{is-among}
use Rattle.let_check.proofs.lets.is_taken.Goals as goal

pub returns-then-has_name : goal.returns-then-has_name
returns-then-has_name c =
    c.if-has_name.true
    ∙ ap (λ b. b || list_any (bytes_eq c.args.name.now) c.args.before.now)
    (sym c.if-has_name.true ∙ c.has_name.ensures)
    ∙ is-among c.args.name.now c.args.state.now.state.names c.args.before.now

pub returns-else-has_name : goal.returns-else-has_name
returns-else-has_name c =
    c.is_among.ensures
    ∙ ap (λ b. b || list_any (bytes_eq c.args.name.now) c.args.before.now)
    (sym c.if-has_name.false ∙ c.has_name.ensures)
    ∙ is-among c.args.name.now c.args.state.now.state.names c.args.before.now
