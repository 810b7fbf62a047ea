use Rattle.std.proofs.Common.{◌≡◌, ◌<◌, length, Some, None, sym, ap, ◌∙◌, subst}
use Rattle.std.specs.Option.{option_map}
use Rattle.type_table.specs.Table.{type_at}
use Rattle.written_types.specs.Named.{find}
use Rattle.written_types.proofs.NamedLemmas.{find-mapped, found-within}
use Rattle.written_types.proofs.names.TypeNames.named.Goals as goal

pub returns-in_err-id-clause-ok : goal.returns-in_err-id-clause-ok
returns-in_err-id-clause-ok c =
    let own = c.self.inside in
    rw c.from_residual.ensures
    (subst
    (λ known. option_map (type_at known.types) None ≡ find c.args.name.now known.names)
    c.self.view_is
    (sym
    (find-mapped (type_at own.types) c.args.name.now own.names.entries
    ∙ ap (option_map (type_at own.types)) (sym c.in_err-id.ensures.value))))

pub returns-clause-ok : goal.returns-clause-ok
returns-clause-ok c =
    let own = c.self.inside in
    subst
    (λ known. Some (type_at known.types c.in_ok-id.id.now)
    ≡ find c.args.name.now known.names)
    c.self.view_is
    (sym
    (find-mapped (type_at own.types) c.args.name.now own.names.entries
    ∙ ap (option_map (type_at own.types)) (sym c.in_ok-id.ensures.value)))

pub returns-clause-within : goal.returns-clause-within
returns-clause-within c =
    let own = c.self.inside in
    subst (λ known. c.in_ok-id.id.now < length known.types) c.self.view_is
    (found-within (λ id. id < length own.types) c.args.name.now own.names.entries
    c.in_ok-id.id.now c.self.invariant (sym c.in_ok-id.ensures.value))
