use Rattle.std.proofs.Common.{◌≡◌, ◌-◌, ◌<◌, length, reverse, Some, None, sym, ap, ◌∙◌, subst}
use Rattle.std.specs.Option.{option_map}
use Rattle.std.specs.Str.{bytes_eq}
use Rattle.type_table.specs.Table.{type_at}
use Rattle.expression_types.specs.Places.{place_in}
use Rattle.expression_types.proofs.PlaceLemmas.{key_passes, placed_in}
use Rattle.expression_types.proofs.ScopeLemmas.{at_type, place_in-mapped, placed-within, not-placed}
use Rattle.expression_types.proofs.scope.Scope.find.Goals as goal
use Rattle.expression_types.proofs.scope.Scope.find.Goals.{After-len}

-- the entry that is found is the newest of the name
newest : (c : After-len) → place_in c.args.name.now (reverse c.self.inside.names.entries)
    ≡ Some (length c.self.inside.names.entries - 1 - c.in-Some.at, c.in-Some.ty.now)
newest c =
    let es = c.self.inside.names.entries in
    placed_in c.args.name.now es c.in-Some.at c.in-Some.field-0-1.now c.in-Some.ty.now
    c.len.ensures.unique c.in-Some.ensures.entry
    (key_passes (bytes_eq c.args.name.now) es c.in-Some.field-0-1.now c.in-Some.ensures.key)

pub returns-in-Some-clause-ok : goal.returns-in-Some-clause-ok
returns-in-Some-clause-ok c =
    let types = c.self.inside.known.types in
    let name = c.args.name.now in
    subst (λ s. Some (c.len.result - 1 - c.in-Some.at, type_at s.types c.in-Some.ty.now)
    ≡ place_in name s.sight.names)
    c.self.view_is
    (ap (λ n. Some (n - 1 - c.in-Some.at, type_at types c.in-Some.ty.now)) c.len.ensures.len
    ∙ sym (place_in-mapped types name (reverse c.self.inside.names.entries)
    ∙ ap (option_map (at_type types)) (newest (goal.at.returns-in-Some-clause-ok c).After-len)))

pub returns-in-Some-clause-within : goal.returns-in-Some-clause-within
returns-in-Some-clause-within c =
    subst (λ s. c.in-Some.ty.now < length s.types) c.self.view_is
    (placed-within (λ id. id < length c.self.inside.known.types) c.args.name.now
    (reverse c.self.inside.names.entries) _ c.in-Some.ty.now c.self.invariant
    (newest (goal.at.returns-in-Some-clause-within c).After-len))

pub returns-in-None-clause-ok : goal.returns-in-None-clause-ok
returns-in-None-clause-ok c =
    let types = c.self.inside.known.types in
    let es = c.self.inside.names.entries in
    let name = c.args.name.now in
    subst (λ s. None ≡ place_in name s.sight.names) c.self.view_is
    (sym (place_in-mapped types name (reverse es)
    ∙ ap (option_map (at_type types)) (not-placed name es (sym c.in-None.ensures.value))))
