use Rattle.std.proofs.Common.{◌≡◌, ◌-◌, length, map, reverse, drop, subst}
use Rattle.written_types.specs.inner.Held.{type_of}
use Rattle.expression_types.proofs.ScopeLemmas.{held-left, names-left}
use Rattle.expression_types.proofs.scope.Scope.leave.Goals as goal

pub invariant_of-self : goal.invariant_of-self
invariant_of-self c =
    held-left c.self.inside.known.types c.args.len c.self.inside.names.entries
    c.truncate.new.self.entries c.truncate.ensures.entries c.self.invariant

pub returns-clause-names : goal.returns-clause-names
returns-clause-names c =
    let types = c.self.inside.known.types in
    subst (λ v. map (type_of types) (reverse c.truncate.new.self.entries)
    ≡ drop (length v.sight.names - c.args.len) v.sight.names) c.self.view_is
    (names-left types c.args.len c.self.inside.names.entries c.truncate.new.self.entries
    c.truncate.ensures.entries)
