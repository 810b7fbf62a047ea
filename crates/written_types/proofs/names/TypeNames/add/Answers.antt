use Rattle.std.proofs.Common.{◌≡◌, ◌<◌, ◌++◌, ◌∷◌, [], length, None, List, ℕ, map, sym, subst}
use Rattle.type_table.specs.Table.{type_at}
use Rattle.written_types.specs.Named.{find}
use Rattle.written_types.specs.inner.Held.{type_of}
use Rattle.written_types.proofs.NamedLemmas.{mapped-put, within-put}
use Rattle.written_types.proofs.names.TypeNames.add.Goals as goal

pub invariant_of-self-2 : goal.invariant_of-self-2
invariant_of-self-2 c =
    let own = c.self.inside in
    let absent =
    subst (λ known. find c.args.name known.names ≡ None) (sym c.self.view_is)
    c.requires.new in
    let within =
    subst (λ known. c.args.id < length known.types) (sym c.self.view_is) c.requires.within in
    within-put (type_at own.types) own.names c.insert.new.self c.args.name c.args.id absent
    c.in_ok-insert.ensures.entries (λ (e : List ℕ × ℕ). e.1 < length own.types)
    c.self.invariant within

pub returns-clause-names : goal.returns-clause-names
returns-clause-names c =
    let own = c.self.inside in
    let absent =
    subst (λ known. find c.args.name known.names ≡ None) (sym c.self.view_is)
    c.requires.new in
    subst
    (λ known. map (type_of own.types) c.insert.new.self.entries
    ≡ known.names ++ (c.args.name, type_at known.types c.args.id) ∷ [])
    c.self.view_is
    (mapped-put (type_at own.types) own.names c.insert.new.self c.args.name c.args.id absent
    c.in_ok-insert.ensures.entries)
