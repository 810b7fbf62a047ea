use Rattle.std.proofs.Common.{◌≡◌, ◌<◌, length, map, reverse, None, sym, subst}
use Rattle.type_table.specs.Table.{type_at}
use Rattle.written_types.specs.Named.{find}
use Rattle.written_types.specs.inner.Held.{type_of}
use Rattle.expression_types.specs.Sight.{Sight, with_name}
use Rattle.expression_types.proofs.ScopeLemmas.{newest-put, held-put}
use Rattle.expression_types.proofs.scope.Scope.add.Goals as goal

pub invariant_of-self-2 : goal.invariant_of-self-2
invariant_of-self-2 c =
    let s = c.self.inside in
    let absent = subst (λ v. find c.args.name v.sight.names ≡ None)
    (sym c.self.view_is) c.requires.new in
    let within = subst (λ v. c.args.id < length v.types) (sym c.self.view_is) c.requires.within in
    held-put s.known.types s.names c.insert.new.self c.args.name c.args.id absent
    c.in_ok-insert.ensures.entries c.self.invariant within

pub returns-clause-sight : goal.returns-clause-sight
returns-clause-sight c =
    let s = c.self.inside in
    let absent = subst (λ v. find c.args.name v.sight.names ≡ None)
    (sym c.self.view_is) c.requires.new in
    let put = newest-put s.known.types s.names c.insert.new.self c.args.name c.args.id absent
    c.in_ok-insert.ensures.entries in
    let here : Sight = record {
      known = s.known.names;
      names = map (type_of s.known.types) (reverse c.insert.new.self.entries);
    } in
    subst (λ v. here ≡ with_name c.args.name (type_at v.types c.args.id) v.sight) c.self.view_is
    (λ i. record { known = s.known.names; names = map (type_of s.known.types) (put i) })
