use Rattle.std.proofs.Common.{refl, sym, ap}
use Rattle.partial_tables.proofs.Adding.{merged_in, is_there, shape_at, kept_none, kept_more, not_there}
use Rattle.partial_tables.proofs.table.Partials.add_to_full.Goals as goal

pub merge_into-requires-clause-slot : goal.merge_into-requires-clause-slot
merge_into-requires-clause-slot c =
    shape_at c.self.inside.comb c.self.inside.table.entries c.in-Some.at c.index_mut.result.now
    c.self.invariant.0 c.index_mut.ensures.value

pub invariant_of-self : goal.invariant_of-self
invariant_of-self c =
    let i = c.self.inside in
    kept_more i.comb i.table.entries _ c.args.key c.args.acc
    (merged_in i.comb c.args.key c.args.acc i.table.entries c.in-Some.at c.index_mut.result.now
    c.merge_into.new.slot c.in-Some.ensures.index c.index_mut.ensures.value c.in-Ok.ensures)
    (rw (← c.self.view_is) at c.requires.shape) c.self.invariant

pub returns-in-Ok-clause-added : goal.returns-in-Ok-clause-added
returns-in-Ok-clause-added c =
    let i = c.self.inside in
    rw (← c.self.view_is)
    (ap (λ ps. record { comb = i.comb; room = i.room; partials = ps })
    (merged_in i.comb c.args.key c.args.acc i.table.entries c.in-Some.at c.index_mut.result.now
    c.merge_into.new.slot c.in-Some.ensures.index c.index_mut.ensures.value c.in-Ok.ensures))

pub returns-in-Ok-clause-room : goal.returns-in-Ok-clause-room
returns-in-Ok-clause-room c =
    rw (← c.self.view_is)
    (λ new.
    let old = is_there c.args.key c.self.inside.table.entries c.in-Some.at
    c.in-Some.ensures.index in cc)

pub invariant_of-self-in-Err : goal.invariant_of-self-in-Err
invariant_of-self-in-Err c = kept_none c.self.inside.comb c.clear.new.table.entries c.clear.ensures

pub returns-in-None-clause-refused : goal.returns-in-None-clause-refused
returns-in-None-clause-refused c =
    rw (← c.self.view_is) (
      refl,
      refl,
      not_there c.args.key c.self.inside.table.entries (sym c.in-None.ensures.found),
      rw (← c.self.view_is) at c.requires.full,
      refl,
    )
