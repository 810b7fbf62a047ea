use Rattle.std.proofs.Common.{sym, ap, ◌∙◌, subst}
use Rattle.combine_table.specs.Accumulators.{HasShape, merged}
use Rattle.partial_tables.proofs.Adding.{new_is, shape_found, slot_is, merged_at}
use Rattle.partial_tables.proofs.table.put_or_merge.Goals as goal

pub returns-in-None : goal.returns-in-None
returns-in-None c =
    new_is c.args.comb c.args.table.now.entries c.insert_full.new.self.entries c.args.key c.args.acc
    (sym c.in-Ok.ensures.old ∙ c.in-None.is) c.in-Ok.ensures.entries

pub merge_behind-requires-clause-former : goal.merge_behind-requires-clause-former
merge_behind-requires-clause-former c =
    shape_found c.args.comb c.args.key c.in-Some.former c.args.table.now.entries c.requires.shapes
    (sym c.in-Ok.ensures.old ∙ c.in-Some.is)

pub merge_behind-requires-clause-slot : goal.merge_behind-requires-clause-slot
merge_behind-requires-clause-slot c =
    subst (HasShape c.args.comb)
    (sym (slot_is c.args.key c.args.acc c.index_mut.result.now c.args.table.now.entries c.in-Ok.at
    c.insert_full.new.self.entries c.in-Ok.ensures.index c.in-Ok.ensures.entries
    c.index_mut.ensures.value))
    c.requires.shape

pub returns-in_ok-merge_behind-in-Some : goal.returns-in_ok-merge_behind-in-Some
returns-in_ok-merge_behind-in-Some c =
    let slot = slot_is c.args.key c.args.acc c.index_mut.result.now c.args.table.now.entries
    c.in-Ok.at c.insert_full.new.self.entries c.in-Ok.ensures.index c.in-Ok.ensures.entries
    c.index_mut.ensures.value in
    merged_at c.args.comb c.args.key c.args.acc c.in-Some.former c.merge_behind.new.slot
    c.args.table.now.entries c.in-Ok.at c.insert_full.new.self.entries c.in-Ok.ensures.index
    c.in-Ok.ensures.entries (sym c.in-Ok.ensures.old ∙ c.in-Some.is)
    (c.in_ok-merge_behind-in-Some.ensures ∙ ap (λ s. merged c.args.comb c.in-Some.former s) slot)
