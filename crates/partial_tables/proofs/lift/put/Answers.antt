use Rattle.std.proofs.Common.{◌<◌, ◌≤◌, ◌++◌, ◌∷◌, ◌∙◌, ℕ, [], ap, length, subst}
use Rattle.partial_tables.specs.Tables.{IsRefusedAdd, Table}
use Rattle.partial_tables.specs.declared.table.AddFault.TheVariants.{Full}
use Rattle.partial_tables.proofs.Tabling.{tables_more, tables_next}
use Rattle.partial_tables.proofs.lift.put.Goals as goal

pub returns-in-Ok-clause-tables : goal.returns-in-Ok-clause-tables
returns-in-Ok-clause-tables c pairs value made tables =
    tables_more c.args.table.now.comb pairs c.args.others.now.items c.args.table.now.partials
    c.add.new.self.partials c.args.key value c.args.acc
    (ap (λ t. t.partials) c.in-Ok.ensures.added) made
    (λ none.
    subst (λ (n : ℕ). length c.args.table.now.partials < n) c.requires.room
    (c.in-Ok.ensures.room none)) tables

pub returns-in_ok-put_first-in-Ok-move_behind-clause-tables :
    goal.returns-in_ok-put_first-in-Ok-move_behind-clause-tables
returns-in_ok-put_first-in-Ok-move_behind-clause-tables c pairs value made tables =
    let old = c.args.table.now in
    let others = c.args.others.now.items in
    let full : IsRefusedAdd old c.args.key c.args.acc c.add.new.self
    (Full c.in-Full.key c.in-Full.acc) =
    subst (IsRefusedAdd old c.args.key c.args.acc c.add.new.self) c.in-Full.is
    c.in-Err.ensures.refused in
    let moved = c.in-Ok-move_behind.ensures in
    tables_next old.comb pairs others old.partials c.put_first.new.table.partials
    c.move_behind.new.others.items c.args.key value c.args.acc
    (ap (λ (t : Table). t.partials) c.in_ok-put_first-in-Ok-move_behind.ensures
    ∙ (λ i. (full.0 i, full.1 i) ∷ []))
    (moved.moved ∙ ap (λ (t : Table). others ++ t.partials) full.4) made
    (subst (λ (n : ℕ). n ≤ length old.partials) c.requires.room full.3) full.2 tables
