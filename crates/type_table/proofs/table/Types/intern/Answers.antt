use Rattle.std.proofs.Common.{◌≡◌, length, IfOk, sym, subst}
use Rattle.type_table.specs.Table.{type_at, tree_of, kept_types, IsWithin, Extends}
use Rattle.type_table.proofs.TableLemmas.{Interned, interned}
use Rattle.type_table.proofs.table.Types.intern.Goals as goal
use Rattle.type_table.proofs.table.Types.intern.Goals.{After-add}

-- the table once the shape was added, or memory ran out
added : (c : After-add) → Interned c.add.new.shapes.entries
    (kept_types c.self.inside.shapes.entries) c.args.shape c.add.result
added c =
    let within = subst (λ ts. IsWithin (length ts) c.args.shape) (sym c.self.view_is) c.requires in
    interned c.self.inside.shapes.entries c.add.new.shapes.entries c.args.shape
    c.shape_depth-depth.result c.self.invariant within c.in-None.ensures
    c.shape_depth-depth.ensures c.add.result c.add.ensures.ok c.add.ensures.err c.add.ensures.id

pub invariant_of-self : goal.invariant_of-self
invariant_of-self c = (added (goal.at.invariant_of-self c).After-add).table

pub returns-in-None-clause-within : goal.returns-in-None-clause-within
returns-in-None-clause-within c =
    (added (goal.at.returns-in-None-clause-within c).After-add).within

pub returns-in-None-clause-ok : goal.returns-in-None-clause-ok
returns-in-None-clause-ok c =
    subst (λ ts. IfOk c.add.result
    (λ id. type_at (kept_types c.add.new.shapes.entries) id ≡ tree_of ts c.args.shape))
    c.self.view_is (added (goal.at.returns-in-None-clause-ok c).After-add).ok

pub returns-in-None-clause-extends : goal.returns-in-None-clause-extends
returns-in-None-clause-extends c =
    subst (λ ts. Extends ts (kept_types c.add.new.shapes.entries)) c.self.view_is
    (added (goal.at.returns-in-None-clause-extends c).After-add).extends
