use Rattle.std.proofs.Common.{get_or, refl, arith}
use Rattle.graph_walks.proofs.TableTurns.{table_end, table_turn}
use Rattle.graph_walks.proofs.tables.number_table.Goals as goal

pub loop-place-preserved : goal.loop-place-preserved
loop-place-preserved c = λ j.
    let l = c.loop-place in
    table_turn c.args.outs.now l.place c.args.count (get_or c.args.outs.now l.place 0) j
    (get_or l.table.items j c.args.count)
    (get_or c.note_first.new.table.items j c.args.count) _ (omega arith) c.requires
    refl (c.in_ok-note_first.ensures j) (l.invariant j)

pub returns : goal.returns
returns c = λ j.
    let l = c.loop-place in
    table_end c.args.outs.now l.place c.args.count j (get_or l.table.items j c.args.count) _
    (omega arith) (omega arith) (l.invariant j)
