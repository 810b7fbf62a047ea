use Rattle.std.proofs.Common.{[], drop, ◌+◌, List, subst, arith}
use Rattle.exec_graph.specs.declared.graph.Entry.{Entry}
use Rattle.exec_graph.specs.declared.graph.Place.{Place}
use Rattle.fusion_blocks.specs.inner.Stretches.{MarkedBy, MarkedFrom, MarksAlso, fed}
use Rattle.fusion_blocks.specs.inner.Tables.{known}
use Rattle.fusion_blocks.proofs.Filling.{ended, item}
use Rattle.fusion_blocks.proofs.Marking.{IsMarking, marking_done, marking_more}
use Rattle.fusion_blocks.proofs.blocks.marks_by.Goals as goal

pub loop-e-preserved : goal.loop-e-preserved
loop-e-preserved c =
    let es = c.args.nodes.now in
    let m = known c.args.estimates.now in
    let e = c.e-item.result in
    record {
      before = c.in_ok-mark_all.ensures.before;
      codes = c.in_ok-mark_all.ensures.codes;
      marking = marking_more [] c.loop-e.marks.places.items c.mark_all.new.marks.places.items
          (MarkedBy es m es) (MarkedFrom es m (fed es e.number e.node))
          (MarkedBy es m (drop (c.loop-e.e-index + 1) es))
          (subst (λ (rest : List Entry). IsMarking [] c.loop-e.marks.places.items
          (MarkedBy es m es) (MarkedBy es m rest))
          (item es c.loop-e.e-index e c.loop-e-test.true c.e-item.is) c.loop-e.invariant.marking)
          (subst (λ (cs : List Place). MarksAlso c.loop-e.marks.places.items
          c.mark_all.new.marks.places.items (MarkedFrom es m cs))
          (c.fed_by-fed.ensures es c.requires.grouped) c.in_ok-mark_all.ensures.marked);
    }

pub returns : goal.returns
returns c =
    let es = c.args.nodes.now in
    let m = known c.args.estimates.now in
    marking_done [] c.loop-e.marks.places.items (MarkedBy es m es)
    (MarkedBy es m (drop c.loop-e.e-index es)) c.loop-e.invariant.marking
    (λ d w. subst (λ (rest : List Entry). MarkedBy es m rest d)
    (ended es c.loop-e.e-index (omega (arith, c.loop-e-test.false))) w)
