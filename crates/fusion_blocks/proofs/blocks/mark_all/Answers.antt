use Rattle.fusion_blocks.specs.inner.Tables.{known}
use Rattle.fusion_blocks.proofs.Chaining.{marking_next}
use Rattle.fusion_blocks.proofs.blocks.mark_all.Goals as goal

pub loop-c-preserved : goal.loop-c-preserved
loop-c-preserved c = record {
  before = c.in_ok-stretch.ensures.before;
  codes = c.in_ok-mark_least.ensures.codes;
  marking = marking_next c.args.nodes.now (known c.args.estimates.now) c.args.places.now
      c.loop-c.c-index _ c.in_ok-stretch.stretch c.args.marks.now.places.items
      c.loop-c.marks.places.items c.mark_least.new.marks.places.items c.loop-c-test.true
      c.loop-c.invariant.marking c.in_ok-stretch.ensures.marks c.in_ok-mark_least.ensures.marked;
}
