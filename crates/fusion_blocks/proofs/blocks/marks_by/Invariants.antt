use Rattle.std.proofs.Common.{drop, []}
use Rattle.fusion_blocks.specs.inner.Stretches.{AreBefore, HasCodes, MarkedBy}
use Rattle.fusion_blocks.specs.inner.Tables.{known}
use Rattle.fusion_blocks.proofs.Marking.{IsMarking}
use Rattle.fusion_blocks.proofs.blocks.marks_by.Given as goal

abbrev pub invariant-loop-e : goal.invariant-loop-e
invariant-loop-e l = record {
  before : AreBefore l.nodes (known l.estimates) l.before;
  codes : HasCodes l.marks.codes l.marks.places.items;
  marking : IsMarking [] l.marks.places.items (MarkedBy l.nodes (known l.estimates) l.nodes)
      (MarkedBy l.nodes (known l.estimates) (drop l.e-index l.nodes));
}
