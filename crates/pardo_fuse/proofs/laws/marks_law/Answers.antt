use Rattle.pardo_fuse.proofs.SameMarks.{fused_graphs, fused_marks}
use Rattle.pardo_fuse.proofs.laws.marks_law.Goals as goal

pub returns-clause-graph : goal.returns-clause-graph
returns-clause-graph c = fused_graphs

pub returns-clause-marks : goal.returns-clause-marks
returns-clause-marks c = fused_marks
