use Rattle.fusion_blocks.specs.Blocks.{unmarked}
use Rattle.fusion_blocks.proofs.Blocking.{marks_lead}
use Rattle.pass_rewrites.proofs.FusedList.{fusing_list}
use Rattle.pass_rewrites.proofs.Marking.{fused_list}
use Rattle.pass_rewrites.proofs.Sinking.{lifts_list, marks_list, sinks_lead}
use Rattle.pass_rewrites.proofs.laws.passes_law.Goals as goal

pub returns-clause-sink : goal.returns-clause-sink
returns-clause-sink c = λ g h ok sunk. sinks_lead g h ok sunk.leads

pub returns-clause-lift : goal.returns-clause-lift
returns-clause-lift c = lifts_list

pub returns-clause-fuse : goal.returns-clause-fuse
returns-clause-fuse c = fusing_list

pub returns-clause-mark : goal.returns-clause-mark
returns-clause-mark c = λ scales b ok blocked.
    marks_list b.marks (unmarked b.graph) b (marks_lead scales b ok blocked)

pub returns-clause-fused_marks : goal.returns-clause-fused_marks
returns-clause-fused_marks c = fused_list
