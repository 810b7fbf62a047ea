use Rattle.task_lists.proofs.Sending.{passed_whole, groups_whole, combined_whole, answered_whole}
use Rattle.task_lists.proofs.laws.outs_law.Goals as goal

pub returns-clause-passed : goal.returns-clause-passed
returns-clause-passed c w n t s outs r number k some made at =
    passed_whole w n t s outs r some made k number at

pub returns-clause-groups : goal.returns-clause-groups
returns-clause-groups c w n t s outs r p g some below made at unlifted =
    groups_whole w n t s outs r some made p g below at unlifted

pub returns-clause-combined : goal.returns-clause-combined
returns-clause-combined c w n t s outs r p g comb some below made at lifted =
    combined_whole w n t s outs r some made p g comb below at lifted

pub returns-clause-answered : goal.returns-clause-answered
returns-clause-answered c w n t s outs r p g comb some below made at lifted =
    answered_whole w n t s outs r some made p g comb below at lifted
