use Rattle.task_lists.proofs.Emptied.{none_beside, none_operated}
use Rattle.task_lists.proofs.laws.empty_law.Goals as goal

pub returns-clause-operate : goal.returns-clause-operate
returns-clause-operate c w n t takes o f k l place at empty =
    none_operated w t takes o f k place at empty

pub returns-clause-beside : goal.returns-clause-beside
returns-clause-beside c = none_beside
