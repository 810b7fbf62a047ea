use Rattle.task_lists.proofs.Whole.{lists_whole, sizes_whole, no_trap_either, first_trap_is}
use Rattle.task_lists.proofs.laws.tasks_law.Goals as goal

pub returns-clause-lists : goal.returns-clause-lists
returns-clause-lists c w n p s q none = lists_whole w n s q p none

pub returns-clause-sizes : goal.returns-clause-sizes
returns-clause-sizes c w n p s q first ok none = sizes_whole w n s q p first ok none

pub returns-clause-through : goal.returns-clause-through
returns-clause-through c w n p s q ok = no_trap_either w n s q p ok

pub returns-clause-trapped : goal.returns-clause-trapped
returns-clause-trapped c w n p e s q ok first = first_trap_is w n s q p e ok first
