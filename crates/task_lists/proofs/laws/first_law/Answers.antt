use Rattle.task_lists.proofs.Least.{stage_calm, map_first, reduce_first}
use Rattle.task_lists.proofs.laws.first_law.Goals as goal

pub returns-clause-calm : goal.returns-clause-calm
returns-clause-calm c w n t s some_shards some maps reduces =
    stage_calm w n some_shards some t s maps reduces

pub returns-clause-maps : goal.returns-clause-maps
returns-clause-maps c w n t s k e some_shards some below calm first =
    map_first w n some_shards some t s k e below calm first

pub returns-clause-reduces : goal.returns-clause-reduces
returns-clause-reduces c w n t s k e some_shards some maps below calm first =
    reduce_first w n some_shards some t s k e maps below calm first
