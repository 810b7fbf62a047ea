use Rattle.plan_phases.proofs.Trapping.{all_traps, first_traps, none_traps}
use Rattle.plan_phases.proofs.laws.phases_law.Goals as goal

pub returns-clause-traps : goal.returns-clause-traps
returns-clause-traps c w n p shards partitions =
    all_traps w n (λ f t s. c.numbers_law.ensures.map_traps f n t s shards)
    (λ f t s. c.numbers_law.ensures.reduce_traps f w n t s partitions) p

pub returns-clause-calm : goal.returns-clause-calm
returns-clause-calm c w n p shards partitions =
    none_traps w n (λ f t s. c.numbers_law.ensures.map_traps f n t s shards)
    (λ f t s. c.numbers_law.ensures.reduce_traps f w n t s partitions) p

pub returns-clause-first : goal.returns-clause-first
returns-clause-first c w n p trap shards partitions =
    first_traps w n (λ f t s. c.numbers_law.ensures.map_traps f n t s shards)
    (λ f t s. c.numbers_law.ensures.reduce_traps f w n t s partitions) p trap
