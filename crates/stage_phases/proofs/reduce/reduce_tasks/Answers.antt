use Rattle.std.proofs.Common.{sym, subst}
use Rattle.map_shard.specs.Tables.{split_into}
use Rattle.task_lists.specs.Outs.{AreMapOuts}
use Rattle.stage_phases.proofs.Reducing.{count_within}
use Rattle.stage_phases.proofs.reduce.reduce_tasks.Goals as goal

pub new-requires : goal.new-requires
new-requires g c =
    let inputs = c.args.inputs.now in
    let within = c.partitions.ensures.within in
    let h = c.requires.ready in
    let made = subst (λ p. AreMapOuts h.world (split_into inputs.settings.now.shards p) h.lists
    c.args.stage.now c.args.maps.now) (sym c.partitions.ensures.value) h.made in
    c.reduce_tasks_law.ensures.can_reduce h.world
    (split_into inputs.settings.now.shards c.partitions.result) h.lists c.args.stage.now
    c.args.maps.now c.args._number h.answers h.cut.0 within.0 within.1 h.ready made

pub returns-clause-count : goal.returns-clause-count
returns-clause-count g c =
    let within = c.partitions.ensures.within in
    count_within _ _ c.new.ensures within.0 within.1 c.requires.some
    c.requires.ready.ready.ok.few_outputs
