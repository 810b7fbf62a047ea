use Rattle.stage_phases.proofs.map.map_tasks.Goals as goal

pub new-requires : goal.new-requires
new-requires g c =
    let ready = c.requires.ready in
    let shards = c.shards.ensures.within in
    let partitions = c.partitions.ensures.within in
    c.map_tasks_law.ensures.can_work ready.0 c.args.sources.now c.args.results.now
    c.args.stage.now c.args._number c.shards.result c.partitions.result ready.1 shards.0 shards.1
    partitions.0 ready.2
