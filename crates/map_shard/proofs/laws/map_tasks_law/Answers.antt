use Rattle.map_shard.specs.Tables.{split_into, table}
use Rattle.map_shard.proofs.Fitting.{are_outs, can_work}
use Rattle.task_safety.specs.of_task_lists.Tasks.{map_task_of}
use Rattle.map_shard.proofs.laws.map_tasks_law.Goals as goal

pub returns-clause-can_work : goal.returns-clause-can_work
returns-clause-can_work g c w sources results s k shards partitions same some few parts ready =
    let called = g.F.Functions.called c.args.functions.now in
    let takes = g.F.Functions.can_call c.args.functions.now in
    let n = split_into shards partitions in
    let t = table sources results in
    can_work c.args.functions.now sources results s shards partitions w called takes k same ready
    (λ r m i g at all lift. c.typed_law.ensures.given ready.signatures w n ready.types t k r m i s g
    ready.world ready.lists ready.typed at all lift)
    some few parts
    (λ m i.
    let task = map_task_of n t s.inputs m i in
    let typed = c.typed_law.ensures.maps ready.signatures w n ready.types t k m i s
    ready.world ready.lists ready.typed in
    c.taken_law.ensures ready.signatures w task.beside task.does task.elements same ready.calls
    (c.safe_law.ensures ready.signatures w task ready.world typed))

pub returns-clause-outs : goal.returns-clause-outs
returns-clause-outs g c w sources results s shards partitions outs same count values =
    are_outs c.args.functions.now sources results s shards partitions w
    (g.F.Functions.called c.args.functions.now) same outs count values
