use Rattle.std.proofs.Common.{None, false}
use Rattle.forest_steps.specs.Functions.{world_of}
use Rattle.lifted_root.specs.of_task_lists.Tasks.{reduce_task}
use Rattle.task_safety.proofs.Fitting.{out_at}
use Rattle.reduce_part.proofs.Shuffled.{can_reduce}
use Rattle.reduce_part.proofs.laws.reduce_tasks_law.Goals as goal

pub returns : goal.returns
returns g c = record {
  can_reduce = λ w n t s outs k same some some_partitions few ready made.
      let called = g.F.Functions.called c.args.functions.now in
      let takes = g.F.Functions.can_call c.args.functions.now in
      let out_ok = out_at s.inputs false 0 s.outputs ready.ok.channels in
      can_reduce c.args.functions.now w n t s outs takes (world_of called)
      (c.reducing_law.ensures.first ready.sources ready.before s ready.ok) some made out_ok
      (λ i p group at.
      let task = reduce_task w n t s.inputs group p in
      let ok = (out_ok i _ at).ok in
      let typed = c.typed_law.ensures.reduces ready.signatures w n ready.types t k i p s group
      ready.world ready.lists ready.typed at ok.takes in
      c.taken_law.ensures ready.signatures w None task.does task.elements same ready.calls
      (c.safe_law.ensures ready.signatures w task ready.world typed))
      some_partitions few ready.ok.few_outputs;
}
