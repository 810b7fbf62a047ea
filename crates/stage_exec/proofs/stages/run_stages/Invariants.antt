use Rattle.std.proofs.Common.{map}
use Rattle.stage_results.specs.of_stage_phases.Stages.{run_world}
use Rattle.stage_exec.specs.inner.Along.{Along}
use Rattle.stage_exec.proofs.stages.run_stages.Given as goal

abbrev pub invariant-loop-k : goal.invariant-loop-k
invariant-loop-k g l =
    Along l.inputs.settings.now
    (run_world (g.F.Functions.called l.inputs.functions.now) l.fn.sources.items)
    (g.F.Functions.can_call l.inputs.functions.now) l.stages l.outputs
    l.sources.items l.k
    l.results.items l.fn.sizes l.sizes (map g.H.Host.account l.fn.hosts)
    (map g.H.Host.account l.hosts) l.fn.winners.items l.winners.items
