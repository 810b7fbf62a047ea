use Rattle.std.proofs.Common.{◌∙◌, ◌++◌, List, ap, length, map, subst, sym}
use Rattle.std.proofs.lemmas.Result.{err_from_is_err_and}
use Rattle.crew.proofs.Accounts.{all_grew_not}
use Rattle.flume_value.specs.Bag.{bag_of}
use Rattle.stage_results.specs.of_map_shard.Tables.{table}
use Rattle.stage_results.specs.of_stage_phases.Stages.{run_world}
use Rattle.stage_exec.proofs.Ending.{bags_are, begins, counts_are, faulted, given_back, zeros_many}
use Rattle.stage_exec.specs.Executions.{split_of}
use Rattle.plan_phases.proofs.Asking.{asked_all, asked_none}
use Rattle.plan_phases.proofs.Joining.{front_stopped}
use Rattle.plan_phases.specs.Phases.{phases, with_tasks}
use Rattle.plan_phases.specs.Told.{AskedInTurn, attempts_of}
use Rattle.plan_phases.specs.declared.winners.PhaseWinners.{PhaseWinners}
use Rattle.stage_exec.proofs.Finishing.{finishes}
use Rattle.stage_exec.proofs.executing.execute.Goals as goal

pub returns-in_err-sizes-clause-grew : goal.returns-in_err-sizes-clause-grew
returns-in_err-sizes-clause-grew g c = all_grew_not _

pub returns-in_err-sizes-clause-asked : goal.returns-in_err-sizes-clause-asked
returns-in_err-sizes-clause-asked g c =
    let s = c.args.settings.now in
    let w = run_world (g.F.Functions.called c.args.functions.now) c.args.sources.items in
    asked_none s.tries s.drill (with_tasks (phases w (split_of s) c.args.plan.now)) _

pub run_stages-requires-clause-ready : goal.run_stages-requires-clause-ready
run_stages-requires-clause-ready g c κs within =
    rw c.as_slice-stages.ensures
    (begins (run_world (g.F.Functions.called c.args.functions.now) c.args.sources.items)
    (g.F.Functions.can_call c.args.functions.now) c.args.plan.now c.requires.plan
    c.requires.typed)

pub returns-in_err-results-clause-fault : goal.returns-in_err-results-clause-fault
returns-in_err-results-clause-fault g c =
    let s = c.args.settings.now in
    let w = run_world (g.F.Functions.called c.args.functions.now) c.args.sources.items in
    let p = c.args.plan.now in
    let cut = c.cut_law.ensures in
    let e =
    err_from_is_err_and c.from_residual-in_err-results.result
    c.from_residual-in_err-results.ensures.1 in
    rw (e.1, e.2)
    (faulted s w p _ _ c.in_err-results.field-0.0
    (λ trap is. c.phases_law.ensures.first w (split_of s) p trap cut.0 cut.1 is)
    (λ trap is. c.tasks_law.ensures.trapped w (split_of s) p trap cut.0 cut.1 c.requires.plan is)
    (rw (← c.as_slice-stages.ensures) c.in_err-results.ensures.ended))

pub returns-in_err-results-clause-complete : goal.returns-in_err-results-clause-complete
returns-in_err-results-clause-complete g c can =
    let s = c.args.settings.now in
    let w = run_world (g.F.Functions.called c.args.functions.now) c.args.sources.items in
    let e =
    err_from_is_err_and c.from_residual-in_err-results.result
    c.from_residual-in_err-results.ensures.1 in
    rw (e.1, e.2)
    (finishes s.tries s.drill w (phases w (split_of s) c.args.plan.now)
    (map g.H.Host.account c.args.hosts.now) (map g.H.Host.account c.run_stages.new.hosts)
    c.in_err-results.field-0.0 can
    (rw (← c.as_slice-stages.ensures) c.in_err-results.ensures.ended))

pub returns-in_err-results-clause-asked : goal.returns-in_err-results-clause-asked
returns-in_err-results-clause-asked g c =
    let s = c.args.settings.now in
    let w = run_world (g.F.Functions.called c.args.functions.now) c.args.sources.items in
    front_stopped s.tries s.drill w (phases w (split_of s) c.args.plan.now) _ _
    c.in_err-results.field-0.0
    (rw (← c.as_slice-stages.ensures) c.in_err-results.ensures.ended)

pub returns-in_err-outputs-clause-asked : goal.returns-in_err-outputs-clause-asked
returns-in_err-outputs-clause-asked g c =
    asked_all _ _ _ _ _ _ (rw c.as_slice-stages.ensures at c.in_ok-results.ensures.ended).asked

pub returns-clause-asked : goal.returns-clause-asked
returns-clause-asked g c =
    asked_all _ _ _ _ _ _ (rw c.as_slice-stages.ensures at c.in_ok-results.ensures.ended).asked

pub returns-clause-done : goal.returns-clause-done
returns-clause-done g c =
    let s = c.args.settings.now in
    let w = run_world (g.F.Functions.called c.args.functions.now) c.args.sources.items in
    let p = c.args.plan.now in
    let cut = c.cut_law.ensures in
    let ran = rw c.as_slice-stages.ensures at c.in_ok-results.ensures.ended in
    let lists =
    rw (c.as_slice-stages.ensures, c.as_slice-outputs.ensures) at c.in_ok-results.ensures.lists in
    let none = c.phases_law.ensures.calm w (split_of s) p cut.0 cut.1 ran.through.calm in
    let lent = ap length c.as_mut_slice-counted.ensures.value in
    let grown = rw c.as_slice-stages.ensures at c.in_ok-results.ensures.sizes in
    let sizes = rw (c.as_mut_slice-counted.ensures.value, c.in_ok-sizes.ensures) at grown in
    let counts =
    c.from_vec.ensures
    ∙ given_back c.in_ok-sizes.sizes.len c.run_stages.new.sizes c.in_ok-sizes.sizes.items
    (grown.count ∙ lent) (sym c.as_mut_slice-counted.ensures.len ∙ lent) in
    let told =
    c.from_vec-2.ensures
    ∙ (ran.told ∙ ap (λ before. before ++ ran.through.winners) c.new-winners.ensures.items) in
    record {
      calm = (c.tasks_law.ensures.through w (split_of s) p cut.0 cut.1 c.requires.plan).0 none;
      outputs =
          ap (map bag_of)
          (rw c.as_slice-outputs.ensures at c.in_ok-outputs.ensures)
          ∙ bags_are s w p (table c.run_stages.new.sources.items c.in_ok-results.results.items)
          p.outputs lists (c.tasks_law.ensures.lists w (split_of s) p cut.0 cut.1 none);
      count = ap length counts ∙ (sizes.count ∙ zeros_many c.args.nodes);
      counts =
          rw counts
          (counts_are s w p c.args.nodes c.run_stages.new.sizes sizes
          (c.tasks_law.ensures.sizes w (split_of s) p cut.0 cut.1
          (c.typed_law.ensures.beside c.requires.typed.signatures p c.requires.typed.plan)
          c.requires.plan none));
      ran = rw told ran.through.won;
      asked = subst
          (λ (l : List PhaseWinners).
          AskedInTurn s.tries s.drill (with_tasks (phases w (split_of s) p)) (attempts_of l)
          (map g.H.Host.account c.args.hosts.now) (map g.H.Host.account c.run_stages.new.hosts))
          (sym told) ran.asked;
    }
