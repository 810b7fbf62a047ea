use Rattle.std.proofs.Common.{ℕ, inl, inr, List, ◌++◌, map, refl, sym, ◌∙◌}
use Rattle.std.proofs.lemmas.Result.{IfErr-weaker, err_from_is_err_and}
use Rattle.script_loading.proofs.of_build_law.SourceLists.{as_many_inputs}
use Rattle.script_loading.specs.of_direct_meaning.Inputs.{inputs_of}
use Rattle.outside.proofs.AskLemmas.{asks_both}
use Rattle.outside.specs.Saves.{output_file}
use Rattle.script_loading.specs.Loads.{file_names}
use Rattle.run_course.specs.Asks.{plan_file}
use Rattle.run_course.specs.Lent.{lent}
use Rattle.run_course.proofs.AskLemmas.{inputs_with, plan_with, run_until}
use Rattle.run_course.proofs.CauseLemmas.{no_plan_stop, run_stop}
use Rattle.run_course.proofs.HostLemmas.{others_as, run_asks}
use Rattle.run_course.proofs.RunLemmas.{both_ok, writes_run}
use Rattle.run_course.proofs.commands.run_on.Goals as goal

-- ---- its inputs have no rows

pub returns-in_err-inputs-clause-stop : goal.returns-in_err-inputs-clause-stop
returns-in_err-inputs-clause-stop g c =
    let end = c.from_residual in
    let p = err_from_is_err_and end.result end.ensures.1 in
    rw (p.1, p.2)
    (inr (inl (rw c.tries-tries.ensures.value at c.in_err-inputs.ensures.err)))

pub returns-in_err-inputs-clause-asked : goal.returns-in_err-inputs-clause-asked
returns-in_err-inputs-clause-asked g c =
    let end = c.from_residual in
    let p = err_from_is_err_and end.result end.ensures.1 in
    let names : List (List ℕ) = file_names (inputs_of c.args.program.now.script) in
    rw (p.1, p.2)
    (inputs_with c.args.settings.now.tries names (g.R.Source.seen c.args.source.now)
    (g.R.Source.seen c.rows_of_inputs.new.source) (plan_file c.args.from.now)
    c.in_err-inputs.field-0.0
    (rw c.tries-tries.ensures.value at c.in_err-inputs.ensures.asked_until))

pub returns-in_err-inputs-clause-asked_hosts : goal.returns-in_err-inputs-clause-asked_hosts
returns-in_err-inputs-clause-asked_hosts g c = inl refl

-- ---- there is no plan

pub returns-in_err-shown-clause-stop : goal.returns-in_err-shown-clause-stop
returns-in_err-shown-clause-stop g c =
    let end = c.from_residual-in_err-shown in
    let p = err_from_is_err_and end.result end.ensures.1 in
    rw (p.1, p.2)
    (no_plan_stop c.args.settings.now c.args.from.now (g.R.Source.seen c.args.source.now)
    (g.R.Source.seen c.rows_of_inputs.new.source) (g.R.Source.seen c.plan_for.new.source)
    (map g.H.Host.account c.args.hosts.now)
    (map g.H.Host.account c.args.hosts.now) c.args.program.now.script
    c.in_ok-inputs.inputs c.in_err-shown.field-0.0 c.in_ok-inputs.ensures.files
    c.in_ok-inputs.ensures.later c.in_ok-inputs.ensures.ok
    (rw c.tries-tries.ensures.value at c.in_err-shown.ensures.stop))

pub returns-in_err-shown-clause-asked : goal.returns-in_err-shown-clause-asked
returns-in_err-shown-clause-asked g c =
    let end = c.from_residual-in_err-shown in
    let p = err_from_is_err_and end.result end.ensures.1 in
    let names : List (List ℕ) = file_names (inputs_of c.args.program.now.script) in
    rw (p.1, p.2)
    (plan_with c.args.settings.now.tries names (g.R.Source.seen c.args.source.now)
    (g.R.Source.seen c.plan_for.new.source) c.tries-tries.result
    (g.R.Source.seen c.rows_of_inputs.new.source) (g.R.Source.seen c.plan_for.new.source)
    c.args.program.now.script c.args.from.now c.in_err-shown.field-0.0 c.in_err-shown.ensures.stop
    (asks_both c.args.settings.now.tries names (plan_file c.args.from.now)
    (g.R.Source.seen c.args.source.now) (g.R.Source.seen c.rows_of_inputs.new.source)
    (g.R.Source.seen c.plan_for.new.source)
    (rw c.tries-tries.ensures.value at c.in_ok-inputs.ensures.asked)
    (rw c.tries-tries.ensures.value at c.in_err-shown.ensures.asked)))

pub returns-in_err-shown-clause-asked_hosts : goal.returns-in_err-shown-clause-asked_hosts
returns-in_err-shown-clause-asked_hosts g c = inl refl

-- ---- the plan is run

pub returns-clause-stop : goal.returns-clause-stop
returns-clause-stop g c =
    IfErr-weaker c.written_run.result _ _ (λ why stops.
    run_stop c.args.settings.now c.args.from.now (g.R.Source.seen c.args.source.now)
    (g.R.Source.seen c.plan_for.new.source) (map g.H.Host.account c.args.hosts.now)
    (map g.H.Host.account c.written_run.new.hosts)
    c.args.program.now.script c.in_ok-inputs.inputs c.in_ok-shown.shown.plan why
    c.in_ok-inputs.ensures.ok
    (rw c.in_ok-inputs.ensures.files at c.in_ok-shown.ensures.plan) stops)
    c.written_run.ensures.stop

pub returns-clause-written : goal.returns-clause-written
returns-clause-written g c =
    both_ok c.written_run.result _ _ _ c.written_run.ensures.written c.written_run.ensures.ran
    (λ it gives ran.
    writes_run c.args.settings.now c.args.from.now (g.R.Source.seen c.args.source.now).files
    (map g.H.Host.account c.args.hosts.now) (map g.H.Host.account c.written_run.new.hosts)
    c.args.program.now.script c.in_ok-inputs.inputs c.in_ok-shown.shown.plan
    c.in_ok-shown.shown.text.items it.screen.items (map output_file it.outputs.items)
    c.in_ok-inputs.ensures.ok
    (rw c.in_ok-inputs.ensures.files at c.in_ok-shown.ensures.plan)
    c.in_ok-shown.ensures.text gives ran)

pub returns-clause-asked : goal.returns-clause-asked
returns-clause-asked g c =
    let names : List (List ℕ) = file_names (inputs_of c.args.program.now.script) in
    run_until c.args.settings.now.tries (names ++ plan_file c.args.from.now)
    (g.R.Source.seen c.args.source.now) (g.R.Source.seen c.plan_for.new.source) c.args.settings.now
    c.args.program.now.script c.in_ok-inputs.inputs c.in_ok-shown.shown.plan
    (lent c.args.settings.now (map g.H.Host.account c.args.hosts.now)) (lent c.args.settings.now
    (map g.H.Host.account c.written_run.new.hosts)) c.written_run.result c.written_run.ensures.stop
    (asks_both c.args.settings.now.tries names (plan_file c.args.from.now)
    (g.R.Source.seen c.args.source.now) (g.R.Source.seen c.rows_of_inputs.new.source)
    (g.R.Source.seen c.plan_for.new.source)
    (rw c.tries-tries.ensures.value at c.in_ok-inputs.ensures.asked)
    (rw c.tries-tries.ensures.value at c.in_ok-shown.ensures.asked))

pub returns-clause-asked_hosts : goal.returns-clause-asked_hosts
returns-clause-asked_hosts g c =
    run_asks c.args.settings.now c.args.from.now (g.R.Source.seen c.args.source.now).files
    (map g.H.Host.account c.args.hosts.now) (map g.H.Host.account c.written_run.new.hosts)
    c.args.program.now.script c.in_ok-inputs.inputs c.in_ok-shown.shown.plan c.written_run.result
    c.in_ok-inputs.ensures.ok
    (rw c.in_ok-inputs.ensures.files at c.in_ok-shown.ensures.plan)
    (c.in_ok-shown.ensures.of_script.sources
    ∙ sym (as_many_inputs c.args.program.now.script c.in_ok-inputs.inputs
    c.in_ok-inputs.ensures.typed))
    c.written_run.ensures.stop c.written_run.ensures.asked
    (others_as g.H.Host.account c.args.settings.now.workers
    c.args.hosts.now c.written_run.new.hosts c.written_run.ensures.hosts)
