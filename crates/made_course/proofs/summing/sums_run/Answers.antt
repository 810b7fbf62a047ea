use Rattle.std.proofs.Common.{◌≡◌, drop, inl, map, refl, subst}
use Rattle.std.proofs.lemmas.Result.{err_from_is_err_and}
use Rattle.run_course.proofs.HostLemmas.{others_as}
use Rattle.run_settings.specs.Settings.{RunSettings}
use Rattle.made_course.proofs.Runs.{asks_sums, comes, inputs_typed}
use Rattle.made_course.proofs.summing.sums_run.Goals as goal

pub ran_on-ran-requires-clause-typed : goal.ran_on-ran-requires-clause-typed
ran_on-ran-requires-clause-typed g c lives bounds =
    let w = c.args.workload in
    inputs_typed w c.standard-settings.result c.args.program.now.script c.in_ok-inputs.inputs
    c.standard-settings.ensures c.requires.script c.in_ok-inputs.ensures.inputs
    (c.made_rows_law.ensures.inputs w.start w.rows c.requires.within.start c.requires.within.rows)

-- ---- no memory was found for the rows, or the plan

pub returns-in_err-inputs-clause-comes : goal.returns-in_err-inputs-clause-comes
returns-in_err-inputs-clause-comes g c =
    let end = c.from_residual in
    let p = err_from_is_err_and end.result end.ensures.1 in
    rw (p.1, p.2) tt

pub returns-in_err-inputs-clause-asked : goal.returns-in_err-inputs-clause-asked
returns-in_err-inputs-clause-asked g c = inl refl

-- ---- the run

pub returns-clause-comes : goal.returns-clause-comes
returns-clause-comes g c =
    let w = c.args.workload in
    comes w c.standard-settings.result c.args.program.now.script c.in_ok-inputs.inputs
    c.standard-settings.ensures c.requires.script c.in_ok-inputs.ensures.inputs
    (c.sums_law.ensures.means w.start w.rows c.requires.within.start c.requires.within.rows)
    c.in_ok-inputs.plan (map g.H.Host.account c.args.hosts.now)
    (map g.H.Host.account c.ran_on-ran.new.hosts) c.ran_on-ran.result
    c.in_ok-inputs.ensures.optimised c.ran_on-ran.ensures.ran c.ran_on-ran.ensures.fault

pub returns-clause-asked : goal.returns-clause-asked
returns-clause-asked g c =
    asks_sums c.args.workload c.standard-settings.result c.args.program.now.script
    c.in_ok-inputs.inputs c.standard-settings.ensures c.requires.script
    c.in_ok-inputs.ensures.inputs c.in_ok-inputs.plan (map g.H.Host.account c.args.hosts.now)
    (map g.H.Host.account c.ran_on-ran.new.hosts) c.in_ok-inputs.ensures.optimised
    c.ran_on-ran.ensures.asked
    (others_as g.H.Host.account c.standard-settings.result.workers
    c.args.hosts.now c.ran_on-ran.new.hosts c.ran_on-ran.ensures.hosts)

pub returns-clause-hosts : goal.returns-clause-hosts
returns-clause-hosts g c =
    subst
    (λ (s : RunSettings). drop s.workers c.ran_on-ran.new.hosts ≡ drop s.workers c.args.hosts.now)
    c.standard-settings.ensures c.ran_on-ran.ensures.hosts
