use Rattle.std.proofs.Common.{ℕ, List, subst}
use Rattle.std.proofs.lemmas.Result.{IfErr-weaker, IfOk-weaker, err_from_is_err_and}
use Rattle.outer_plans.specs.Plans.{IsTaken}
use Rattle.run_course.specs.inner.Course.{IsTakingStop}
use Rattle.run_course.proofs.PlanLemmas.{file_load, file_taken}
use Rattle.run_course.proofs.plans.plan_in_file.Goals as goal

pub returns-in_err-bytes-clause-stop : goal.returns-in_err-bytes-clause-stop
returns-in_err-bytes-clause-stop g c =
    let p = err_from_is_err_and c.from_residual.result c.from_residual.ensures.1 in
    rw (p.1, p.2)
    (file_load c.args.tries (g.R.Source.seen c.args.source.now)
    (g.R.Source.seen c.plan_bytes.new.source) c.args.program.now.script
    c.args.name.now c.in_err-bytes.field-0.0 c.in_err-bytes.ensures.err)

pub returns-clause-plan : goal.returns-clause-plan
returns-clause-plan g c =
    IfOk-weaker c.taken_shown-shown.result _ _ (λ it taken. (
      c.in_ok-bytes.bytes.items,
      c.in_ok-bytes.ensures.ok,
      subst (λ (l : List ℕ). IsTaken c.args.program.now.script l it.plan) c.as_slice.ensures.value
          taken,
    )) c.taken_shown-shown.ensures.taken

pub returns-clause-stop : goal.returns-clause-stop
returns-clause-stop g c =
    IfErr-weaker c.taken_shown-shown.result _ _ (λ status stops.
    file_taken c.args.tries (g.R.Source.seen c.args.source.now)
    (g.R.Source.seen c.plan_bytes.new.source) c.args.program.now.script
    c.args.name.now c.in_ok-bytes.bytes.items status c.in_ok-bytes.ensures.ok
    (subst (λ (l : List ℕ). IsTakingStop c.args.program.now.script l status)
    c.as_slice.ensures.value stops)) c.taken_shown-shown.ensures.stop
