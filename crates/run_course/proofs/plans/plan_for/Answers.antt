use Rattle.std.proofs.Common.{refl}
use Rattle.std.proofs.lemmas.Result.{err_from_is_err_and}
use Rattle.outside.proofs.AskLemmas.{asks_none}
use Rattle.run_course.proofs.plans.plan_for.Goals as goal

pub returns-in-Some-clause-plan : goal.returns-in-Some-clause-plan
returns-in-Some-clause-plan g c =
    rw (c.in-Some.is, ← c.as_str.ensures) c.plan_in_file.ensures.plan

pub returns-in-Some-clause-stop : goal.returns-in-Some-clause-stop
returns-in-Some-clause-stop g c =
    rw (c.in-Some.is, ← c.as_str.ensures) c.plan_in_file.ensures.stop

pub returns-in-Some-clause-asked : goal.returns-in-Some-clause-asked
returns-in-Some-clause-asked g c =
    rw (c.in-Some.is, ← c.as_str.ensures) c.plan_in_file.ensures.asked

pub returns-in_ok-plan_shown-in-None-clause-plan : goal.returns-in_ok-plan_shown-in-None-clause-plan
returns-in_ok-plan_shown-in-None-clause-plan g c =
    rw c.in-None.is c.in_ok-plan_shown-in-None.ensures.optimised

pub returns-in_ok-plan_shown-in-None-clause-asked :
    goal.returns-in_ok-plan_shown-in-None-clause-asked
returns-in_ok-plan_shown-in-None-clause-asked g c =
    rw c.in-None.is
    (asks_none c.args.tries (g.R.Source.seen c.args.source.now))

pub returns-in_err-plan_shown-in-None-clause-asked :
    goal.returns-in_err-plan_shown-in-None-clause-asked
returns-in_err-plan_shown-in-None-clause-asked g c =
    rw c.in-None.is
    (asks_none c.args.tries (g.R.Source.seen c.args.source.now))

pub returns-in_err-plan_shown-in-None-clause-stop :
    goal.returns-in_err-plan_shown-in-None-clause-stop
returns-in_err-plan_shown-in-None-clause-stop g c =
    let p = err_from_is_err_and c.from_residual.result c.from_residual.ensures.1 in
    rw (p.1, p.2, c.in-None.is) refl
