use Rattle.std.proofs.Common.{inl, map, refl}
use Rattle.std.proofs.lemmas.Result.{IfErr-weaker, err_from_is_err_and}
use Rattle.outside.proofs.AskLemmas.{asks_none}
use Rattle.run_course.specs.Limits.{usual_tries}
use Rattle.run_course.proofs.AskLemmas.{none_with}
use Rattle.run_course.proofs.CauseLemmas.{meaning_stop}
use Rattle.run_course.proofs.commands.carried_out.Goals as goal

pub returns-in-Direct-clause-stop : goal.returns-in-Direct-clause-stop
returns-in-Direct-clause-stop g c =
    rw c.in-Direct.is
    (IfErr-weaker c.meant.result _ _ (λ why stops.
    meaning_stop (g.R.Source.seen c.args.source.now) (g.R.Source.seen c.meant.new.source)
    (map g.H.Host.account c.args.hosts.now)
    (map g.H.Host.account c.args.hosts.now) c.args.program.now.script why
    stops) c.meant.ensures.stop)

pub returns-in_err-accepted-in-Check-clause-asked :
    goal.returns-in_err-accepted-in-Check-clause-asked
returns-in_err-accepted-in-Check-clause-asked g c =
    let end = c.from_residual in
    let p = err_from_is_err_and end.result end.ensures.1 in
    rw (p.1, p.2) (none_with _ _ (g.R.Source.seen c.args.source.now))

pub returns-in_err-planned-in-Plan-clause-asked : goal.returns-in_err-planned-in-Plan-clause-asked
returns-in_err-planned-in-Plan-clause-asked g c =
    let end = c.from_residual-in_err-planned-in-Plan in
    let p = err_from_is_err_and end.result end.ensures.1 in
    rw (p.1, p.2) (none_with _ _ (g.R.Source.seen c.args.source.now))

pub returns-in_ok-accepted-in-Check-clause-asked : goal.returns-in_ok-accepted-in-Check-clause-asked
returns-in_ok-accepted-in-Check-clause-asked g c =
    rw c.in-Check.is
    (asks_none usual_tries (g.R.Source.seen c.args.source.now))

pub returns-in_ok-planned-in-Plan-clause-asked : goal.returns-in_ok-planned-in-Plan-clause-asked
returns-in_ok-planned-in-Plan-clause-asked g c =
    rw c.in-Plan.is
    (asks_none usual_tries (g.R.Source.seen c.args.source.now))

pub returns-in_err-accepted-in-Check-clause-asked_hosts :
    goal.returns-in_err-accepted-in-Check-clause-asked_hosts
returns-in_err-accepted-in-Check-clause-asked_hosts g c = inl refl

pub returns-in_err-planned-in-Plan-clause-asked_hosts :
    goal.returns-in_err-planned-in-Plan-clause-asked_hosts
returns-in_err-planned-in-Plan-clause-asked_hosts g c = inl refl

pub returns-in_ok-accepted-in-Check-clause-asked_hosts :
    goal.returns-in_ok-accepted-in-Check-clause-asked_hosts
returns-in_ok-accepted-in-Check-clause-asked_hosts g c = inl refl

pub returns-in_ok-planned-in-Plan-clause-asked_hosts :
    goal.returns-in_ok-planned-in-Plan-clause-asked_hosts
returns-in_ok-planned-in-Plan-clause-asked_hosts g c = inl refl

pub returns-in-Direct-clause-asked_hosts :
    goal.returns-in-Direct-clause-asked_hosts
returns-in-Direct-clause-asked_hosts g c = inl refl

pub returns-in-Direct-clause-asked : goal.returns-in-Direct-clause-asked
returns-in-Direct-clause-asked g c = rw c.in-Direct.is c.meant.ensures.asked
