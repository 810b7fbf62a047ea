use Rattle.std.proofs.Common.{ℕ, ap, length, subst}
use Rattle.std.proofs.lemmas.Result.{err_from_is_err_and}
use Rattle.crew.specs.Attempts.{Ran, StoppedDown}
use Rattle.crew.specs.Drills.{attempt_at}
use Rattle.map_shard.proofs.Attempting.{early_behind}
use Rattle.map_shard.proofs.tasks.MapTasksTasks.attempt.Goals as goal

pub returns-in-Err-clause-ran : goal.returns-in-Err-clause-ran
returns-in-Err-clause-ran g c =
    let e = attempt_at c.args.at.now c.args.task in
    let a = g.H.Host.account c.args.host.now in
    let b = g.H.Host.account c.ask_for.new.host in
    subst (λ (n : ℕ). StoppedDown e n a b) (ap length c.elements_of.ensures)
    c.in-Err.ensures.down

pub returns-clause-ran : goal.returns-clause-ran
returns-clause-ran g c =
    let e = attempt_at c.args.at.now c.args.task in
    let a = g.H.Host.account c.args.host.now in
    let b = g.H.Host.account c.ask_for.new.host in
    subst (λ (n : ℕ). Ran e n a b) (ap length c.elements_of.ensures) c.in-Ok.ensures.all

pub returns-in_err-out-clause-early : goal.returns-in_err-out-clause-early
returns-in_err-out-clause-early g c =
    let e = attempt_at c.args.at.now c.args.task in
    let a = g.H.Host.account c.args.host.now in
    let b = g.H.Host.account c.ask_for.new.host in
    let end = c.from_residual in
    let p = err_from_is_err_and end.result end.ensures.1 in
    rw p.1
    (early_behind e _ a b
    (subst (λ (n : ℕ). Ran e n a b) (ap length c.elements_of.ensures) c.in-Ok.ensures.all))
