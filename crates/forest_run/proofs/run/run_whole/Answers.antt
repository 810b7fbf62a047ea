use Rattle.std.proofs.Common.{◌≡◌, ◌+◌, ℕ, length, arith, subst}
use Rattle.crew.specs.Drills.{attempt_at}
use Rattle.forest_courses.proofs.Coursing.{whole_course}
use Rattle.forest_run.specs.inner.Asking.{LetThrough}
use Rattle.forest_run.proofs.Asking.{let_none}
use Rattle.forest_run.proofs.run.run_whole.Goals as goal

pub returns-in-Ok-clause-value : goal.returns-in-Ok-clause-value
returns-in-Ok-clause-value g c w =
    whole_course w c.args.elements.items c.in_ok-given.given
    c.in_ok-given.ensures.lists c.in_ok-given.ensures.counts

pub returns-in-Ok-clause-asked : goal.returns-in-Ok-clause-asked
returns-in-Ok-clause-asked g c =
    let e = attempt_at c.args.spot.now c.args.task in
    let a = g.H.Host.account c.args.host.now in
    let b = g.H.Host.account c.ask_all.new.host in
    let many : c.len-count.result ≡ length c.args.elements.items = omega (
      arith,
      c.len-count.ensures,
      c.args.elements.ok.0,
    ) in
    subst (λ (n : ℕ). LetThrough e (n + 1) a b) many (c.in-Ok.ensures.all a (let_none e a))
