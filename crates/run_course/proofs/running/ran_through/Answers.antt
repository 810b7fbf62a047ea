use Rattle.std.proofs.Common.{List, map, subst}
use Rattle.outside.specs.Accounts.{Account}
use Rattle.plan_phases.specs.declared.fault.RunFault.{RunFault}
use Rattle.run_course.specs.Lent.{lent}
use Rattle.script_run.specs.Runs.{IsRunFault}
use Rattle.run_course.proofs.RunLemmas.{within}
use Rattle.run_course.proofs.running.ran_through.Goals as goal

pub trapped-requires : goal.trapped-requires
trapped-requires g c =
    let s = c.args.settings.now in
    let script = c.args.program.now.script in
    let olds : List Account
    = lent s (map g.H.Host.account c.args.hosts.now) in
    let news : List Account
    = lent s (map g.H.Host.account c.ran_on.new.hosts) in
    record {
      within = rw c.as_program-held.ensures.is
          (within s script c.args.inputs c.args.plan.now olds news c.in-Trap.trap
          (subst
          (λ (f : RunFault).
          IsRunFault s script c.args.inputs c.args.plan.now olds news f)
          c.in-Trap.is c.in-Err.ensures.fault));
    }
