use Rattle.std.proofs.Common.{◌≤◌, ◌∙◌, List, inl, length, map, refl, subst, sym}
use Rattle.std.specs.Prelude.{Err}
use Rattle.flume_value.specs.declared.value.Value.{Value}
use Rattle.plan_phases.specs.declared.fault.RunFault.{RunFault}
use Rattle.made_course.proofs.Runs.{first_sums, some_list}
use Rattle.made_course.specs.inner.Stops.{ComesTo}
use Rattle.made_course.proofs.course.prepare.Goals as goal

pub returns-in_err-program-clause-asked : goal.returns-in_err-program-clause-asked
returns-in_err-program-clause-asked g c = inl refl

pub first_of-sums-requires : goal.first_of-sums-requires
first_of-sums-requires g c =
    subst (λ (l : List (List Value)). 1 ≤ length l) (sym c.outputs_of.ensures)
    (some_list c.args.workload c.in-Ok.ran.outputs.items c.in-Ok.ensures.comes.0)

pub written_out-written-requires-clause-sums : goal.written_out-written-requires-clause-sums
written_out-written-requires-clause-sums g c =
    first_sums c.args.workload c.outputs_of.result.items c.first_of-sums.result
    (c.outputs_of.ensures ∙ c.in-Ok.ensures.comes.0) c.first_of-sums.ensures

pub unreachable-requires : goal.unreachable-requires
unreachable-requires g c =
    subst
    (λ (f : RunFault).
    ComesTo c.args.workload (map g.H.Host.account c.args.hosts.now)
    (map g.H.Host.account c.sums_run.new.hosts) (Err f))
    c.in-Trap.is c.in-Err.ensures.comes

pub returns-in_ok-out-in-Ok-clause-files : goal.returns-in_ok-out-in-Ok-clause-files
returns-in_ok-out-in-Ok-clause-files g c =
    rw c.in_ok-out-in-Ok.was at c.written_out-written.ensures.files

pub returns-in_ok-out-in-Ok-clause-line : goal.returns-in_ok-out-in-Ok-clause-line
returns-in_ok-out-in-Ok-clause-line g c =
    rw c.in_ok-out-in-Ok.was at c.written_out-written.ensures.line
