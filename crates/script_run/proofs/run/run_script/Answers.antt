use denote.Param.Send.{sendable}
use Rattle.std.proofs.Common.{◌∙◌, ap, arith, map, sym}
use Rattle.std.proofs.lemmas.Result.{err_from_is_err_and}
use Rattle.run_sizes.proofs.of_build_law.SourceLists.{as_many_inputs}
use Rattle.run_sizes.specs.of_build_law.Worlds.{script_world}
use Rattle.crew.proofs.Accounts.{all_grew_not}
use Rattle.flume_value.specs.Bag.{bag_of}
use Rattle.script_functions.proofs.Sharing.{functions_sync}
use Rattle.plan_phases.proofs.Asking.{asked_none}
use Rattle.plan_phases.specs.Phases.{with_tasks}
use Rattle.script_run.specs.Runs.{phases_of}
use Rattle.script_run.proofs.Running.{asked_as, executed, faulted, phases_asked, typed_run}
use Rattle.script_run.proofs.run.run_script.Goals as goal

pub returns-in_err-members-clause-grew : goal.returns-in_err-members-clause-grew
returns-in_err-members-clause-grew g c = all_grew_not _

pub returns-in_err-members-clause-asked : goal.returns-in_err-members-clause-asked
returns-in_err-members-clause-asked g c =
    asked_none c.args.settings.now.tries c.args.settings.now.drill
    (with_tasks (phases_of c.args.settings.now c.args.program.now.script c.args.inputs
    c.args.plan.now)) _

pub execute-requires-sync-F : goal.execute-requires-sync-F
execute-requires-sync-F g c κs within = search (sendable, functions_sync) depth 20

pub execute-requires-clause-typed : goal.execute-requires-clause-typed
execute-requires-clause-typed g c κs within =
    let script = c.args.program.now.script in
    rw (c.new-functions.ensures, c.into_vec-lists.ensures)
    (typed_run script c.args.inputs c.args.plan.now
    (c.world_law.ensures script c.args.inputs c.requires.well_formed c.requires.inputs)
    c.requires.plan.typed)

pub execute-requires-clause-sources : goal.execute-requires-clause-sources
execute-requires-clause-sources g c κs within =
    rw c.into_vec-lists.ensures
    (as_many_inputs c.args.program.now.script c.args.inputs c.requires.inputs
    ∙ sym c.requires.plan.sources)

pub execute-requires-clause-some : goal.execute-requires-clause-some
execute-requires-clause-some g c κs within =
    let count = c.requires.hosts in
    let some = c.workers_law.ensures.some in
    omega arith

pub execute-requires-clause-most : goal.execute-requires-clause-most
execute-requires-clause-most g c κs within =
    let count = c.requires.hosts in
    let most = c.workers_law.ensures.most in
    omega arith

pub returns-in_err-done-clause-fault : goal.returns-in_err-done-clause-fault
returns-in_err-done-clause-fault g c =
    let script = c.args.program.now.script in
    let m =
    c.meaning_law.ensures.well_formed script c.args.inputs c.requires.well_formed
    c.requires.inputs in
    let end = c.from_residual-in_err-done in
    let p = err_from_is_err_and end.result end.ensures.1 in
    rw (p.1, p.2)
    (faulted script c.args.inputs c.args.settings.now c.args.plan.now _ _ m.0 m.1
    (λ trap h. c.plan_law.ensures.among (script_world script c.args.inputs) script
    c.args.plan.now m.0 trap
    (c.means_law.ensures.well_formed script c.args.inputs m.0 c.requires.well_formed
    c.requires.short m.1)
    (c.requires.plan.same (script_world script c.args.inputs)) h)
    c.in_err-done.field-0.0
    (rw (c.new-functions.ensures, c.into_vec-lists.ensures) at c.in_err-done.ensures.fault))

pub returns-clause-ran : goal.returns-clause-ran
returns-clause-ran g c =
    let script = c.args.program.now.script in
    let plan = c.args.plan.now in
    let w = script_world script c.args.inputs in
    let m =
    c.meaning_law.ensures.well_formed script c.args.inputs c.requires.well_formed
    c.requires.inputs in
    let is =
    c.means_law.ensures.well_formed script c.args.inputs m.0 c.requires.well_formed
    c.requires.short m.1 in
    let same = c.requires.plan.same w in
    let done =
    executed script c.args.inputs c.args.settings.now plan _ _ c.node_count-nodes.result
    c.in_ok-done.done
    (rw (c.new-functions.ensures, c.into_vec-lists.ensures) at c.in_ok-done.ensures.done) in
    record {
      made = m.0;
      means = m.1;
      through = c.plan_law.ensures.through w script plan m.0 is same done.calm;
      written =
          c.plan_law.ensures.written w script plan m.0 c.in_ok-all_sorted.field-0.items is same
          (c.in_ok-all_sorted.ensures ∙ (ap (map bag_of) c.into_vec.ensures ∙ done.outputs));
      sizes =
          (rw (c.deref.ensures.value, c.as_slice-2.ensures) at c.in_ok-sizes.ensures) c.args.inputs
          m.0 (rw c.as_slice.ensures at c.in_ok-members.ensures) m.1
          (c.plan_law.ensures.counts w script plan m.0 c.in_ok-done.done.counts is same
          (λ i below. done.counts i (rw c.node_count-nodes.ensures below)));
      ran = rw c.into_vec-2.ensures done.ran;
      asked = asked_as script c.args.inputs c.args.settings.now plan _ _ _ _ c.into_vec-2.ensures
          done.asked;
    }

-- ---- what hosts were asked for

pub returns-in_err-done-clause-asked : goal.returns-in_err-done-clause-asked
returns-in_err-done-clause-asked g c =
    phases_asked c.args.program.now.script c.args.inputs c.args.settings.now c.args.plan.now _ _
    (rw (c.new-functions.ensures, c.into_vec-lists.ensures) at c.in_err-done.ensures.asked)

pub returns-in_err-sizes-clause-asked : goal.returns-in_err-sizes-clause-asked
returns-in_err-sizes-clause-asked g c =
    phases_asked c.args.program.now.script c.args.inputs c.args.settings.now c.args.plan.now _ _
    (rw (c.new-functions.ensures, c.into_vec-lists.ensures) at c.in_ok-done.ensures.asked)

pub returns-in_err-all_sorted-clause-asked : goal.returns-in_err-all_sorted-clause-asked
returns-in_err-all_sorted-clause-asked g c =
    phases_asked c.args.program.now.script c.args.inputs c.args.settings.now c.args.plan.now _ _
    (rw (c.new-functions.ensures, c.into_vec-lists.ensures) at c.in_ok-done.ensures.asked)

pub returns-clause-asked : goal.returns-clause-asked
returns-clause-asked g c =
    phases_asked c.args.program.now.script c.args.inputs c.args.settings.now c.args.plan.now _ _
    (rw (c.new-functions.ensures, c.into_vec-lists.ensures) at c.in_ok-done.ensures.asked)
