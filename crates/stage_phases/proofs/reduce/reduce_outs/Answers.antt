use Rattle.std.proofs.Common.{◌∙◌, refl, sym}
use Rattle.std.proofs.lemmas.Result.{IfOk-weaker}
use Rattle.crew.proofs.Accounts.{all_grew_not}
use Rattle.stage_phases.specs.Runs.{split_of}
use Rattle.plan_phases.proofs.Joining.{none_run}
use Rattle.reduce_part.proofs.CrossLemmas.{ReduceTasks-sync}
use Rattle.stage_phases.proofs.Reducing.{are_reduce_outs, is_reduce_phase, no_groupings, no_outs, one_phase, some_groupings}
use Rattle.stage_phases.specs.inner.Tasks.{reducing_of}
use denote.Exit.{no}
use denote.Param.Send.{arg_sync, param_sync}
use denote.Ref.{NamedLft}
use mir.Syntax.{named}
use Rattle.stage_phases.proofs.reduce.reduce_outs.Goals as goal

-- ---- without grouping channels

pub returns-then-not-has_groupings-clause-grew : goal.returns-then-not-has_groupings-clause-grew
returns-then-not-has_groupings-clause-grew g c = all_grew_not _

pub returns-then-not-has_groupings-clause-outs : goal.returns-then-not-has_groupings-clause-outs
returns-then-not-has_groupings-clause-outs g c w e t made =
    let stage = c.args.stage.now in
    let none = no_groupings stage.outputs
    (sym c.has_groupings.ensures ∙ c.if-not-has_groupings.true) in
    no_outs _ _ t stage _ none c.new.ensures.items

pub returns-then-not-has_groupings-clause-ended : goal.returns-then-not-has_groupings-clause-ended
returns-then-not-has_groupings-clause-ended g c w e t made =
    let stage = c.args.stage.now in
    let none = no_groupings stage.outputs
    (sym c.has_groupings.ensures ∙ c.if-not-has_groupings.true) in
    rw none (none_run _ _ _ _ _)

-- ---- with some

pub reduce_tasks-tasks-requires-clause-some : goal.reduce_tasks-tasks-requires-clause-some
reduce_tasks-tasks-requires-clause-some g c =
    some_groupings c.args.stage.now.outputs
    (sym c.has_groupings.ensures ∙ c.if-not-has_groupings.false)

pub outs_of-requires-sync-T : goal.outs_of-requires-sync-T
outs_of-requires-sync-T g c κs within =
    let a : NamedLft = record { mir = named 8; lft = κs.1.1.1.1.1.1.1.1.0 } in
    param_sync _ _ (arg_sync _ no _ (ReduceTasks-sync a _ _ c.type_bounds.sync-F))

pub returns-clause-outs : goal.returns-clause-outs
returns-clause-outs g c w e t made =
    let s = c.args.inputs.now.settings.now in
    let reducing = reducing_of c.args.inputs.now.functions.now c.args.stage.now c.args.maps.now s in
    let values = rw c.reduce_tasks-tasks.ensures.tasks at c.outs_of.ensures.values in
    IfOk-weaker c.outs_of.result _ _
    (λ outs v. are_reduce_outs reducing w _ e s.shards t _ _ c.requires.ready
    c.reducing_law.ensures.first made outs.items v)
    values

pub returns-clause-ended : goal.returns-clause-ended
returns-clause-ended g c w e t made =
    let s = c.args.inputs.now.settings.now in
    let reducing = reducing_of c.args.inputs.now.functions.now c.args.stage.now c.args.maps.now s in
    let some = some_groupings c.args.stage.now.outputs
    (sym c.has_groupings.ensures ∙ c.if-not-has_groupings.false) in
    let ended = rw (c.reduce_tasks-tasks.ensures.tasks, c.phase-phase.ensures.settings)
    at c.outs_of.ensures.ended in
    rw (one_phase w c.args.number (split_of s) t c.args.stage.now _ some)
    (ended w _ (is_reduce_phase reducing w _ e s.shards t _ _ c.requires.ready
    c.reducing_law.ensures.first made c.args.number _ refl refl
    (λ lifted i p. c.reducing_law.ensures.count lifted c.args.maps.now i p)))
