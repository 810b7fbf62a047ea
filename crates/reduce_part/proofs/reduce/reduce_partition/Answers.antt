use Rattle.forest_run.proofs.Asking.{asked_at}
use Rattle.forest_steps.specs.Functions.{world_of}
use Rattle.reduce_part.proofs.Gathering.{all_reduced, can_run, count_gathered, count_merged, groups_reduced, merged_has_shape, pairs_gathered, safe_groups, shape_gathered}
use Rattle.reduce_part.proofs.reduce.reduce_partition.Goals as goal

-- ---- a channel that is not lifted

pub group_gathered-requires : goal.group_gathered-requires
group_gathered-requires g c =
    pairs_gathered c.args.outs.now c.args.channel c.args.partition c.args.grouping.now
    c.in-None-default.is-0 (world_of (g.F.Functions.called c.args.functions.now))
    (g.F.Functions.can_call c.args.functions.now) c.requires.ready

pub reduce_groups-requires-clause-safe : goal.reduce_groups-requires-clause-safe
reduce_groups-requires-clause-safe g c =
    safe_groups c.args.outs.now c.args.channel c.args.partition c.args.grouping.now
    c.in-None-default.is-0 (world_of (g.F.Functions.called c.args.functions.now))
    (g.F.Functions.can_call c.args.functions.now) c.requires.ready
    c.in_ok-groups-in-None-default.groups.items c.in_ok-groups-in-None-default.ensures

pub returns-in_ok-groups-in-None-default-clause-value :
    goal.returns-in_ok-groups-in-None-default-clause-value
returns-in_ok-groups-in-None-default-clause-value g c =
    groups_reduced c.args.outs.now c.args.channel c.args.partition c.args.grouping.now
    c.in-None-default.is-0 c.in_ok-groups-in-None-default.groups.items
    c.in_ok-groups-in-None-default.ensures
    (g.F.Functions.called c.args.functions.now) c.reduce_groups.result
    c.reduce_groups.ensures.value

pub returns-in_ok-groups-in-None-default-clause-asked :
    goal.returns-in_ok-groups-in-None-default-clause-asked
returns-in_ok-groups-in-None-default-clause-asked g c pairs gathered =
    asked_at _ _ _ _ _ c.reduce_groups.result
    (count_gathered c.args.outs.now c.args.channel c.args.partition c.args.grouping.now
    c.in-None-default.is-0 c.in_ok-groups-in-None-default.groups.items
    c.in_ok-groups-in-None-default.ensures pairs gathered) c.reduce_groups.ensures.asked

-- ---- a lifted channel

pub merge_gathered-requires : goal.merge_gathered-requires
merge_gathered-requires g c =
    shape_gathered (world_of (g.F.Functions.called c.args.functions.now))
    (g.F.Functions.can_call c.args.functions.now) c.args.outs.now c.args.channel
    c.args.partition c.args.grouping.now c.in-Some-Some.comb c.in-Some-Some.is-0 c.requires.ready

pub reduce_merged-requires-clause-shape : goal.reduce_merged-requires-clause-shape
reduce_merged-requires-clause-shape g c =
    merged_has_shape (g.F.Functions.called c.args.functions.now) _ _ _ _ _ _ _ c.in-Some-Some.is-0
    c.in-Some-Some.is-1 _ c.requires.ready c.in_ok-merged-in-Some-Some.ensures

pub reduce_merged-requires-clause-ready : goal.reduce_merged-requires-clause-ready
reduce_merged-requires-clause-ready g c =
    can_run (g.F.Functions.called c.args.functions.now) _ _ _ _ _ _ _ c.in-Some-Some.is-0
    c.in-Some-Some.is-1 _ c.requires.ready c.in_ok-merged-in-Some-Some.ensures

pub returns-in_ok-merged-in-Some-Some-clause-value :
    goal.returns-in_ok-merged-in-Some-Some-clause-value
returns-in_ok-merged-in-Some-Some-clause-value g c =
    all_reduced (g.F.Functions.called c.args.functions.now) _ _ _ _ _ _ _ c.in-Some-Some.is-0
    c.in-Some-Some.is-1 _ c.requires.ready c.in_ok-merged-in-Some-Some.ensures
    c.reduce_merged.result c.reduce_merged.ensures.value

pub returns-in_ok-merged-in-Some-Some-clause-asked :
    goal.returns-in_ok-merged-in-Some-Some-clause-asked
returns-in_ok-merged-in-Some-Some-clause-asked g c pairs gathered =
    asked_at _ _ _ _ _ c.reduce_merged.result
    (count_merged (g.F.Functions.called c.args.functions.now) _ _ _ _ _ _ _ c.in-Some-Some.is-0
    c.in-Some-Some.is-1 _ c.requires.ready c.in_ok-merged-in-Some-Some.ensures pairs gathered)
    c.reduce_merged.ensures.asked
