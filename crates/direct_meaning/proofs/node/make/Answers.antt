use Rattle.std.proofs.Common.{ℕ, ◌+◌, ◌++◌, ◌∷◌, ◌∙◌, [], List, Some, ap, false, refl, subst, sym}
use Rattle.std.specs.List.{flat_map, list_any}
use Rattle.std.specs.Vec.Iter.{into_iter_items}
use Rattle.std.proofs.lemmas.Result.{IfOk-weaker}
use Rattle.flume_value.specs.Bag.{bag_of}
use Rattle.flume_collection.specs.declared.trap.Trap.{Trap}
use Rattle.script_program.specs.declared.made.Made.TheVariants as made
use Rattle.direct_meaning.proofs.ArmLemmas.{combine_goes, combine_read, count_goes, count_read, do_goes, do_read, flatten_goes, group_goes, group_read, join_goes, left_read, right_read, rows_go, top_goes, top_read}
use Rattle.direct_meaning.proofs.HereLemmas.{here_at, rows_come}
use Rattle.direct_meaning.proofs.ObjectArms.{beside_goes, beside_read, beside_typed, operate_goes, operate_read, operate_typed, whole_goes, whole_read, whole_suits}
use Rattle.direct_meaning.proofs.ReadLemmas.{any_ascending, called_read, function_within, groups_read, pairs_read, table_ascending}
use Rattle.direct_meaning.proofs.ResultLemmas.{if_all, if_both}
use Rattle.direct_meaning.specs.Calls.{answer_of}
use Rattle.direct_meaning.specs.inner.Kept.{is_trapped, kept_in, members_of}
use Rattle.direct_meaning.specs.inner.Objects.{IsOperated, values_in}
use Rattle.direct_meaning.specs.inner.Stands.{Stands}
use Rattle.direct_meaning.proofs.node.make.Goals as goal

pub rows-requires : goal.rows-requires
rows-requires c =
    let how = made.Input c.in-Input.file c.in-Input.columns in
    let here = here_at c.args.program.now.known.types c.node.result.now how
    c.requires.well_formed c.requires.stands.1 c.requires.needed c.node.ensures.is c.in-Input.is in
    rows_come how here (record { type = here.node.entry.1.type; is_object = false }) refl

pub returns-in-Input : goal.returns-in-Input
returns-in-Input c rows stands =
    let here = here_at c.args.program.now.known.types c.node.result.now
    (made.Input c.in-Input.file c.in-Input.columns) c.requires.well_formed stands c.requires.needed
    c.node.ensures.is c.in-Input.is in
    if_both c.rows.result _ _ _
    (λ kept members trapped.
    rows_go here members.0 (into_iter_items c.rows.new.inputs) members.1 refl refl kept members.2
    trapped)
    c.rows.ensures.members c.rows.ensures.trapped

pub rows-requires-in-Saved : goal.rows-requires-in-Saved
rows-requires-in-Saved c =
    let how = made.Saved c.in-Saved.is_object c.in-Saved.call in
    let here = here_at c.args.program.now.known.types c.node.result.now how
    c.requires.well_formed c.requires.stands.1 c.requires.needed c.node.ensures.is c.in-Saved.is in
    rows_come how here
    (record { type = here.node.entry.1.type; is_object = c.in-Saved.is_object }) refl

pub returns-in-Saved : goal.returns-in-Saved
returns-in-Saved c rows stands =
    let here = here_at c.args.program.now.known.types c.node.result.now
    (made.Saved c.in-Saved.is_object c.in-Saved.call) c.requires.well_formed stands
    c.requires.needed c.node.ensures.is c.in-Saved.is in
    if_both c.rows-in-Saved.result _ _ _
    (λ kept members trapped.
    rows_go here members.0 (into_iter_items c.rows-in-Saved.new.inputs) members.1 refl refl kept
    members.2 trapped)
    c.rows-in-Saved.ensures.members c.rows-in-Saved.ensures.trapped

pub kept_at-requires : goal.kept_at-requires
kept_at-requires c =
    let here = here_at c.args.program.now.known.types c.node.result.now
    (made.Group c.in-Group.source) c.requires.well_formed c.requires.stands.1
    c.requires.needed c.node.ensures.is c.in-Group.is in
    let it = (group_read c.in-Group.source here).source in (it.held, it.at)

pub grouped-requires-clause-pairs : goal.grouped-requires-clause-pairs
grouped-requires-clause-pairs c =
    let here = here_at c.args.program.now.known.types c.node.result.now
    (made.Group c.in-Group.source) c.requires.well_formed c.requires.stands.1
    c.requires.needed c.node.ensures.is c.in-Group.is in
    pairs_read c.args.table.now here.stands.table c.in-Group.source
    c.kept_at.result.now c.kept_at.ensures (group_read c.in-Group.source here)

pub grouped-requires-clause-ascending : goal.grouped-requires-clause-ascending
grouped-requires-clause-ascending c =
    let here = here_at c.args.program.now.known.types c.node.result.now
    (made.Group c.in-Group.source) c.requires.well_formed c.requires.stands.1
    c.requires.needed c.node.ensures.is c.in-Group.is in
    table_ascending c.args.table.now here.stands.table c.in-Group.source
    c.kept_at.result.now c.kept_at.ensures (group_read c.in-Group.source here)

pub returns-in-Group : goal.returns-in-Group
returns-in-Group c rows stands =
    let here = here_at c.args.program.now.known.types c.node.result.now
    (made.Group c.in-Group.source) c.requires.well_formed stands c.requires.needed
    c.node.ensures.is c.in-Group.is in
    if_both c.grouped.result _ _ _
    (group_goes c.in-Group.source here c.kept_at.result.now c.kept_at.ensures)
    c.grouped.ensures.members c.grouped.ensures.trapped

pub kept_at-requires-in-Combine : goal.kept_at-requires-in-Combine
kept_at-requires-in-Combine c =
    let here = here_at c.args.program.now.known.types c.node.result.now
    (made.Combine c.in-Combine.source c.in-Combine.by) c.requires.well_formed c.requires.stands.1
    c.requires.needed c.node.ensures.is c.in-Combine.is in
    let it = (combine_read c.in-Combine.source c.in-Combine.by here).source in (it.held, it.at)

pub combined-requires : goal.combined-requires
combined-requires c =
    let here = here_at c.args.program.now.known.types c.node.result.now
    (made.Combine c.in-Combine.source c.in-Combine.by) c.requires.well_formed c.requires.stands.1
    c.requires.needed c.node.ensures.is c.in-Combine.is in
    groups_read c.args.table.now here.stands.table c.in-Combine.source
    c.kept_at-in-Combine.result.now c.kept_at-in-Combine.ensures c.in-Combine.by
    (combine_read c.in-Combine.source c.in-Combine.by here)

pub returns-in-Combine : goal.returns-in-Combine
returns-in-Combine c rows stands =
    let here = here_at c.args.program.now.known.types c.node.result.now
    (made.Combine c.in-Combine.source c.in-Combine.by) c.requires.well_formed stands
    c.requires.needed c.node.ensures.is c.in-Combine.is in
    let held = c.kept_at-in-Combine.result.now in
    if_all c.combined.result _ _ _ _
    (λ kept members traps trapped.
    subst
    (λ (l : List Trap).
    Stands c.args.program.now.script rows (c.args.number + 1)
    (into_iter_items c.args.inputs.now) (c.args.table.now ++ Some kept ∷ []) l)
    (sym traps)
    (combine_goes c.in-Combine.source c.in-Combine.by here held c.kept_at-in-Combine.ensures kept
    members trapped))
    c.combined.ensures.members c.combined.ensures.traps c.combined.ensures.trapped

pub returns-in-Flatten : goal.returns-in-Flatten
returns-in-Flatten c rows stands =
    let here = here_at c.args.program.now.known.types c.node.result.now
    (made.Flatten c.in-Flatten.sources) c.requires.well_formed stands c.requires.needed
    c.node.ensures.is c.in-Flatten.is in
    if_both c.together.result _ _ _
    (λ kept members trapped.
    flatten_goes c.in-Flatten.sources here kept
    (members ∙ ap (λ (l : List ℕ).
    bag_of (flat_map (λ source. members_of (kept_in c.args.table.now source)) l))
    c.as_slice.ensures)
    (trapped ∙ ap (λ (l : List ℕ).
    list_any (λ source. is_trapped (kept_in c.args.table.now source)) l) c.as_slice.ensures))
    c.together.ensures.members c.together.ensures.trapped

pub kept_at-requires-in-Count : goal.kept_at-requires-in-Count
kept_at-requires-in-Count c =
    let here = here_at c.args.program.now.known.types c.node.result.now
    (made.Count c.in-Count.source) c.requires.well_formed c.requires.stands.1
    c.requires.needed c.node.ensures.is c.in-Count.is in
    let it = (count_read c.in-Count.source here).source in (it.held, it.at)

pub counted-requires : goal.counted-requires
counted-requires c =
    let here = here_at c.args.program.now.known.types c.node.result.now
    (made.Count c.in-Count.source) c.requires.well_formed c.requires.stands.1
    c.requires.needed c.node.ensures.is c.in-Count.is in
    any_ascending c.args.table.now here.stands.table c.in-Count.source
    c.kept_at-in-Count.result.now c.kept_at-in-Count.ensures (count_read c.in-Count.source here)

pub returns-in-Count : goal.returns-in-Count
returns-in-Count c rows stands =
    let here = here_at c.args.program.now.known.types c.node.result.now
    (made.Count c.in-Count.source) c.requires.well_formed stands c.requires.needed
    c.node.ensures.is c.in-Count.is in
    if_both c.counted.result _ _ _
    (λ kept members trapped.
    count_goes c.in-Count.source here c.kept_at-in-Count.result.now c.kept_at-in-Count.ensures kept
    members trapped c.counted.ensures.through)
    c.counted.ensures.members c.counted.ensures.trapped

pub kept_at-requires-in-Join : goal.kept_at-requires-in-Join
kept_at-requires-in-Join c =
    let here = here_at c.args.program.now.known.types c.node.result.now
    (made.Join c.in-Join.left c.in-Join.right) c.requires.well_formed c.requires.stands.1
    c.requires.needed c.node.ensures.is c.in-Join.is in
    let it = (left_read c.in-Join.left c.in-Join.right here).source in (it.held, it.at)

pub kept_at-requires-in-Join-2 : goal.kept_at-requires-in-Join-2
kept_at-requires-in-Join-2 c =
    let here = here_at c.args.program.now.known.types c.node.result.now
    (made.Join c.in-Join.left c.in-Join.right) c.requires.well_formed c.requires.stands.1
    c.requires.needed c.node.ensures.is c.in-Join.is in
    let it = (right_read c.in-Join.left c.in-Join.right here).source in (it.held, it.at)

pub joined-requires-clause-left_pairs : goal.joined-requires-clause-left_pairs
joined-requires-clause-left_pairs c =
    let here = here_at c.args.program.now.known.types c.node.result.now
    (made.Join c.in-Join.left c.in-Join.right) c.requires.well_formed c.requires.stands.1
    c.requires.needed c.node.ensures.is c.in-Join.is in
    pairs_read c.args.table.now here.stands.table c.in-Join.left c.kept_at-in-Join.result.now
    c.kept_at-in-Join.ensures (left_read c.in-Join.left c.in-Join.right here)

pub joined-requires-clause-left_ascending : goal.joined-requires-clause-left_ascending
joined-requires-clause-left_ascending c =
    let here = here_at c.args.program.now.known.types c.node.result.now
    (made.Join c.in-Join.left c.in-Join.right) c.requires.well_formed c.requires.stands.1
    c.requires.needed c.node.ensures.is c.in-Join.is in
    table_ascending c.args.table.now here.stands.table c.in-Join.left
    c.kept_at-in-Join.result.now c.kept_at-in-Join.ensures
    (left_read c.in-Join.left c.in-Join.right here)

pub joined-requires-clause-right_pairs : goal.joined-requires-clause-right_pairs
joined-requires-clause-right_pairs c =
    let here = here_at c.args.program.now.known.types c.node.result.now
    (made.Join c.in-Join.left c.in-Join.right) c.requires.well_formed c.requires.stands.1
    c.requires.needed c.node.ensures.is c.in-Join.is in
    pairs_read c.args.table.now here.stands.table c.in-Join.right c.kept_at-in-Join-2.result.now
    c.kept_at-in-Join-2.ensures (right_read c.in-Join.left c.in-Join.right here)

pub joined-requires-clause-right_ascending : goal.joined-requires-clause-right_ascending
joined-requires-clause-right_ascending c =
    let here = here_at c.args.program.now.known.types c.node.result.now
    (made.Join c.in-Join.left c.in-Join.right) c.requires.well_formed c.requires.stands.1
    c.requires.needed c.node.ensures.is c.in-Join.is in
    table_ascending c.args.table.now here.stands.table c.in-Join.right
    c.kept_at-in-Join-2.result.now c.kept_at-in-Join-2.ensures
    (right_read c.in-Join.left c.in-Join.right here)

pub returns-in-Join : goal.returns-in-Join
returns-in-Join c rows stands =
    let here = here_at c.args.program.now.known.types c.node.result.now
    (made.Join c.in-Join.left c.in-Join.right) c.requires.well_formed stands c.requires.needed
    c.node.ensures.is c.in-Join.is in
    if_both c.joined.result _ _ _
    (join_goes c.in-Join.left c.in-Join.right here c.kept_at-in-Join.result.now
    c.kept_at-in-Join-2.result.now c.kept_at-in-Join.ensures c.kept_at-in-Join-2.ensures)
    c.joined.ensures.members c.joined.ensures.trapped

pub kept_at-requires-in-Top : goal.kept_at-requires-in-Top
kept_at-requires-in-Top c =
    let here = here_at c.args.program.now.known.types c.node.result.now
    (made.Top c.in-Top.number c.in-Top.source) c.requires.well_formed c.requires.stands.1
    c.requires.needed c.node.ensures.is c.in-Top.is in
    let it = (top_read c.in-Top.number c.in-Top.source here).source in (it.held, it.at)

pub topped-requires : goal.topped-requires
topped-requires c =
    let here = here_at c.args.program.now.known.types c.node.result.now
    (made.Top c.in-Top.number c.in-Top.source) c.requires.well_formed c.requires.stands.1
    c.requires.needed c.node.ensures.is c.in-Top.is in
    any_ascending c.args.table.now here.stands.table c.in-Top.source
    c.kept_at-in-Top.result.now c.kept_at-in-Top.ensures
    (top_read c.in-Top.number c.in-Top.source here)

pub returns-in-Top : goal.returns-in-Top
returns-in-Top c rows stands =
    let here = here_at c.args.program.now.known.types c.node.result.now
    (made.Top c.in-Top.number c.in-Top.source) c.requires.well_formed stands c.requires.needed
    c.node.ensures.is c.in-Top.is in
    if_both c.topped.result _ _ _
    (top_goes c.in-Top.number c.in-Top.source here c.kept_at-in-Top.result.now
    c.kept_at-in-Top.ensures)
    c.topped.ensures.members c.topped.ensures.trapped

pub kept_at-source-requires : goal.kept_at-source-requires
kept_at-source-requires c =
    let here = here_at c.args.program.now.known.types c.node.result.now
    (made.Do c.in-Do.source c.in-Do.function c.in-Do.output) c.requires.well_formed
    c.requires.stands.1 c.requires.needed c.node.ensures.is c.in-Do.is in
    let it = (do_read c.in-Do.source c.in-Do.function c.in-Do.output here).source in
    (it.held, it.at)

pub done-requires-clause-below : goal.done-requires-clause-below
done-requires-clause-below c =
    let here = here_at c.args.program.now.known.types c.node.result.now
    (made.Do c.in-Do.source c.in-Do.function c.in-Do.output) c.requires.well_formed
    c.requires.stands.1 c.requires.needed c.node.ensures.is c.in-Do.is in
    let it = do_read c.in-Do.source c.in-Do.function c.in-Do.output here in
    function_within c.args.program.now.script.functions c.in-Do.function it.function it.at

pub done-requires-clause-typed : goal.done-requires-clause-typed
done-requires-clause-typed c =
    let here = here_at c.args.program.now.known.types c.node.result.now
    (made.Do c.in-Do.source c.in-Do.function c.in-Do.output) c.requires.well_formed
    c.requires.stands.1 c.requires.needed c.node.ensures.is c.in-Do.is in
    called_read c.args.table.now here.stands.table c.in-Do.source c.kept_at-source.result.now
    c.kept_at-source.ensures c.args.program.now.script c.in-Do.function c.in-Do.output
    (do_read c.in-Do.source c.in-Do.function c.in-Do.output here)

pub returns-in-Do : goal.returns-in-Do
returns-in-Do c rows stands =
    let here = here_at c.args.program.now.known.types c.node.result.now
    (made.Do c.in-Do.source c.in-Do.function c.in-Do.output) c.requires.well_formed stands
    c.requires.needed c.node.ensures.is c.in-Do.is in
    let it = do_read c.in-Do.source c.in-Do.function c.in-Do.output here in
    IfOk-weaker c.done.result _ _
    (λ kept done.
    do_goes c.in-Do.source c.in-Do.function c.in-Do.output here c.kept_at-source.result.now
    c.kept_at-source.ensures kept c.done.new.traps.items done)
    (c.done.ensures it.function it.at)

pub kept_at-requires-in-CombineAll : goal.kept_at-requires-in-CombineAll
kept_at-requires-in-CombineAll c =
    let here = here_at c.args.program.now.known.types c.node.result.now
    (made.CombineAll c.in-CombineAll.source c.in-CombineAll.by) c.requires.well_formed
    c.requires.stands.1 c.requires.needed c.node.ensures.is c.in-CombineAll.is in
    let it = (whole_read c.in-CombineAll.source c.in-CombineAll.by here).source in (it.held, it.at)

pub combined_whole-requires : goal.combined_whole-requires
combined_whole-requires c =
    let here = here_at c.args.program.now.known.types c.node.result.now
    (made.CombineAll c.in-CombineAll.source c.in-CombineAll.by) c.requires.well_formed
    c.requires.stands.1 c.requires.needed c.node.ensures.is c.in-CombineAll.is in
    whole_suits c.in-CombineAll.source c.in-CombineAll.by here
    c.kept_at-in-CombineAll.result.now c.kept_at-in-CombineAll.ensures

pub returns-in-CombineAll : goal.returns-in-CombineAll
returns-in-CombineAll c rows stands =
    let here = here_at c.args.program.now.known.types c.node.result.now
    (made.CombineAll c.in-CombineAll.source c.in-CombineAll.by) c.requires.well_formed stands
    c.requires.needed c.node.ensures.is c.in-CombineAll.is in
    if_all c.combined_whole.result _ _ _ _
    (λ kept members trapped found.
    whole_goes c.in-CombineAll.source c.in-CombineAll.by here
    c.kept_at-in-CombineAll.result.now c.kept_at-in-CombineAll.ensures kept
    c.combined_whole.new.traps.items members trapped found)
    c.combined_whole.ensures.members c.combined_whole.ensures.trapped
    c.combined_whole.ensures.traps

pub operated-requires-clause-below : goal.operated-requires-clause-below
operated-requires-clause-below c =
    let here = here_at c.args.program.now.known.types c.node.result.now
    (made.Operate c.in-Operate.objects c.in-Operate.function) c.requires.well_formed
    c.requires.stands.1 c.requires.needed c.node.ensures.is c.in-Operate.is in
    let it = operate_read c.in-Operate.objects c.in-Operate.function here in
    function_within c.args.program.now.script.functions c.in-Operate.function it.function it.at

pub operated-requires-clause-typed : goal.operated-requires-clause-typed
operated-requires-clause-typed c f vs at is =
    let here = here_at c.args.program.now.known.types c.node.result.now
    (made.Operate c.in-Operate.objects c.in-Operate.function) c.requires.well_formed
    c.requires.stands.1 c.requires.needed c.node.ensures.is c.in-Operate.is in
    operate_typed c.in-Operate.objects c.in-Operate.function here f vs at
    (ap (λ (l : List ℕ). values_in c.args.table.now l) (sym c.as_slice-objects.ensures) ∙ is)

pub returns-in-Operate : goal.returns-in-Operate
returns-in-Operate c rows stands =
    let here = here_at c.args.program.now.known.types c.node.result.now
    (made.Operate c.in-Operate.objects c.in-Operate.function) c.requires.well_formed stands
    c.requires.needed c.node.ensures.is c.in-Operate.is in
    let it = operate_read c.in-Operate.objects c.in-Operate.function here in
    IfOk-weaker c.operated.result _ _
    (λ kept done.
    operate_goes c.in-Operate.objects c.in-Operate.function here kept
    c.operated.new.traps.items
    (subst
    (λ (l : List ℕ). IsOperated c.args.number (answer_of it.function) c.args.table.now l kept
    c.args.traps.now.items c.operated.new.traps.items)
    c.as_slice-objects.ensures done))
    (c.operated.ensures it.function it.at)

pub kept_at-source-requires-in-DoWith : goal.kept_at-source-requires-in-DoWith
kept_at-source-requires-in-DoWith c =
    let here = here_at c.args.program.now.known.types c.node.result.now
    (made.DoWith c.in-DoWith.source c.in-DoWith.function c.in-DoWith.object)
    c.requires.well_formed c.requires.stands.1 c.requires.needed c.node.ensures.is
    c.in-DoWith.is in
    let it = (beside_read c.in-DoWith.source c.in-DoWith.function c.in-DoWith.object here).from in
    (it.held, it.at)

pub kept_at-object-requires : goal.kept_at-object-requires
kept_at-object-requires c =
    let here = here_at c.args.program.now.known.types c.node.result.now
    (made.DoWith c.in-DoWith.source c.in-DoWith.function c.in-DoWith.object)
    c.requires.well_formed c.requires.stands.1 c.requires.needed c.node.ensures.is
    c.in-DoWith.is in
    let it = (beside_read c.in-DoWith.source c.in-DoWith.function c.in-DoWith.object here).beside
    in
    (it.held, it.at)

pub done_beside-requires-clause-below : goal.done_beside-requires-clause-below
done_beside-requires-clause-below c =
    let here = here_at c.args.program.now.known.types c.node.result.now
    (made.DoWith c.in-DoWith.source c.in-DoWith.function c.in-DoWith.object)
    c.requires.well_formed c.requires.stands.1 c.requires.needed c.node.ensures.is
    c.in-DoWith.is in
    let it = beside_read c.in-DoWith.source c.in-DoWith.function c.in-DoWith.object here in
    function_within c.args.program.now.script.functions c.in-DoWith.function it.function it.at

pub done_beside-requires-clause-typed : goal.done_beside-requires-clause-typed
done_beside-requires-clause-typed c =
    let here = here_at c.args.program.now.known.types c.node.result.now
    (made.DoWith c.in-DoWith.source c.in-DoWith.function c.in-DoWith.object)
    c.requires.well_formed c.requires.stands.1 c.requires.needed c.node.ensures.is
    c.in-DoWith.is in
    beside_typed c.in-DoWith.source c.in-DoWith.function c.in-DoWith.object here
    c.kept_at-source-in-DoWith.result.now c.kept_at-object.result.now
    c.kept_at-source-in-DoWith.ensures c.kept_at-object.ensures

pub returns-in-DoWith : goal.returns-in-DoWith
returns-in-DoWith c rows stands =
    let here = here_at c.args.program.now.known.types c.node.result.now
    (made.DoWith c.in-DoWith.source c.in-DoWith.function c.in-DoWith.object)
    c.requires.well_formed stands c.requires.needed c.node.ensures.is c.in-DoWith.is in
    let it = beside_read c.in-DoWith.source c.in-DoWith.function c.in-DoWith.object here in
    IfOk-weaker c.done_beside.result _ _
    (λ kept done.
    beside_goes c.in-DoWith.source c.in-DoWith.function c.in-DoWith.object here
    c.kept_at-source-in-DoWith.result.now c.kept_at-object.result.now
    c.kept_at-source-in-DoWith.ensures c.kept_at-object.ensures kept
    c.done_beside.new.traps.items done)
    (c.done_beside.ensures it.function it.at)
