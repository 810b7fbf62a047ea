use Rattle.std.proofs.Common.{◌≡◌, ◌++◌, List, map, subst}
use Rattle.std.specs.Prelude.{IfOk}
use Rattle.flume_value.specs.declared.value.Value.{Value}
use Rattle.std.specs.List.{AllZip}
use Rattle.partial_tables.specs.Lifted.{IsLifted}
use Rattle.partial_tables.specs.Merges.{IsCombinable}
use Rattle.shuffle_parts.specs.Partitions.{in_parts}
use Rattle.map_shard.proofs.Emitting.{behind, of_parts}
use Rattle.map_shard.proofs.filling.lift_emitted.Goals as goal

pub lift_more-requires-clause-pairs : goal.lift_more-requires-clause-pairs
lift_more-requires-clause-pairs c =
    (of_parts (IsCombinable c.args.comb) _ _ c.args.pairs c.into_parts-values.ensures
    c.requires.pairs).0

pub lift_more-requires-2-clause-stands : goal.lift_more-requires-2-clause-stands
lift_more-requires-2-clause-stands c =
    (_, c.in_ok-parts.ensures c.requires.stands.0 c.requires.stands.1)

pub lift_more-requires-2-clause-pairs : goal.lift_more-requires-2-clause-pairs
lift_more-requires-2-clause-pairs c =
    (of_parts (IsCombinable c.args.comb) _ _ c.args.pairs c.into_parts-values.ensures
    c.requires.pairs).1

pub returns : goal.returns
returns c done stands =
    let values = c.into_parts-values.result.0.items in
    let couples = c.into_parts-values.result.1.items in
    subst (λ (l : List Value). IfOk c.lift_more-2.result (λ all.
    AllZip (IsLifted c.args.comb) all.items (in_parts c.args.partitions l)))
    (behind done values couples c.args.pairs c.into_parts-values.ensures)
    (c.lift_more-2.ensures _ (c.in_ok-parts.ensures done stands))
