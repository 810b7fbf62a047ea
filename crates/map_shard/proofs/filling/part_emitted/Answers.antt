use Rattle.std.proofs.Common.{◌≡◌, ◌++◌, List, map, subst}
use Rattle.std.specs.Prelude.{IfOk}
use Rattle.flume_value.specs.declared.value.Value.{Value}
use Rattle.bag_groups.specs.Pairs.{IsPair}
use Rattle.shuffle_parts.specs.Partitions.{in_parts}
use Rattle.map_shard.proofs.Emitting.{behind, of_parts}
use Rattle.map_shard.proofs.filling.part_emitted.Goals as goal

pub part_more-requires-clause-pairs : goal.part_more-requires-clause-pairs
part_more-requires-clause-pairs c =
    (of_parts IsPair _ _ c.args.pairs c.into_parts-values.ensures c.requires.pairs).0

pub part_more-requires-2-clause-stands : goal.part_more-requires-2-clause-stands
part_more-requires-2-clause-stands c =
    (_, c.in_ok-parts.ensures c.requires.stands.0 c.requires.stands.1)

pub part_more-requires-2-clause-pairs : goal.part_more-requires-2-clause-pairs
part_more-requires-2-clause-pairs c =
    (of_parts IsPair _ _ c.args.pairs c.into_parts-values.ensures c.requires.pairs).1

pub returns : goal.returns
returns c done stands =
    let values = c.into_parts-values.result.0.items in
    let couples = c.into_parts-values.result.1.items in
    subst (λ (l : List Value). IfOk c.part_more-2.result (λ all.
    all.items ≡ in_parts c.args.partitions l))
    (behind done values couples c.args.pairs c.into_parts-values.ensures)
    (c.part_more-2.ensures _ (c.in_ok-parts.ensures done stands))
