use Rattle.std.proofs.Common.{[], ap, ◌∙◌}
use Rattle.std.proofs.lemmas.List.{map-id}
use Rattle.shuffle_parts.specs.Partitions.{in_parts}
use Rattle.shuffle_parts.proofs.parts.part.Goals as goal

pub part_more-requires-clause-stands : goal.part_more-requires-clause-stands
part_more-requires-clause-stands c = ([], c.in_ok-empty.ensures)

pub returns : goal.returns
returns c =
    c.from_vec.ensures ∙ c.in_ok-parts.ensures [] c.in_ok-empty.ensures
    ∙ ap (in_parts c.args.partitions) (map-id c.args.pairs.items)
