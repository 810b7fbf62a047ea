use Rattle.graph_joins.proofs.BlockLemmas.{place_value, place_within}
use Rattle.graph_joins.proofs.names.name_at.Goals as goal

pub returns-in-Some-clause-within : goal.returns-in-Some-clause-within
returns-in-Some-clause-within c =
    let s = c.in-Some in
    place_within c.args.blocks.now s.spot.block s.spot.behind c.args.at s.ensures.block
    s.ensures.behind s.ensures.sum

pub returns-in-Some-clause-value : goal.returns-in-Some-clause-value
returns-in-Some-clause-value c =
    let s = c.in-Some in
    let b = c.index-blocks-spot.result in
    place_value c.args.blocks.now s.spot.block s.spot.behind c.args.at b c.index.result.now
    s.ensures.block (s.ensures.behind b) s.ensures.sum c.index.ensures
