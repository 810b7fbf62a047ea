use Rattle.std.proofs.lemmas.Bool.{iff_false}
use Rattle.graph_rewriting.proofs.joins.sibling.Goals as goal

pub can_be_sibling-requires : goal.can_be_sibling-requires
can_be_sibling-requires c = c.requires.founded.ascends

pub returns-then-not-can_be_sibling : goal.returns-then-not-can_be_sibling
returns-then-not-can_be_sibling c =
    iff_false c.can_be_sibling.ensures c.if-not-can_be_sibling.true

pub join_sibling-requires-clause-can : goal.join_sibling-requires-clause-can
join_sibling-requires-clause-can c =
    (c.can_be_sibling.ensures.0 c.if-not-can_be_sibling.false).1

pub returns : goal.returns
returns c = (c.can_be_sibling.ensures.0 c.if-not-can_be_sibling.false, c.in_ok-joined.ensures)
