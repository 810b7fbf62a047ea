use Rattle.std.proofs.lemmas.Bool.{iff_false}
use Rattle.graph_rewriting.proofs.joins.kid.Goals as goal

pub can_be_kid-requires : goal.can_be_kid-requires
can_be_kid-requires c = c.requires.founded.ascends

pub returns-then-not-can_be_kid : goal.returns-then-not-can_be_kid
returns-then-not-can_be_kid c = iff_false c.can_be_kid.ensures c.if-not-can_be_kid.true

pub join_kid-requires-clause-can : goal.join_kid-requires-clause-can
join_kid-requires-clause-can c = c.can_be_kid.ensures.0 c.if-not-can_be_kid.false

pub returns : goal.returns
returns c = (c.can_be_kid.ensures.0 c.if-not-can_be_kid.false, c.in_ok-joined.ensures)
