use Rattle.std.proofs.Common.{[]}
use Rattle.graph_tracing.proofs.Under.{goes_between, keeps_same, leaves_between, table_same}
use Rattle.graph_tracing.proofs.hanging.with_kids.Goals as goal

pub all_kids-requires-clause-keeps : goal.all_kids-requires-clause-keeps
all_kids-requires-clause-keeps c =
    keeps_same _ _ c.in_ok-begun.ensures.numbers c.requires.keeps

pub returns-clause-traced : goal.returns-clause-traced
returns-clause-traced c =
    goes_between _ _ _ _ c.args.kids.trace _ _ c.in_ok-made.made.trace
    (table_same _ _ c.in_ok-begun.ensures.numbers) c.in_ok-begun.ensures.trace
    (table_same _ _ c.in_ok-made.ensures.numbers) c.in_ok-made.ensures.trace
    c.in_ok-last.ensures.traced

pub returns-clause-whole : goal.returns-clause-whole
returns-clause-whole c = λ m f all u.
    leaves_between _ _ _ _ c.args.kids.trace _ _ c.in_ok-made.made.trace
    (table_same _ _ c.in_ok-begun.ensures.numbers) c.in_ok-begun.ensures.trace
    (table_same _ _ c.in_ok-made.ensures.numbers) c.in_ok-made.ensures.trace
    m f c.args.numbers.now [] all (c.in_ok-last.ensures.whole m f all) u
