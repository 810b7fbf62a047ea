use Rattle.std.proofs.Common.{◌<◌, ◌∙◌, arith}
use Rattle.graph_tracing.specs.inner.Named.{trace_of}
use Rattle.graph_tracing.proofs.Under.{kid_is_under}
use Rattle.graph_tracing.proofs.hanging.after_named_kid.Goals as goal

pub note_kid-requires-clause-apart : goal.note_kid-requires-clause-apart
note_kid-requires-clause-apart c = λ e.
    let less : c.args.kid.keeper < c.args.kid.reader = c.requires.reads.less in omega arith

pub returns-clause-graph : goal.returns-clause-graph
returns-clause-graph c =
    c.in_ok-joins.ensures.made
    ∙ kid_is_under (trace_of c.args.kids.trace).graph c.args.kid.keeper c.args.kid.output
    c.args.kid.reader c.requires.reads.less
