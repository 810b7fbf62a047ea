use Rattle.graph_tracing.proofs.Kids.{kid_apart}
use Rattle.graph_tracing.proofs.fusing.after_kid.Goals as goal

pub note_kid-requires-clause-apart : goal.note_kid-requires-clause-apart
note_kid-requires-clause-apart c =
    kid_apart c.args.kids.trace.graph c.args.kid.keeper c.args.kid.output c.args.kid.reader
    c.requires.ok c.requires.can
