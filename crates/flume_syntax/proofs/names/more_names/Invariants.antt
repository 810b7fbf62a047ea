use Rattle.std.proofs.Common.{length}
use Rattle.flume_grammar.specs.inner.Reads.{all}
use Rattle.flume_grammar.specs.inner.Types.{at_comma}
use Rattle.flume_grammar.specs.inner.Statements.{next_name}
use Rattle.flume_grammar.proofs.Loops.{Turned}
use Rattle.flume_syntax.proofs.names.more_names.Given as goal

abbrev pub invariant-more : goal.invariant-more
invariant-more l =
    Turned at_comma next_name all l.initial.names l.initial.tokens l.names l.tokens

abbrev pub decreases-more : goal.decreases-more
decreases-more l = length l.tokens
