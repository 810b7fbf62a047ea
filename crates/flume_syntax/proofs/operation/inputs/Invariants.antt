use Rattle.std.proofs.Common.{length}
use Rattle.flume_grammar.specs.Limits.{the_limits}
use Rattle.flume_grammar.specs.inner.Reads.{all}
use Rattle.flume_grammar.specs.inner.Types.{at_comma}
use Rattle.flume_grammar.specs.inner.Statements.{next_input}
use Rattle.flume_grammar.proofs.Loops.{Turned}
use Rattle.flume_syntax.proofs.operation.inputs.Given as goal

abbrev pub invariant-more : goal.invariant-more
invariant-more l =
    Turned at_comma (next_input the_limits) all l.initial.inputs l.initial.tokens l.inputs l.tokens

abbrev pub decreases-more : goal.decreases-more
decreases-more l = length l.tokens
