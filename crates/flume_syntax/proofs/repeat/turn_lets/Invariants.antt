use Rattle.std.proofs.Common.{[], length}
use Rattle.flume_grammar.specs.Limits.{the_limits}
use Rattle.flume_grammar.specs.inner.Reads.{all}
use Rattle.flume_grammar.specs.inner.Statements.{at_let, next_let}
use Rattle.flume_grammar.proofs.Loops.{Turned}
use Rattle.flume_syntax.proofs.repeat.turn_lets.Given as goal

abbrev pub invariant-more : goal.invariant-more
invariant-more l = Turned at_let (next_let the_limits) all [] l.initial.tokens l.lets l.tokens

abbrev pub decreases-more : goal.decreases-more
decreases-more l = length l.tokens
