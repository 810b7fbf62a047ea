use Rattle.std.proofs.Common.{◌<◌, [], length}
use Rattle.flume_grammar.specs.Limits.{the_limits}
use Rattle.flume_grammar.specs.inner.Types.{at_comma}
use Rattle.flume_grammar.specs.inner.Statements.{next_type}
use Rattle.flume_grammar.proofs.Loops.{Turned}
use Rattle.flume_syntax.proofs.statement.more_types.Given as goal

abbrev pub invariant-more : goal.invariant-more
invariant-more l =
    Turned at_comma (next_type the_limits) (λ types. length types < 8) [] l.initial.tokens l.types
    l.tokens

abbrev pub decreases-more : goal.decreases-more
decreases-more l = length l.tokens
