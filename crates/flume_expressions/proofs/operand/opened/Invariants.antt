use Rattle.std.proofs.Common.{◌-◌, ◌≤◌, length}
use Rattle.flume_grammar.specs.Limits.{the_limits}
use Rattle.flume_grammar.proofs.Operands.{OpensSoFar}
use Rattle.flume_expressions.proofs.operand.opened.Given as goal

abbrev pub invariant-open : goal.invariant-open
invariant-open l = record {
  opens :
      OpensSoFar the_limits (length l.initial.tokens - length l.tokens) l.initial.tokens l.tokens;
  shorter : length l.tokens ≤ length l.initial.tokens;
}

abbrev pub decreases-open : goal.decreases-open
decreases-open l = length l.tokens
