use Rattle.std.proofs.Common.{◌+◌, ◌-◌, ◌*◌, ◌≡◌, ◌<◌, ◌≤◌, length}
use Rattle.flume_grammar.specs.Limits.{the_limits}
use Rattle.flume_grammar.specs.inner.Out.{all_of}
use Rattle.std.specs.Prelude.{Ok}
use Rattle.flume_grammar.specs.inner.Reads.{Below}
use Rattle.flume_grammar.specs.inner.Types.{at_comma}
use Rattle.flume_grammar.specs.inner.Expressions.{next_field, next_member, next_suffix, goes_on, wrapped, operand, expression_below}
use Rattle.flume_grammar.proofs.Loops.{Reaches, Turned}
use Rattle.flume_expressions.proofs.+expressions.Given as goal

abbrev pub decreases-expression::extended : goal.decreases-expression::extended
decreases-expression::extended l = 10 * l.limit + 3

abbrev pub decreases-expression::with_index : goal.decreases-expression::with_index
decreases-expression::with_index l = 10 * l.limit + 2

abbrev pub decreases-expression::with_operator : goal.decreases-expression::with_operator
decreases-expression::with_operator l = 10 * l.limit + 1

abbrev pub decreases-expression::continued : goal.decreases-expression::continued
decreases-expression::continued l = 10 * l.limit + 4

abbrev pub decreases-expression::expression : goal.decreases-expression::expression
decreases-expression::expression l = 10 * l.limit + 9

abbrev pub decreases-expression::part : goal.decreases-expression::part
decreases-expression::part l = 10 * l.limit + 0

abbrev pub decreases-calls::argument : goal.decreases-calls::argument
decreases-calls::argument l = 10 * l.limit + 1

abbrev pub decreases-operand::field : goal.decreases-operand::field
decreases-operand::field l = 10 * l.limit + 0

abbrev pub decreases-operand::prefix : goal.decreases-operand::prefix
decreases-operand::prefix l = 10 * l.limit + 1

abbrev pub decreases-operand::next_field : goal.decreases-operand::next_field
decreases-operand::next_field l = 10 * l.limit + 1

abbrev pub decreases-operand::more_fields : goal.decreases-operand::more_fields
decreases-operand::more_fields l = 10 * l.limit + 2

abbrev pub decreases-operand::record : goal.decreases-operand::record
decreases-operand::record l = 10 * l.limit + 3

abbrev pub decreases-operand::next_member : goal.decreases-operand::next_member
decreases-operand::next_member l = 10 * l.limit + 0

abbrev pub decreases-operand::more_members : goal.decreases-operand::more_members
decreases-operand::more_members l = 10 * l.limit + 1

abbrev pub decreases-operand::list : goal.decreases-operand::list
decreases-operand::list l = 10 * l.limit + 2

abbrev pub decreases-calls::call : goal.decreases-calls::call
decreases-calls::call l = 10 * l.limit + 2

abbrev pub decreases-calls::sided : goal.decreases-calls::sided
decreases-calls::sided l = 10 * l.limit + 2

abbrev pub decreases-calls::concat : goal.decreases-calls::concat
decreases-calls::concat l = 10 * l.limit + 2

abbrev pub decreases-calls::pick : goal.decreases-calls::pick
decreases-calls::pick l = 10 * l.limit + 2

abbrev pub decreases-operand::enclosed : goal.decreases-operand::enclosed
decreases-operand::enclosed l = 10 * l.limit + 5

abbrev pub decreases-operand::after_start : goal.decreases-operand::after_start
decreases-operand::after_start l = 10 * l.limit + 4

abbrev pub decreases-operand::bare : goal.decreases-operand::bare
decreases-operand::bare l = 10 * l.limit + 5

abbrev pub decreases-operand::operand : goal.decreases-operand::operand
decreases-operand::operand l = 10 * l.limit + 6

abbrev pub invariant-operand::more_fields-more : goal.invariant-operand::more_fields-more
invariant-operand::more_fields-more l =
    Turned at_comma (next_field the_limits (expression_below l.limit)) (Below l.limit)
    l.initial.fields l.fn.tokens l.fields l.tokens

abbrev pub decreases-operand::more_fields-more : goal.decreases-operand::more_fields-more
decreases-operand::more_fields-more l = length l.tokens

abbrev pub invariant-operand::more_members-more : goal.invariant-operand::more_members-more
invariant-operand::more_members-more l =
    Turned at_comma (next_member the_limits (expression_below l.limit)) (λ m. m.1 < l.limit)
    l.initial.members l.fn.tokens l.members l.tokens

abbrev pub decreases-operand::more_members-more : goal.decreases-operand::more_members-more
decreases-operand::more_members-more l = length l.tokens

abbrev pub invariant-expression::continued-more : goal.invariant-expression::continued-more
invariant-expression::continued-more l =
    let part = next_suffix l.limit (expression_below l.limit) l.least in
    record {
      reaches : Reaches (goes_on l.least) part
          (all_of (goes_on l.least) part l.initial.left l.fn.tokens) l.left l.tokens;
      limit : 1 ≤ l.limit;
      depth : (1 ≤ l.left.depth) × (l.left.depth ≤ l.limit);
      shorter : length l.tokens ≤ length l.fn.tokens;
    }

abbrev pub decreases-expression::continued-more : goal.decreases-expression::continued-more
decreases-expression::continued-more l = length l.tokens

-- the rest of the parentheses, round what is read, comes to the whole
abbrev pub invariant-operand::operand-close : goal.invariant-operand::operand-close
invariant-operand::operand-close l = record {
  rest :
      wrapped l.limit (expression_below l.limit) (l.parens - l.closed) (Ok (l.inner, l.tokens))
      ≡ operand the_limits l.limit (expression_below l.limit) l.least l.fn.tokens;
  limit : 1 ≤ l.limit;
  depth : (1 ≤ l.inner.depth) × (l.inner.depth ≤ l.limit);
  shorter : length l.tokens < length l.fn.tokens;
}
