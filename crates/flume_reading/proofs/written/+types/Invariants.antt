use Rattle.std.proofs.Common.{◌+◌, ◌*◌, length}
use Rattle.flume_grammar.specs.Limits.{the_limits}
use Rattle.flume_grammar.specs.inner.Reads.{Below}
use Rattle.flume_grammar.specs.inner.Types.{at_comma, next_field_type, type_below}
use Rattle.flume_grammar.proofs.Loops.{Turned}
use Rattle.flume_reading.proofs.written.+types.Given as goal

abbrev pub decreases-type_of : goal.decreases-type_of
decreases-type_of l = 6 * l.limit + 5

abbrev pub decreases-after_start : goal.decreases-after_start
decreases-after_start l = 6 * l.limit + 4

abbrev pub decreases-part : goal.decreases-part
decreases-part l = 6 * l.limit

abbrev pub decreases-list_type : goal.decreases-list_type
decreases-list_type l = 6 * l.limit + 1

abbrev pub decreases-pair_type : goal.decreases-pair_type
decreases-pair_type l = 6 * l.limit + 1

abbrev pub decreases-record_type : goal.decreases-record_type
decreases-record_type l = 6 * l.limit + 3

abbrev pub decreases-field_type : goal.decreases-field_type
decreases-field_type l = 6 * l.limit

abbrev pub invariant-more_field_types-more : goal.invariant-more_field_types-more
invariant-more_field_types-more l =
    Turned at_comma (next_field_type the_limits (type_below l.limit)) (Below l.limit)
    l.initial.fields l.fn.tokens l.fields l.tokens

abbrev pub decreases-more_field_types-more : goal.decreases-more_field_types-more
decreases-more_field_types-more l = length l.tokens

abbrev pub decreases-more_field_types : goal.decreases-more_field_types
decreases-more_field_types l = 6 * l.limit + 2

abbrev pub decreases-next_field_type : goal.decreases-next_field_type
decreases-next_field_type l = 6 * l.limit + 1
