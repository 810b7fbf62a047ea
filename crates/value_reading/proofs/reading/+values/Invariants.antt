use Rattle.std.proofs.Common.{◌≡◌, ◌+◌, ◌-◌, ◌*◌}
use Rattle.value_reading.specs.inner.Reading.{parts_at, value_at}
use Rattle.value_reading.proofs.Turns.{with_front}
use Rattle.value_reading.proofs.reading.+values.Given as goal

abbrev pub decreases-value_of : goal.decreases-value_of
decreases-value_of l = 5 * l.levels

abbrev pub decreases-behind : goal.decreases-behind
decreases-behind l = 5 * l.levels + 4

abbrev pub decreases-items_of : goal.decreases-items_of
decreases-items_of l = 5 * l.levels + 3

abbrev pub decreases-members_of : goal.decreases-members_of
decreases-members_of l = 5 * l.levels + 2

abbrev pub decreases-held_of : goal.decreases-held_of
decreases-held_of l = 5 * l.levels + 1

-- what was read before, and what is still read, is what is read
abbrev pub invariant-members_of-loop-turn : goal.invariant-members_of-loop-turn
invariant-members_of-loop-turn l =
    with_front (value_at l.levels) l.members
    (parts_at (value_at l.levels) (l.count - l._turn) l.left)
    ≡ parts_at (value_at l.levels) l.count l.fn.left
