use Rattle.std.proofs.Common.{◌≡◌, ◌++◌, ◌+◌, ◌≤◌, ◌-◌, drop, length}
use Rattle.bag_steps.specs.Joins.{joined}
use Rattle.bag_steps.proofs.joins.join.Given as goal

abbrev pub invariant-loop-key : goal.invariant-loop-key
invariant-loop-key l = record {
  left : l.i ≤ length l.left;
  right : l.j ≤ length l.right;
  all : joined l.left l.right
      ≡ l.rows.items ++ joined (drop l.i l.left) (drop l.j l.right);
}

abbrev pub decreases-loop-key : goal.decreases-loop-key
decreases-loop-key l = (length l.left - l.i) + (length l.right - l.j)
