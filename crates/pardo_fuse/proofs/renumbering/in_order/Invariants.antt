use Rattle.std.proofs.Common.{◌≡◌, vec_len}
use Rattle.pardo_fuse.specs.Renumbering.{entries_in_order}
use Rattle.pardo_fuse.proofs.Leasts.{put_onto}
use Rattle.pardo_fuse.proofs.renumbering.in_order.Given as goal

-- what is left, put in before what is in order, is all
abbrev pub invariant-loop-entry : goal.invariant-loop-entry
invariant-loop-entry l = put_onto l.left.items l.ordered.items ≡ entries_in_order l.fn.nodes.items

abbrev pub decreases-loop-entry : goal.decreases-loop-entry
decreases-loop-entry l = vec_len l.left
