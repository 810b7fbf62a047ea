use Rattle.std.proofs.Common.{◌≡◌, length, map, take}
use Rattle.run_sizes.proofs.members.member_counts.Given as goal

abbrev pub invariant-loop-list : goal.invariant-loop-list
invariant-loop-list l = l.counts.items ≡ map length (take l.list-index l.lists)
