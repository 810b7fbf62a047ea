use Rattle.std.proofs.Common.{◌≡◌, ◌++◌, length}
use Rattle.stage_results.specs.inner.Channels.{each_joined}
use Rattle.stage_results.proofs.joining.join_each.Given as goal

abbrev pub invariant-loop-list : goal.invariant-loop-list
invariant-loop-list l = record {
  whole : l.yielded ++ l.list-iterator.rest.items ≡ l.fn.more;
  at : l.at ≡ length l.yielded;
  lists : l.lists.items ≡ each_joined l.fn.lists.items l.yielded;
}
