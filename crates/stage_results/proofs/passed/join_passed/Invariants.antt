use Rattle.std.proofs.Common.{◌≡◌, ◌++◌, length}
use Rattle.stage_results.specs.inner.Channels.{each_joined, passed_by}
use Rattle.stage_results.proofs.passed.join_passed.Given as goal

abbrev pub invariant-loop-one : goal.invariant-loop-one
invariant-loop-one l = record {
  whole : l.yielded ++ l.one-iterator.rest.items ≡ l.fn.sent;
  at : l.at ≡ length l.yielded;
  lists : l.lists.items ≡ each_joined l.fn.lists.items (passed_by l.yielded);
}
