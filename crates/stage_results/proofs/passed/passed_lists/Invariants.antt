use Rattle.std.proofs.Common.{◌≡◌, ℕ, List, Some, slice_get}
use Rattle.exec_graph.specs.of_flume_collection.Calls.{or_none}
use Rattle.flume_value.specs.declared.value.Value.{Value}
use Rattle.shuffle_parts.specs.Outs.{all_passed, passed_at}
use Rattle.shuffle_parts.proofs.Finding.{ComesTo}
use Rattle.stage_results.proofs.passed.passed_lists.Given as goal

abbrev pub invariant-loop-out : goal.invariant-loop-out
invariant-loop-out l =
    (r : ℕ) (whole : List Value) → all_passed l.fn.outs.items r ≡ Some whole
    → ComesTo (passed_at r) l.out-iterator.rest.items (Some whole)
    (or_none (slice_get l.lists.items r))
