use Rattle.std.proofs.Common.{◌≡◌, ℕ, ◌+◌, ◌<◌, length, slice_index}
use Rattle.std.specs.Iterator.Adapters.{zip_first, zip_second}
use Rattle.std.specs.Slice.Iter.{iter_rest}
use Rattle.task_lists.specs.Runs.{kept_count}
use Rattle.step_counts.specs.inner.Owned.{owned}
use Rattle.step_counts.proofs.sizes.add_all.Given as goal

abbrev pub invariant-loop-owner : goal.invariant-loop-owner
invariant-loop-owner l = record {
  count : length l.sizes ≡ length l.fn.sizes;
  kept : (i : ℕ) → i < length l.fn.sizes →
      kept_count (slice_index l.sizes i) ≡ slice_index l.sizes i;
  left : (i : ℕ) → i < length l.fn.sizes → kept_count (slice_index l.sizes i
      + owned i (iter_rest (zip_first l.owner-iterator)) (iter_rest (zip_second l.owner-iterator)))
      ≡ kept_count (slice_index l.fn.sizes i + owned i l.owners l.counts);
}
