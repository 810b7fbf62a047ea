-- The sizes of script nodes, as they grow.
use Rattle.std.specs.Prelude.{◌≡◌, ℕ, ◌+◌, ◌<◌, List, length, slice_index}
use Rattle.task_lists.specs.Runs.{kept_count}

-- the size of each script node has grown by so much, where it does not stop at its last value
pub record HaveGrown (more : ℕ → ℕ) (olds news : List ℕ) : Type 0 where
  pub count : length news ≡ length olds
  pub sizes : (i : ℕ) → i < length olds →
      slice_index news i ≡ kept_count (slice_index olds i + more i)
