use Rattle.std.proofs.Common.{◌≡◌, ◌++◌, ℕ, List, drop}
use Rattle.std.specs.Vec.Iter.{into_iter_items}
use Rattle.kept_results.specs.Lists.{found_of}
use Rattle.saved_results.specs.declared.saved.Saved.{Saved}
use Rattle.cached_course.specs.inner.Found.{IsApart}
use Rattle.cached_course.proofs.found.found_apart.Given as goal

abbrev pub invariant-loop-one : goal.invariant-loop-one
invariant-loop-one l =
    (so_far : List (ℕ × Saved)) × IsApart l.program.script so_far l.found
    × (so_far ++ found_of (drop l.one-index l.asked) (into_iter_items l.left)
    ≡ found_of l.asked l.fn.looked.items)
