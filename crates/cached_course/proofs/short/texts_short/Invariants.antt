use Rattle.std.proofs.Common.{ℕ, ◌<◌, ◌^◌, List, get_or, length}
use Rattle.cached_course.proofs.short.texts_short.Given as goal

abbrev pub invariant-loop-text : goal.invariant-loop-text
invariant-loop-text l =
    (k : ℕ) (d : List ℕ) → k < l.text-index → length (get_or l.texts k d) < 2 ^ 64
