use Rattle.std.proofs.Common.{take}
use Rattle.cached_course.specs.Looked.{not_found}
use Rattle.cached_course.specs.inner.Missing.{AreMissing}
use Rattle.cached_course.proofs.missing.missing_of.Given as goal

abbrev pub invariant-loop-place : goal.invariant-loop-place
invariant-loop-place l =
    AreMissing l.program.script (not_found (take l.place l.asked) (take l.place l.looked))
    l.missing.items
