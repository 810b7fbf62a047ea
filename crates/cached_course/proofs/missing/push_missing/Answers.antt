use Rattle.std.proofs.Common.{◌++◌, Option, subst, sym}
use Rattle.saved_results.specs.declared.saved.Saved.{Saved}
use Rattle.cached_course.specs.Looked.{missing_as}
use Rattle.cached_course.specs.inner.Missing.{AreMissing}
use Rattle.cached_course.proofs.MissingLemmas.{missing_next, missing_same}
use Rattle.cached_course.proofs.missing.push_missing.Goals as goal

pub returns-in-Some : goal.returns-in-Some
returns-in-Some c = λ so_far are.
    let script = c.args.program.now.script in
    let asked = c.args.asked.now in
    let missing = c.args.missing.now.items in
    subst (λ (looked : Option Saved). AreMissing script (so_far ++ missing_as asked looked) missing)
    (sym c.in-Some.is) (missing_same script so_far missing are)

pub returns-in_ok-push-in-None : goal.returns-in_ok-push-in-None
returns-in_ok-push-in-None c = λ so_far are.
    let script = c.args.program.now.script in
    let asked = c.args.asked.now in
    let missing = c.push.new.self.items in
    subst (λ (looked : Option Saved). AreMissing script (so_far ++ missing_as asked looked) missing)
    (sym c.in-None.is)
    (missing_next script so_far c.args.missing.now.items missing asked
    c.in_ok-missing_at-in-None.field-0 c.in_ok-push-in-None.ensures.items
    c.in_ok-missing_at-in-None.ensures are)
