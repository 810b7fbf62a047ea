use Rattle.std.proofs.Common.{◌++◌, ℕ, List, ap, subst}
use Rattle.saved_results.specs.declared.saved.Saved.{Saved}
use Rattle.cached_course.specs.inner.Found.{IsApart, found_as}
use Rattle.cached_course.proofs.found.push_next.Goals as goal

pub returns-clause-found : goal.returns-clause-found
returns-clause-found c = λ so_far is.
    subst
    (λ (own : List (ℕ × Saved)). IsApart c.args.program.now.script (so_far ++ own)
    c.push_saved.new.found)
    (ap (found_as c.args.number) c.next_saved-next.ensures.next)
    (c.in_ok-push_saved.ensures so_far is)
