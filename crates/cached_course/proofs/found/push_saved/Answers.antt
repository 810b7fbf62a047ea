use Rattle.std.proofs.Common.{◌++◌, Option, subst, sym}
use Rattle.saved_results.specs.declared.saved.Saved.{Saved}
use Rattle.cached_course.specs.inner.Found.{IsApart, found_as}
use Rattle.cached_course.proofs.FoundLemmas.{apart_next, apart_same}
use Rattle.cached_course.proofs.found.push_saved.Goals as goal

pub returns-in_ok-push_found-in-Some : goal.returns-in_ok-push_found-in-Some
returns-in_ok-push_found-in-Some c = λ so_far is.
    let script = c.args.program.now.script in
    let number = c.args.number in
    let found = c.push_found.new.found in
    subst (λ (next : Option Saved). IsApart script (so_far ++ found_as number next) found)
    (sym c.in-Some.is)
    (apart_next script so_far c.args.found.now found number c.in-Some.saved
    c.in_ok-push_found-in-Some.ensures.numbers c.in_ok-push_found-in-Some.ensures.members
    c.in_ok-push_found-in-Some.ensures.known is)

pub returns-in-None : goal.returns-in-None
returns-in-None c = λ so_far is.
    let script = c.args.program.now.script in
    let number = c.args.number in
    let found = c.args.found.now in
    subst (λ (next : Option Saved). IsApart script (so_far ++ found_as number next) found)
    (sym c.in-None.is) (apart_same script so_far found is)
