use Rattle.std.proofs.Common.{◌≡◌, ◌∙◌, ◌<◌, Some, ap, arith, length, slice_get, subst, sym, take}
use Rattle.std.proofs.lemmas.Option.{slice_get-get_or}
use Rattle.cached_course.specs.Looked.{not_found}
use Rattle.cached_course.specs.inner.Missing.{AreMissing}
use Rattle.cached_course.proofs.MissingLemmas.{found_more, missing_end}
use Rattle.cached_course.proofs.missing.missing_of.Goals as goal

pub loop-place-preserved : goal.loop-place-preserved
loop-place-preserved c =
    let asked = c.args.asked.now in
    let looked = c.args.looked.now in
    let place = c.loop-place.place in
    let within : place < length asked = omega arith in
    let it = c.index-asked-place.result in
    let found = c.index-looked-place.result in
    let at : slice_get asked place ≡ Some it
    = slice_get-get_or asked place it within ∙ ap Some (sym c.index-asked-place.is) in
    let here : slice_get looked place ≡ Some found
    = slice_get-get_or looked place found (omega (arith, within, c.requires))
    ∙ ap Some (sym c.index-looked-place.is) in
    subst (λ l. AreMissing c.args.program.now.script l c.push_missing.new.missing.items)
    (found_more asked looked place it found at here)
    (c.in_ok-push_missing.ensures (not_found (take place asked) (take place looked))
    c.loop-place.invariant)

pub returns : goal.returns
returns c =
    let asked = c.args.asked.now in
    let looked = c.args.looked.now in
    subst (λ l. AreMissing c.args.program.now.script l c.loop-place.missing.items)
    (missing_end asked looked c.loop-place.place (omega arith) (omega (arith, c.requires)))
    c.loop-place.invariant
