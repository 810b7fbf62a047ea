use Rattle.std.proofs.Common.{◌≡◌, ◌∙◌, ◌<◌, ℕ, List, [], Some, ap, get_or, length, slice_get, subst, sym}
use Rattle.std.proofs.lemmas.Option.{slice_get-get_or}
use Rattle.flume_value.specs.declared.value.Value.{Value}
use Rattle.cached_course.specs.inner.Missing.{members_for}
use Rattle.cached_course.proofs.MissingLemmas.{members_behind, members_here}
use Rattle.cached_course.proofs.missing.members_for.Goals as goal

pub returns-then-output-number : goal.returns-then-output-number
returns-then-output-number c =
    let outputs = c.args.program.now.script.outputs in
    let written = c.args.written.now in
    let number = c.args.number in
    let place = c.loop-place.place in
    let own = c.index-written-place.result in
    let within : place < length outputs
    = subst (λ (n : ℕ). place < n) c.output_count-place-end.ensures c.loop-place-test.true in
    let here : slice_get written place ≡ Some own
    = slice_get-get_or written place own
    (subst (λ (n : ℕ). place < n) (sym c.requires.count) within)
    ∙ ap Some (sym c.index-written-place.is) in
    c.in_ok-members.ensures ∙ c.as_slice.ensures
    ∙ members_here outputs written place number c.output.result.now own
    (members_for outputs written number) c.output.ensures here c.loop-place.invariant
    c.if-output-number.true

pub loop-place-preserved : goal.loop-place-preserved
loop-place-preserved c =
    let outputs = c.args.program.now.script.outputs in
    let written = c.args.written.now in
    let number = c.args.number in
    let place = c.loop-place.place in
    let none : List Value = [] in
    let within : place < length outputs
    = subst (λ (n : ℕ). place < n) c.output_count-place-end.ensures c.loop-place-test.true in
    let here : slice_get written place ≡ Some (get_or written place none)
    = slice_get-get_or written place none
    (subst (λ (n : ℕ). place < n) (sym c.requires.count) within) in
    members_behind outputs written place number c.output.result.now
    (get_or written place none) (members_for outputs written number) c.output.ensures here
    c.loop-place.invariant c.if-output-number.false
