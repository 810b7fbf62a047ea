use Rattle.std.proofs.Common.{◌≡◌, ◌<◌, Some, length, map, ap, sym, ◌∙◌, slice_get, subst, ℕ}
use Rattle.std.proofs.lemmas.List.{map-append}
use Rattle.std.proofs.lemmas.Option.{slice_get-get_or}
use Rattle.outside.specs.Saves.{output_file}
use Rattle.run_course.proofs.RunLemmas.{next_file}
use Rattle.run_course.proofs.running.output_files.Goals as goal

pub loop-number-preserved : goal.loop-number-preserved
loop-number-preserved c =
    let outputs = c.args.program.now.script.outputs in
    let members = c.args.members.now in
    let number = c.loop-number.number in
    let within : number < length outputs
    = rw (c.output_count-number-end.ensures, c.as_program-held.ensures.is)
    at c.loop-number-test.true in
    let own = c.index-members-number.result in
    let found : slice_get members number ≡ Some c.as_slice.result.now
    = slice_get-get_or members number own
    (subst (λ (n : ℕ). number < n) (sym c.requires.count) within)
    ∙ ap Some (sym c.index-members-number.is ∙ sym c.as_slice.ensures) in
    next_file outputs members number c.as_slice.result.now
    (output_file c.in_ok-file_of.field-0) (map output_file c.loop-number.files.items)
    (map output_file c.push.new.self.items) _ within found c.in_ok-file_of.ensures
    (ap (map output_file) c.in_ok-push.ensures.items
    ∙ map-append output_file c.loop-number.files.items _) c.loop-number.invariant
