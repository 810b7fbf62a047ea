use Rattle.std.proofs.Common.{◌++◌, ◌∙◌, codes, map}
use Rattle.kept_results.specs.Sizes.{sizes_told}
use Rattle.outside.specs.Saves.{output_file}
use Rattle.run_course.proofs.RunLemmas.{as_many}
use Rattle.run_texts.specs.Texts.{size_lines}
use Rattle.cached_course.specs.inner.Course.{counted_too}
use Rattle.cached_course.proofs.CourseLemmas.{was_run}
use Rattle.cached_course.proofs.saving.carried_out.Goals as goal

pub written_out-reused-requires : goal.written_out-reused-requires
written_out-reused-requires g c = record {
  count = as_many _ _ _ c.in-Ok.ensures.ran.written;
}

pub returns-in_ok-out-in-Ok-clause-ran : goal.returns-in_ok-out-in-Ok-clause-ran
returns-in_ok-out-in-Ok-clause-ran g c =
    let out = c.in_ok-out-in-Ok.out in
    let files = rw c.in_ok-out-in-Ok.was at c.written_out-reused.ensures.files in
    let text = rw c.in_ok-out-in-Ok.was at c.written_out-reused.ensures.text in
    let kept = rw c.in_ok-out-in-Ok.was at c.written_out-reused.ensures.kept in
    let held = rw c.in_ok-out-in-Ok.was at c.written_out-reused.ensures.held in
    was_run c.args.settings.now c.args.given c.args.shown.plan _ _ c.requires.planned c.in-Ok.ran
    c.args.shown.text.items out.written.screen.items (map output_file out.written.outputs.items)
    out.kept.items c.in-Ok.ensures.ran c.requires.text
    files
    (text
    ∙ (λ i. c.args.shown.text.items ++ (size_lines (sizes_told
    (counted_too c.args.given.program.script c.args.given.known.items c.in-Ok.ran.sizes.items)
    (c.as_slice-wanted.ensures.value i)) ++ codes "done\n")))
    kept held
