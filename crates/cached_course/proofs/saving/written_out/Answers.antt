use Rattle.std.proofs.Common.{◌++◌, ◌∙◌, ℕ, List, ap, codes, length, map, subst}
use Rattle.std.specs.List.{AllByRecursion}
use Rattle.flume_value.specs.Ranges.{IsHeld}
use Rattle.flume_value.specs.declared.value.Value.{Value}
use Rattle.kept_results.specs.Sizes.{sizes_told}
use Rattle.run_course.specs.inner.Course.{files_with}
use Rattle.run_texts.specs.Texts.{size_lines}
use Rattle.cached_course.specs.declared.missing.Missing.{Missing}
use Rattle.cached_course.specs.inner.Course.{counted_too}
use Rattle.cached_course.specs.inner.Missing.{entry_of, kept_value}
use Rattle.cached_course.proofs.saving.written_out.Goals as goal

pub entries_of-requires : goal.entries_of-requires
entries_of-requires c = record {
  count = rw c.as_program-held.ensures.is
      (ap length c.as_slice-members.ensures.value ∙ c.requires.count);
}

pub output_files-requires : goal.output_files-requires
output_files-requires c = record {
  count = ap length c.as_slice-members.ensures.value ∙ c.requires.count;
}

pub returns-clause-files : goal.returns-clause-files
returns-clause-files c =
    c.in_ok-outputs.ensures
    ∙ ap (files_with c.args.program.now.script.outputs) c.as_slice-members.ensures.value

pub returns-clause-text : goal.returns-clause-text
returns-clause-text c =
    let all = rw c.as_program-held.ensures.is at c.in_ok-all.ensures in
    let known = c.as_slice-told.ensures.value ∙ all in
    c.in_ok-screen.ensures
    ∙ (λ i. c.args.front.items
    ++ (size_lines (sizes_told (known i) c.args.needed.now) ++ codes "done\n"))

pub returns-clause-kept : goal.returns-clause-kept
returns-clause-kept c =
    let all = rw c.as_program-held.ensures.is at c.in_ok-all.ensures in
    let known = c.as_slice-told.ensures.value ∙ all in
    (rw c.as_program-held.ensures.is at c.in_ok-kept.ensures.entries)
    ∙ (λ i. map (entry_of c.args.program.now.script (known i) (c.as_slice-members.ensures.value i))
    c.args.missing.items)

pub returns-clause-held : goal.returns-clause-held
returns-clause-held c =
    let script = c.args.program.now.script in
    let all = rw c.as_program-held.ensures.is at c.in_ok-all.ensures in
    let known = c.as_slice-told.ensures.value ∙ all in
    subst
    (λ (written : List (List Value)). AllByRecursion (λ (it : Missing). IsHeld (kept_value script
    (counted_too script c.args.known.items c.args.ran.now.sizes.items) written it))
    c.args.missing.items)
    c.as_slice-members.ensures.value
    (subst
    (λ (all : List (ℕ × ℕ)). AllByRecursion (λ (it : Missing). IsHeld (kept_value script all
    c.as_slice-members.result.now it)) c.args.missing.items)
    known (rw c.as_program-held.ensures.is at c.in_ok-kept.ensures.held))
