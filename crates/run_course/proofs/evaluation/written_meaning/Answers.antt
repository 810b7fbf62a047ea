use Rattle.std.proofs.Common.{◌≡◌, ◌++◌, [], Some, None, codes, map, slice_get, ap, ◌∙◌, subst}
use Rattle.outside.specs.Saves.{output_file}
use Rattle.run_texts.specs.Texts.{size_lines}
use Rattle.run_course.specs.inner.Course.{AreFiles}
use Rattle.run_course.proofs.MeaningLemmas.{gives, stops, within}
use Rattle.run_course.proofs.evaluation.written_meaning.Goals as goal

pub trapped-requires : goal.trapped-requires
trapped-requires c =
    let first : slice_get c.in_ok-bags.field-0.traps.items 0 ≡ Some c.in-Some.trap = cc in
    record {
      within = within c.as_program-held.result.now.script c.args.inputs c.in_ok-bags.field-0
          c.in_ok-bags.ensures c.in-Some.trap first;
    }

pub returns-in_ok-trapped-in-Some-clause-stop : goal.returns-in_ok-trapped-in-Some-clause-stop
returns-in_ok-trapped-in-Some-clause-stop c =
    let first : slice_get c.in_ok-bags.field-0.traps.items 0 ≡ Some c.in-Some.trap = cc in
    let held = c.as_program-held in
    rw (← held.ensures.is)
    (stops held.result.now.script c.args.inputs c.in_ok-bags.field-0 c.in_ok-bags.ensures
    c.in-Some.trap c.in_ok-trapped-in-Some.field-0 first c.in_ok-trapped-in-Some.ensures)

pub returns-in_ok-out-in-None-clause-written :
    goal.returns-in_ok-out-in-None-clause-written
returns-in_ok-out-in-None-clause-written c =
    let it = c.in_ok-bags.field-0 in
    let out = c.in_ok-out-in-None.out in
    let files = map output_file out.outputs.items in
    let none : slice_get c.in_ok-bags.field-0.traps.items 0 ≡ None = cc in
    let bags : c.deref.result.now ≡ c.in_ok-bags.field-0.bags.items = cc in
    let sizes : c.deref-in-None.result.now ≡ c.in_ok-bags.field-0.sizes.items = cc in
    gives c.args.program.now.script c.args.inputs it
    (rw c.as_program-held.ensures.is at c.in_ok-bags.ensures) out.screen.items
    files none
    (subst (λ l. AreFiles l c.args.program.now.script.outputs files) bags
    (rw c.in_ok-out-in-None.was at c.write_out-written.ensures.files))
    ((rw c.in_ok-out-in-None.was at c.write_out-written.ensures.text)
    ∙ ap (λ l. [] ++ (size_lines l ++ codes "done\n")) sizes)
