use Rattle.std.proofs.Common.{◌≡◌, Some, ap, sym, subst, ◌∙◌}
use Rattle.std.specs.Prelude.{List, slice_get}
use Rattle.std.specs.Option.{option_map}
use Rattle.std.proofs.lemmas.Result.{IfOk-weaker}
use Rattle.script_loading.specs.of_direct_meaning.Evaluated.{bag_at}
use Rattle.flume_value.specs.declared.value.Value.{Value}
use Rattle.outside.specs.Saves.{output_file}
use Rattle.run_texts.specs.Texts.{NamedOutput}
use Rattle.run_course.specs.inner.Course.{file_with}
use Rattle.run_course.proofs.FileLemmas.{file_of_bag}
use Rattle.run_course.proofs.evaluation.output_at.Goals as goal

pub returns : goal.returns
returns c =
    let outputs = c.args.program.now.script.outputs in
    let bag : List Value = c.in-Some.bag.now in
    let held : bag_at c.args.bags.now c.output.result.now.reads ≡ Some bag
    = sym c.members_at.ensures ∙ ap (option_map (λ b. b.now)) c.in-Some.is in
    IfOk-weaker c.file_of.result _ _ (λ file is.
    file_of_bag c.args.bags.now outputs c.args.number c.output.result.now bag (output_file file)
    (rw c.as_program-held.ensures.is at c.output.ensures) held
    (subst (λ (l : List Value). (output : NamedOutput)
    → slice_get outputs c.args.number ≡ Some output → output_file file ≡ file_with output l)
    c.as_slice.ensures is)) c.file_of.ensures
