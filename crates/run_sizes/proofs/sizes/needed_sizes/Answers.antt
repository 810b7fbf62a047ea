use Rattle.std.proofs.Common.{◌∙◌, ap, []}
use Rattle.std.proofs.lemmas.Result.{IfOk-weaker}
use Rattle.script_program.specs.Sources.{source_numbers}
use Rattle.run_sizes.specs.inner.Along.{named_sizes, sizes_along}
use Rattle.run_sizes.proofs.Along.{sizes_meant}
use Rattle.run_sizes.proofs.sizes.needed_sizes.Goals as goal

pub returns : goal.returns
returns c =
    let script = c.args.program.now.script in
    let counts = c.args.counts.now in
    IfOk-weaker c.named.result _ _ (λ sizes told lists made counted means own.
    told
    ∙ (ap (named_sizes script.nodes)
    (c.as_slice-2.ensures.value
    ∙ (c.in_ok-sizes.ensures.along
    ∙ (ap (λ l. sizes_along script c.args.members.now l counts script.nodes 0 [])
    (c.as_slice.ensures.value ∙ c.in_ok-numbers.ensures)
    ∙ ap (λ m. sizes_along script m (source_numbers script) counts script.nodes 0 []) counted)))
    ∙ sizes_meant script lists counts made means own)) c.named.ensures
