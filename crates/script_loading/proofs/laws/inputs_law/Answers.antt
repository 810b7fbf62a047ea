use Rattle.build_law.proofs.of_direct_meaning.PlainLemmas.{plain-inputs}
use Rattle.build_law.specs.of_direct_meaning.Inputs.{inputs_of}
use Rattle.script_loading.proofs.InputLemmas.{typed_rows}
use Rattle.script_loading.proofs.laws.inputs_law.Goals as goal

pub returns : goal.returns
returns c = record {
  typed = λ told script rows all.
      typed_rows told c.rows_law.ensures.typed (inputs_of script) rows all;
  inputs = λ told script rows written all.
      plain-inputs script written rows
      (typed_rows told c.rows_law.ensures.typed (inputs_of script) rows all);
}
