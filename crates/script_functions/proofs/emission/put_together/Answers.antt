use Rattle.std.proofs.Common.{refl, rules}
use Rattle.flume_value.specs.declared.value.Value.TheVariants as variants
use Rattle.dofn_eval.proofs.MeaningLemmas.{value_rules}
use Rattle.script_functions.proofs.emission.put_together.Goals as goal

pub returns-in-Some : goal.returns-in-Some
returns-in-Some c = (variants.Rec c.in-Some.fields, search (rules, value_rules), refl)
