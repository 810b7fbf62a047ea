use Rattle.expression_check.proofs.FormLemmas.{type_of-step, given_in-step}
use Rattle.expression_check.proofs.laws.expression_law.Goals as goal

pub returns-clause-rules : goal.returns-clause-rules
returns-clause-rules c line e s = type_of-step line e s

pub returns-clause-meaning : goal.returns-clause-meaning
returns-clause-meaning c line known e env = given_in-step line known e env
