use Rattle.form_laws.proofs.SameMarks.{formed_same, plan_same, some_plan}
use Rattle.form_laws.proofs.laws.one_law.Goals as goal

pub returns-clause-some : goal.returns-clause-some
returns-clause-some c = λ sources b ok. some_plan sources b ok.founded.ascends

pub returns-clause-operations : goal.returns-clause-operations
returns-clause-operations c = λ a b os ps ok. formed_same a b os ps ok.differ

pub returns-clause-plan : goal.returns-clause-plan
returns-clause-plan c = λ sources a b p q ok. plan_same sources a b p q ok.differ
