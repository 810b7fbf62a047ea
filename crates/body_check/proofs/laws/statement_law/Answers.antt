use Rattle.body_check.proofs.FormLemmas.{after-step, emitted_in-step}
use Rattle.body_check.proofs.laws.statement_law.Goals as goal

pub returns-clause-rules : goal.returns-clause-rules
returns-clause-rules c gives b s = after-step gives b s

pub returns-clause-meaning : goal.returns-clause-meaning
returns-clause-meaning c known b s = emitted_in-step known b s
