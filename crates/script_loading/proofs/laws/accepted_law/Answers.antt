use Rattle.script_loading.proofs.AcceptedLemmas.{accepted_once, not_both, one_reason, accepted_or_refused}
use Rattle.script_loading.proofs.laws.accepted_law.Goals as goal

pub returns-clause-one_script : goal.returns-clause-one_script
returns-clause-one_script c = accepted_once

pub returns-clause-not_both : goal.returns-clause-not_both
returns-clause-not_both c = not_both

pub returns-clause-one_reason : goal.returns-clause-one_reason
returns-clause-one_reason c = one_reason

pub returns-clause-either : goal.returns-clause-either
returns-clause-either c = accepted_or_refused
