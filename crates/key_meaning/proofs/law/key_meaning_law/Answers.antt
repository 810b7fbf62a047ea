use Rattle.key_meaning.proofs.Whole.{none_there, whole_law}
use Rattle.key_meaning.proofs.law.key_meaning_law.Goals as goal

pub returns-clause-same : goal.returns-clause-same
returns-clause-same c =
    whole_law
    (record { texts = c.statement_law.ensures.texts; same = c.statement_law.ensures.same })

pub returns-clause-clean : goal.returns-clause-clean
returns-clause-clean c = none_there
