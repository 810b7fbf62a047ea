use Rattle.direct_meaning.proofs.WorkedLemmas.{share_of_none, two_shares}
use Rattle.direct_meaning.proofs.laws.beside_law.Goals as goal

pub returns-clause-shares : goal.returns-clause-shares
returns-clause-shares c = two_shares

pub returns-clause-trap : goal.returns-clause-trap
returns-clause-trap c = share_of_none
