use Rattle.sink_laws.proofs.Nexts.{kept_sunk, next_link}
use Rattle.sink_laws.proofs.laws.chain_law.Goals as goal

pub returns-clause-link : goal.returns-clause-link
returns-clause-link c = next_link

pub returns-clause-kept : goal.returns-clause-kept
returns-clause-kept c = λ g h ok sunk. kept_sunk g h ok sunk.leads
