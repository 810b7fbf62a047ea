use Rattle.word_laws.proofs.MakeLemmas.{made}
use Rattle.word_laws.proofs.laws.make_law.Goals as goal

pub returns : goal.returns
returns c = made
