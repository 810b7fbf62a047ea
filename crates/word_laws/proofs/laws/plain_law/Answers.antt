use Rattle.word_laws.proofs.PlainLemmas.{plain_words}
use Rattle.word_laws.proofs.laws.plain_law.Goals as goal

pub returns : goal.returns
returns c = plain_words
