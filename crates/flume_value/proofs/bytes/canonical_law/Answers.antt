use Rattle.flume_value.proofs.ApartLemmas.{canonical-alike, canonical-tells}
use Rattle.flume_value.proofs.bytes.canonical_law.Goals as goal

pub returns-clause-begins : goal.returns-clause-begins
returns-clause-begins c = canonical-alike

pub returns-clause-differs : goal.returns-clause-differs
returns-clause-differs c = canonical-tells
