use Rattle.sound_rewrites.proofs.Making.{can_make, made_as, made_same}
use Rattle.sound_rewrites.proofs.laws.sound_law.Goals as goal

pub returns-clause-sound : goal.returns-clause-sound
returns-clause-sound c = λ g r ok can. (made_as g r ok can).ok

pub returns-clause-same : goal.returns-clause-same
returns-clause-same c = made_same

pub returns-clause-types : goal.returns-clause-types
returns-clause-types c = λ g r ok can. (made_as g r ok can).types

pub returns-clause-within : goal.returns-clause-within
returns-clause-within c = can_make
