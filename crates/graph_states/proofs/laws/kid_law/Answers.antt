use Rattle.graph_states.proofs.Kids.{kid_is, stands_then}
use Rattle.graph_states.proofs.laws.kid_law.Goals as goal

pub returns-clause-kid : goal.returns-clause-kid
returns-clause-kid c = λ h p q n d f i s sound at bt has. kid_is h p q n d f i s at bt has sound

pub returns-clause-stands : goal.returns-clause-stands
returns-clause-stands c = λ h p q n d f i s sound at bt has.
    stands_then h p q n d f i s at bt has sound
