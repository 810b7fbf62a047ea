use Rattle.graph_states.proofs.Made.{kid_joined, sibling_joined}
use Rattle.graph_states.proofs.laws.join_law.Goals as goal

pub returns-clause-sibling : goal.returns-clause-sibling
returns-clause-sibling c = λ h p q d f i s sound less at bt.
    sibling_joined h p q d f i s sound less at bt

pub returns-clause-kid : goal.returns-clause-kid
returns-clause-kid c = λ h p q n d f i s sound less at bt has.
    kid_joined h p q n d f i s sound less at bt has
