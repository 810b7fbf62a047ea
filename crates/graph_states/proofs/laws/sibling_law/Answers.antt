use Rattle.graph_states.proofs.Siblings.{sibling_is, stands_then}
use Rattle.graph_states.proofs.laws.sibling_law.Goals as goal

pub returns-clause-sibling : goal.returns-clause-sibling
returns-clause-sibling c = λ h p q d f i s sound less at bt.
    sibling_is h p q d f i s less at bt sound

pub returns-clause-stands : goal.returns-clause-stands
returns-clause-stands c = λ h p q d f i s less at bt. stands_then h p q d f i s less at bt
