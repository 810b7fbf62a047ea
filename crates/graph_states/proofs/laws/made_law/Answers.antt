use Rattle.graph_states.proofs.Made.{kid_made, sibling_made}
use Rattle.graph_states.proofs.laws.made_law.Goals as goal

pub returns-clause-sibling : goal.returns-clause-sibling
returns-clause-sibling c = λ g h p q s. sibling_made g h p q s

pub returns-clause-kid : goal.returns-clause-kid
returns-clause-kid c = λ g h p k q s. kid_made g h p k q s
