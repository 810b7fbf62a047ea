-- Whether steps are one step with few outputs and none on them, as a test.
use Rattle.std.specs.Prelude.{◌≤◌, Bool, true, false, ◌&&◌, List, [], ◌∷◌, length}
use Rattle.std.proofs.Common.{ltb}
use Rattle.std.specs.List.{list_all}
use Rattle.exec_graph.specs.Forests.{Branch, Forest, Bare, Grow}
use Rattle.exec_graph.specs.declared.graph.Node.{Node}
use Rattle.graph_laws.specs.Single.{HasSteps, IsOneStep, most_outputs, width}

abbrev pub is_bare : Forest → Bool
is_bare Bare = true
is_bare (Grow l kids rest) = false

-- a step with few outputs, and none on them
abbrev pub is_short : Branch → Bool
is_short b = is_bare b.first.kids
    && (list_all (λ t. is_bare t.kids) b.more && ltb (length b.more) most_outputs)

abbrev pub one_short : List Branch → Bool
one_short [] = false
one_short (b ∷ []) = is_short b
one_short (b ∷ (c ∷ bs)) = false

-- what the test says
abbrev pub IsShort : Forest → Type 0
IsShort f = IsOneStep f × (width f ≤ most_outputs)

-- the node is no Pdo, or one of such a step
abbrev pub IsNarrow : Node → Type 0
IsNarrow x = HasSteps IsShort x
