-- The places of the outputs of a forest's steps in preorder.
use Rattle.std.specs.Prelude.{ℕ, ◌+◌, List, [], ◌∷◌, ◌++◌}
use Rattle.std.proofs.Common.{suc}
use Rattle.exec_graph.specs.Forests.{Forest, Bare, Grow}

-- how many outputs the steps of a forest have
abbrev pub outputs_in : Forest → ℕ
outputs_in Bare = 0
outputs_in (Grow l kids rest) = suc (outputs_in kids + outputs_in rest)

-- for each output, in preorder, how many there are of it and of all on it
abbrev pub sizes_in : Forest → List ℕ
sizes_in Bare = []
sizes_in (Grow l kids rest) = suc (outputs_in kids) ∷ (sizes_in kids ++ sizes_in rest)
