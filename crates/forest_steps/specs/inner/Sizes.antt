-- The table of sizes, output by output and step by step.
use Rattle.std.specs.Prelude.{ℕ, List, [], ◌∷◌, ◌++◌}
use Rattle.std.proofs.Common.{suc}
use Rattle.exec_graph.specs.Forests.{Branch, Twig}
use Rattle.forest_steps.specs.Places.{outputs_in, sizes_in}

abbrev pub twig_sizes : Twig → List ℕ
twig_sizes t = suc (outputs_in t.kids) ∷ sizes_in t.kids

abbrev pub twigs_sizes : List Twig → List ℕ
twigs_sizes [] = []
twigs_sizes (t ∷ ts) = twig_sizes t ++ twigs_sizes ts

abbrev pub branch_sizes : Branch → List ℕ
branch_sizes b = twigs_sizes (b.first ∷ b.more)

abbrev pub branches_sizes : List Branch → List ℕ
branches_sizes [] = []
branches_sizes (b ∷ bs) = branch_sizes b ++ branches_sizes bs
