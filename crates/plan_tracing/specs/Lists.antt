-- Lifts and marks, as lists of rewrites.
use Rattle.std.specs.Prelude.{◌⊎◌, ◌≡◌, ◌<◌, cond, List, [], ◌∷◌, Some}
use Rattle.std.specs.List.{AllByRecursion}
use Rattle.exec_graph.specs.Wellformed.{is_lifted}
use Rattle.exec_graph.specs.declared.graph.Entry.{Entry}
use Rattle.exec_graph.specs.declared.graph.Place.{Place}
use Rattle.graph_rewrites.specs.declared.rewrite.Rewrite.{Rewrite}
use Rattle.graph_rewrites.specs.declared.rewrite.Rewrite.TheVariants.{Lift, Mark}

-- a lift of each group that is lifted
abbrev pub lifts_in : List Entry → List Rewrite
lifts_in [] = []
lifts_in (e ∷ es) = cond (is_lifted (Some e.node)) (Lift e.number ∷ lifts_in es) (lifts_in es)

abbrev pub mark_of : Place → Rewrite
mark_of c = Mark c.node c.out

-- the node decides, and then the output
abbrev pub IsBefore : Place → Place → Type 0
IsBefore c d = (c.node < d.node) ⊎ ((c.node ≡ d.node) × (c.out < d.out))

-- ascending, each once
abbrev pub Rise : List Place → Type 0
Rise [] = Unit {0}
Rise (c ∷ cs) = AllByRecursion (IsBefore c) cs × Rise cs
