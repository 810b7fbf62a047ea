-- The outputs of a forest's steps, in preorder.
use Rattle.std.specs.Prelude.{◌==◌, List, [], ◌∷◌, ◌++◌}
use Rattle.exec_graph.specs.Forests.{Label, Forest, Bare, Grow}
use Rattle.exec_graph.specs.declared.spots.Spot.{Spot}

abbrev pub spot_of : Label → Spot
spot_of l = record { first = l.at == 0; out = l.out }

abbrev pub spots : Forest → List Spot
spots Bare = []
spots (Grow l kids rest) = spot_of l ∷ (spots kids ++ spots rest)
