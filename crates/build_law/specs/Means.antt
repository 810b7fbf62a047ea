-- When a graph means what a script means.
use Rattle.std.specs.Prelude.{◌≡◌, ℕ, List, Option, Some, map, slice_get}
use Rattle.flume_collection.specs.Collection.{Collection}
use Rattle.exec_graph.specs.Meaning.{all_traps, collection, own_bag}
use Rattle.exec_graph.specs.World.{World}
use Rattle.exec_graph.specs.declared.graph.Graph.{Graph}
use Rattle.graph_build.specs.of_script_program.Needed.{made_of}
use Rattle.graph_build.specs.of_script_program.declared.made.Made.{Made}
use Rattle.graph_build.specs.of_script_program.declared.made.Made.TheVariants as made
use Rattle.graph_build.specs.of_script_program.Script.{Script}
use Rattle.direct_meaning.specs.Direct.{made_at, traps_of}

-- all but inputs, kept collections, and collections together, are made by calls, groups,
-- combinations or barriers of their own
abbrev pub HasOwn : Made → Type 0
HasOwn (made.Input file columns) = ⊥
HasOwn (made.Flatten sources) = ⊥
HasOwn (made.Saved is_object call) = ⊥
HasOwn _ = Unit {0}

-- In the world, the graph means the collections that the script means: outputs are the collections
-- that the script's outputs read, the bag of each collection that has its own calls, groups,
-- combinations or barriers is theirs, and the traps are all those of the script.
pub record IsMeaning (w : World) (script : Script) (made : List (Option Collection))
    (g : Graph) : Type 0 where
  pub outputs :
      map (λ c. Some (collection w g c)) g.outputs
      ≡ map (λ output. made_at made output.1.reads) script.outputs
  pub own :
      (j : ℕ) (how : Made) (c : Collection) → slice_get (made_of script) j ≡ Some how
      → HasOwn how → made_at made j ≡ Some c → own_bag w (collection w g) g.nodes j ≡ c.bag
  pub traps : all_traps w (collection w g) g.nodes ≡ traps_of made
