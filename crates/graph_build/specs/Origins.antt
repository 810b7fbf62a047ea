-- The collection of the script that each graph node is built for; the first name of a call for its
-- node.
use Rattle.std.specs.Prelude.{ℕ, ◌+◌, ◌-◌, List, [], Option, Some, None, replicate}
use Rattle.std.specs.List.{flat_map}
use Rattle.script_program.specs.declared.made.Made.{Made}
use Rattle.script_program.specs.declared.made.Made.TheVariants as made
use Rattle.script_program.specs.Script.{Script}
use Rattle.graph_build.specs.Nodes.{before_last}
use Rattle.graph_build.specs.Built.{Built, built}

-- the first name of a call, for which it is built; else the collection itself
abbrev pub origin_of : ℕ → Made → ℕ
origin_of number (made.Do source function output) = number - output
origin_of number _ = number

-- the collection that it is built for, once for each of its nodes
abbrev pub origins_at : Option Built → List ℕ
origins_at None = []
origins_at (Some it) = replicate (before_last it.made + 1) (origin_of it.number it.made)

-- by the number of the graph node, the number of the collection
abbrev pub origins_of : Script → List ℕ
origins_of script = flat_map origins_at (built script)
