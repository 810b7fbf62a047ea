-- The sizes of a script's collections, where some were kept and a run has counted others. They are
-- told by the numbers of collections, whatever their names.
use Rattle.std.specs.Prelude.{◌==◌, ◌++◌, ℕ, List, [], ◌∷◌, map, if◌then◌else◌}
use Rattle.std.specs.List.{flat_map}
use Rattle.flume_value.specs.declared.value.Value.{Value}
use Rattle.saved_results.specs.declared.saved.Saved.{Saved}
use Rattle.saved_results.specs.declared.saved.Size.{Size}
use Rattle.script_program.specs.Needed.{needed_nodes}
use Rattle.script_program.specs.Rested.{rested}
use Rattle.script_program.specs.Script.{Node, Script}
use Rattle.kept_results.specs.Lists.{later_of}

-- ---- collections, by number and name

abbrev pub named_only : ℕ × (List ℕ × Node) → ℕ × List ℕ
named_only it = (it.0, it.1.0)

-- those that the one of that number rests on, in order
abbrev pub rested_nodes : Script → ℕ → List (ℕ × List ℕ)
rested_nodes script number = map named_only (rested script number)

-- those that a script needs, in order
abbrev pub nodes_needed : Script → List (ℕ × List ℕ)
nodes_needed script = map named_only (needed_nodes script)

-- ---- sizes by number

-- sizes beside the numbers of these collections
abbrev pub size_pairs : List (ℕ × List ℕ) → List ℕ → List (ℕ × ℕ)
size_pairs [] sizes = []
size_pairs (it ∷ nodes) [] = []
size_pairs (it ∷ nodes) (size ∷ sizes) = (it.0, size) ∷ size_pairs nodes sizes

-- what was kept with what was found
abbrev pub sizes_kept : Script → List (ℕ × Saved) → List (ℕ × ℕ)
sizes_kept script found =
    flat_map
    (λ it. size_pairs (rested_nodes script it.0) (map (λ size. size.members) it.1.sizes)) found

-- and behind that what a run of the script has counted in which that is kept
abbrev pub sizes_known : Script → List (ℕ × Saved) → List (List ℕ × ℕ) → List (ℕ × ℕ)
sizes_known script found ran =
    sizes_kept script found
    ++ size_pairs (nodes_needed (later_of script found)) (map (λ line. line.1) ran)

-- the first size beside a number; 0 where there is none
abbrev pub size_at : List (ℕ × ℕ) → ℕ → ℕ
size_at [] number = 0
size_at (it ∷ known) number = if it.0 == number then it.1 else size_at known number

-- ---- what is told of them

-- the names and the sizes of these collections
abbrev pub sizes_told : List (ℕ × ℕ) → List (ℕ × List ℕ) → List (List ℕ × ℕ)
sizes_told known nodes = map (λ it. (it.1, size_at known it.0)) nodes

abbrev pub size_entry : List (ℕ × ℕ) → ℕ × List ℕ → Size
size_entry known it = record { name = it.1; members = size_at known it.0 }

-- what is kept of a collection that rests on these: its members, and their sizes
abbrev pub to_keep : List (ℕ × ℕ) → List (ℕ × List ℕ) → List Value → Saved
to_keep known nodes members =
    record { members = members; sizes = map (size_entry known) nodes }
