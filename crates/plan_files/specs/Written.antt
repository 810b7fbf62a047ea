-- A file of a plan as a JSON value, as it is written: the members of an object stand in the order
-- of their names.
use Rattle.std.specs.Prelude.{ℕ, ◌^◌, ◌<◌, List, [], ◌∷◌, codes, map}
use Rattle.std.specs.List.{AllByRecursion}
use Rattle.serde_json.specs.Data.{Data, number, unsigned, string, array, object, no_members, member}
use Rattle.serde_json.specs.View.{items_of}
use Rattle.graph_rewrites.specs.declared.rewrite.Rewrite.{Rewrite}
use Rattle.graph_rewrites.specs.declared.rewrite.Rewrite.TheVariants.{Merge, Sink, Lift, Kid, Sibling, Mark}

abbrev pub name_of : Rewrite → List ℕ
name_of (Merge outer inner) = codes "merge"
name_of (Sink flatten pdo) = codes "sink"
name_of (Lift group) = codes "lift"
name_of (Kid keeper output reader) = codes "kid"
name_of (Sibling keeper other) = codes "sibling"
name_of (Mark node output) = codes "mark"

abbrev pub numbers_at : Rewrite → List ℕ
numbers_at (Merge outer inner) = outer ∷ (inner ∷ [])
numbers_at (Sink flatten pdo) = flatten ∷ (pdo ∷ [])
numbers_at (Lift group) = group ∷ []
numbers_at (Kid keeper output reader) = keeper ∷ (output ∷ (reader ∷ []))
numbers_at (Sibling keeper other) = keeper ∷ (other ∷ [])
numbers_at (Mark node output) = node ∷ (output ∷ [])

-- 32 bits hold its numbers
abbrev pub HasSmallNumbers : Rewrite → Type 0
HasSmallNumbers r = AllByRecursion (λ n. n < 2 ^ 32) (numbers_at r)

abbrev pub number_json : ℕ → Data
number_json n = number (unsigned n)

abbrev pub numbers_json : List ℕ → Data
numbers_json ns = array (items_of (map number_json ns))

abbrev pub rewrite_json : Rewrite → Data
rewrite_json r =
    object (member (codes "at") (numbers_json (numbers_at r))
    (member (codes "op") (string (name_of r)) no_members))

abbrev pub rewrites_json : List Rewrite → Data
rewrites_json rewrites = array (items_of (map rewrite_json rewrites))

-- a plan and rewrites, each as a value
abbrev pub both_json : Data → Data → Data
both_json plan rewrites =
    object (member (codes "plan") plan (member (codes "rewrites") rewrites no_members))

abbrev pub file_json : Data → List Rewrite → Data
file_json plan rewrites = both_json plan (rewrites_json rewrites)
