-- What a JSON value is as a file of a plan: an object of a plan, which may be any value, and of
-- rewrites, each an object of its numbers and its name.
use Rattle.std.specs.Prelude.{◌≡◌, ℕ, ◌^◌, ◌==◌, List, [], ◌∷◌, codes, Option, Some, None, Result, Ok, Err, nat_lt, option_and_then, if◌then◌else◌}
use Rattle.std.specs.Option.{option_map}
use Rattle.std.specs.Str.{bytes_eq}
use Rattle.serde_json.specs.Data.{Data, Items, no_items, item, Members}
use Rattle.serde_json.specs.Events.{members_len}
use Rattle.serde_json.specs.Find.{as_array, as_number, as_object, as_str, as_u64, get}
use Rattle.serde_json.specs.Written.{compact_text}
use Rattle.graph_rewrites.specs.declared.rewrite.Rewrite.{Rewrite}
use Rattle.graph_rewrites.specs.declared.rewrite.Rewrite.TheVariants.{Merge, Sink, Lift, Kid, Sibling, Mark}
use Rattle.plan_files.specs.Numbers.{has_number}
use Rattle.plan_files.specs.declared.file.PlanFile.{PlanFile}
use Rattle.plan_files.specs.declared.file.FileFault.{FileFault}
use Rattle.plan_files.specs.declared.file.FileFault.TheVariants.{NotJson, Shape, Memory}

-- ---- objects of two members, and lists

-- how many members an object has
abbrev pub members_counted : Option Members → ℕ
members_counted None = 0
members_counted (Some ms) = members_len ms

abbrev pub both_data : Option Data → Option Data → Option (Data × Data)
both_data None second = None
both_data (Some a) None = None
both_data (Some a) (Some b) = Some (a, b)

-- the two members of those names of an object that has no other
abbrev pub two_members : List ℕ → List ℕ → Data → Option (Data × Data)
two_members first second d =
    if members_counted (as_object d) == 2 then both_data (get first d) (get second d) else None

-- what all values are, where each is something
abbrev pub all_of : {X : Type 0} → (Data → Option X) → Items → Option (List X)
all_of of no_items = Some []
all_of of (item d ds) = option_and_then (λ x. option_map (λ xs. x ∷ xs) (all_of of ds)) (of d)

-- ---- rewrites

-- a number, where 32 bits without a sign hold it
abbrev pub small : ℕ → Option ℕ
small n = if nat_lt n (2 ^ 32) then Some n else None

abbrev pub number_in_data : Data → Option ℕ
number_in_data d = option_and_then small (option_and_then as_u64 (as_number d))

abbrev pub numbers_of : Data → Option (List ℕ)
numbers_of d = option_and_then (all_of number_in_data) (as_array d)

-- the rewrite of that name at two numbers
abbrev pub rewrite_at_two : List ℕ → ℕ → ℕ → Option Rewrite
rewrite_at_two op first second =
    if bytes_eq op (codes "merge") then Some (Merge first second)
    else if bytes_eq op (codes "sink") then Some (Sink first second)
    else if bytes_eq op (codes "sibling") then Some (Sibling first second)
    else if bytes_eq op (codes "mark") then Some (Mark first second)
    else None

-- the rewrite of that name at these numbers
abbrev pub rewrite_at : List ℕ → List ℕ → Option Rewrite
rewrite_at op (group ∷ []) = if bytes_eq op (codes "lift") then Some (Lift group) else None
rewrite_at op (first ∷ (second ∷ [])) = rewrite_at_two op first second
rewrite_at op (keeper ∷ (output ∷ (reader ∷ []))) =
    if bytes_eq op (codes "kid") then Some (Kid keeper output reader) else None
rewrite_at op _ = None

-- numbers and a name
abbrev pub rewrite_from : Data × Data → Option Rewrite
rewrite_from p =
    option_and_then (λ at. option_and_then (λ op. rewrite_at op at) (as_str p.1))
    (numbers_of p.0)

abbrev pub rewrite_of : Data → Option Rewrite
rewrite_of d = option_and_then rewrite_from (two_members (codes "at") (codes "op") d)

abbrev pub rewrites_of : Data → Option (List Rewrite)
rewrites_of d = option_and_then (all_of rewrite_of) (as_array d)

-- ---- files

-- the compact text of a value in which no number stands
abbrev pub numberless_text : Data → Option (List ℕ)
numberless_text d = if has_number d then None else Some (compact_text d)

-- a plan and rewrites
abbrev pub file_from : Data × Data → Option PlanFile
file_from p =
    option_map (λ rewrites. record { rewrites = rewrites; plan = numberless_text p.0 })
    (rewrites_of p.1)

abbrev pub plan_file_of : Data → Option PlanFile
plan_file_of d = option_and_then file_from (two_members (codes "plan") (codes "rewrites") d)

-- it is told so of a value: its file, or that it is of another form
abbrev pub Tells : Data → Result PlanFile FileFault → Type 0
Tells d (Ok file) = plan_file_of d ≡ Some file
Tells d (Err NotJson) = ⊥
Tells d (Err Shape) = plan_file_of d ≡ None
Tells d (Err Memory) = Unit {0}
