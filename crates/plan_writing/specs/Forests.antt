-- How a forest of steps is printed.
use Rattle.std.specs.Prelude.{ℕ, ◌+◌, ◌==◌, ◌&&◌, ◌||◌, Bool, true, false, not, List, [], ◌++◌, codes, decimal, Option, Some, None, if◌then◌else◌}
use Rattle.exec_graph.specs.Forests.{Forest, Bare, Grow, Label}
use Rattle.plan_writing.specs.Naming.{Naming}

abbrev pub is_bare : Forest → Bool
is_bare Bare = true
is_bare (Grow label kids rest) = false

-- whether the first output of the forest is a further one of a step that began before it
abbrev pub is_further_output : Forest → Bool
is_further_output Bare = false
is_further_output (Grow label kids rest) = not (label.at == 0)

-- the number of an output that is kept
abbrev pub number_text : Option ℕ → List ℕ
number_text None = []
number_text (Some number) = codes ">" ++ decimal number

-- the steps on an output, whose text this is, where there are any
abbrev pub kids_text : Forest → List ℕ → List ℕ
kids_text kids text = if is_bare kids then [] else codes "(" ++ (text ++ codes ")")

-- whether an output is kept, or has steps on it
abbrev pub is_used : Option ℕ → Forest → Bool
is_used None kids = not (is_bare kids)
is_used (Some number) kids = true

-- which of its step's outputs it is, from 1 on, as scripts count them: where the step has several,
-- and this one is used
abbrev pub which_text : Bool → Label → Forest → List ℕ
which_text is_one_of_several label kids =
    if is_one_of_several && is_used label.out kids then codes "/" ++ decimal (label.at + 1) else []

-- the step, where this is its first output, behind what stands before it
abbrev pub begun_text : Naming → List ℕ → Label → List ℕ
begun_text names before label =
    if label.at == 0 then before ++ names.step label.origin label.does else []

-- The steps of a forest, parted by spaces, behind what stands before the first. A step is what it
-- does and then its outputs.
abbrev pub steps_text : Naming → List ℕ → Forest → List ℕ
steps_text names before Bare = []
steps_text names before (Grow label kids rest) =
    begun_text names before label
    ++ (which_text (not (label.at == 0) || is_further_output rest) label kids
    ++ (number_text label.out
    ++ (kids_text kids (steps_text names [] kids) ++ steps_text names (codes " ") rest)))

-- the steps of a channel; without steps it is the identity
abbrev pub forest_text : Naming → Option Forest → List ℕ
forest_text names None = codes "="
forest_text names (Some steps) = steps_text names [] steps
