-- What the steps of a forest give of elements that are taken one after another.
use Rattle.std.specs.Prelude.{ℕ, cond, min, ◌+◌, ◌-◌, ◌^◌, List, [], ◌∷◌, ◌++◌, map, length, Option, Some, None}
use Rattle.std.specs.List.{flat_map}
use Rattle.flume_value.specs.declared.value.Value.{Value}
use Rattle.flume_collection.specs.declared.trap.Trap.{Trap}
use Rattle.exec_plan.specs.of_exec_graph.World.{World}
use Rattle.exec_plan.specs.of_exec_graph.Calls.{emitted, trapped, is_own}
use Rattle.exec_plan.specs.of_exec_graph.Forests.{Label, Forest, Bare, Grow}
use Rattle.exec_plan.specs.of_exec_graph.Meaning.{is_out, has_out}
use Rattle.exec_plan.specs.Channels.{output_numbers_of}

-- ---- of one element

-- what is emitted to the output j
abbrev pub out_at : World → Forest → ℕ → Value → List Value
out_at w Bare j x = []
out_at w (Grow l kids rest) j x =
    cond (is_out l.out j) (emitted w l x)
    (cond (has_out j kids) (flat_map (out_at w kids j) (emitted w l x)) (out_at w rest j x))

-- what q says of the steps, in the order in which they are called: each root in order, and after a
-- root, on each of its emissions in order, each kid in order
abbrev pub visits : {Y : Type 0} → World → (Label → Value → List Y) → Forest → Value → List Y
visits w q Bare x = []
visits w q (Grow l kids rest) x =
    q l x ++ (flat_map (visits w q kids) (emitted w l x) ++ visits w q rest x)

-- the same of a forest, or of the identity, whose one output 0 is the element itself
abbrev pub output_at : World → Option Forest → ℕ → Value → List Value
output_at w None j x = x ∷ []
output_at w (Some f) j x = out_at w f j x

abbrev pub visits_of : {Y : Type 0} → World → (Label → Value → List Y) → Option Forest → Value
    → List Y
visits_of w q None x = []
visits_of w q (Some f) x = visits w q f x

-- ---- of a list of elements

-- what is emitted to the output j, in order of the elements
abbrev pub emissions_at : World → Option Forest → List Value → ℕ → List Value
emissions_at w f xs j = flat_map (output_at w f j) xs

-- what is emitted to each of its outputs
abbrev pub all_emissions : World → Option Forest → List Value → List (List Value)
all_emissions w f xs = map (emissions_at w f xs) (output_numbers_of f)

-- the traps, in the order in which the steps are called
abbrev pub traps_in_order : World → Option Forest → List Value → List Trap
traps_in_order w f xs = flat_map (visits_of w (trapped w) f) xs

-- what each output of each step emits, in preorder, the outputs of a step side by side
abbrev pub step_lists : World → Forest → List Value → List (List Value)
step_lists w Bare xs = []
step_lists w (Grow l kids rest) xs =
    flat_map (emitted w l) xs
    ∷ (step_lists w kids (flat_map (emitted w l) xs) ++ step_lists w rest xs)

-- how many elements each of them emits
abbrev pub counts_of : World → Option Forest → List Value → List ℕ
counts_of w None xs = []
counts_of w (Some f) xs = map length (step_lists w f xs)

-- the outputs of the steps, in preorder
abbrev pub labels_in : Forest → List Label
labels_in Bare = []
labels_in (Grow l kids rest) = l ∷ (labels_in kids ++ labels_in rest)

abbrev pub labels_of : Option Forest → List Label
labels_of None = []
labels_of (Some f) = labels_in f

-- how many of the counted elements are members of the bag of script node i
abbrev pub own_count : ℕ → List Label → List ℕ → ℕ
own_count i (l ∷ ls) (n ∷ ns) = cond (is_own i l) n 0 + own_count i ls ns
own_count i _ _ = 0

-- a count as a run keeps it, which stops at its last value
abbrev pub kept_count : ℕ → ℕ
kept_count n = min n (2 ^ 64 - 1)
