-- How often a collection is read.
use Rattle.std.specs.Prelude.{◌≡◌, ℕ, ◌+◌, ◌<◌, ◌^◌, Bool, cond, List, [], ◌∷◌, Option, Some, None, nat_eq}
use Rattle.std.specs.HashMap.{HashMap, get}
use Rattle.exec_graph.specs.Meaning.{reads}
use Rattle.exec_graph.specs.Places.{code}
use Rattle.exec_graph.specs.Readers.{same_place}
use Rattle.exec_graph.specs.declared.graph.Entry.{Entry}
use Rattle.exec_graph.specs.declared.graph.Graph.{Graph}
use Rattle.exec_graph.specs.declared.graph.Place.{Place}

abbrev pub one_if : Bool → ℕ
one_if b = cond b 1 0

abbrev pub times_read : Place → List Place → ℕ
times_read c [] = 0
times_read c (d ∷ ds) = one_if (same_place c d) + times_read c ds

abbrev pub times_in : Place → List Entry → ℕ
times_in c [] = 0
times_in c (e ∷ es) = times_read c (reads e.node) + times_in c es

-- by nodes and by script outputs
abbrev pub readings : Graph → Place → ℕ
readings g c = times_in c g.nodes + times_read c g.outputs

abbrev pub or_zero : Option ℕ → ℕ
or_zero None = 0
or_zero (Some n) = n

abbrev pub count_at_place : {S : Type 0} → HashMap ℕ ℕ S → Place → ℕ
count_at_place m c = or_zero (get nat_eq m (code c))

-- the map tells it of each collection
abbrev pub HasCounts : {S : Type 0} → HashMap ℕ ℕ S → Graph → Type 0
HasCounts m g = (c : Place) → c.out < 2 ^ 32 → count_at_place m c ≡ readings g c
