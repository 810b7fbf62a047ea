-- Which nodes give objects, as a set of their numbers is asked for it.
use Rattle.std.specs.Prelude.{◌≡◌, ℕ, ◌==◌, ◌&&◌, Bool, true, nat_eq, List, map, Some}
use Rattle.std.specs.List.{list_any, list_all}
use Rattle.std.specs.HashSet.{HashSet, contains}
use Rattle.exec_graph.specs.Objects.{takes_such}
use Rattle.exec_graph.specs.Wellformed.{is_object}
use Rattle.exec_graph.specs.declared.graph.Place.{Place}
use Rattle.exec_graph.specs.declared.graph.Node.{Node}
use Rattle.exec_graph.specs.declared.graph.Node.TheVariants.{Barrier}
use Rattle.exec_graph.specs.declared.graph.Entry.{Entry}

-- whether the node of that number gives an object
abbrev pub has_object : ℕ → Entry → Bool
has_object n e = (n == e.number) && is_object (Some e.node)

abbrev pub is_object_in : List Entry → Place → Bool
is_object_in es c = list_any (has_object c.node) es

-- the set has the numbers of the nodes that give objects
abbrev pub HasObjects : {S : Type 0} → HashSet ℕ S → List Entry → Type 0
HasObjects s es = (n : ℕ) → contains nat_eq s n ≡ list_any (has_object n) es

abbrev pub are_all : List Bool → Bool
are_all bs = list_all (λ b. b) bs

abbrev pub objects_in : List Entry → Node → Bool
objects_in es (Barrier ins o l a) = takes_such a (map (is_object_in es) ins)
objects_in es _ = true
