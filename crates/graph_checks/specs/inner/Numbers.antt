-- What is given, and what is read, as sets of collections are asked for it.
use Rattle.std.specs.Prelude.{ℕ, ◌==◌, nat_lt, ◌&&◌, Bool, true, List, [], ◌∷◌, Option, Some, None}
use Rattle.std.specs.List.{list_any, list_all}
use Rattle.exec_graph.specs.Meaning.{gives, is_out}
use Rattle.exec_graph.specs.declared.graph.Node.{Node}
use Rattle.exec_graph.specs.declared.graph.Node.TheVariants.{Source, Flatten, Pdo, Gbk, Barrier}
use Rattle.exec_graph.specs.declared.graph.Place.{Place}
use Rattle.exec_graph.specs.declared.graph.Entry.{Entry}
use Rattle.exec_graph.specs.declared.spots.Spot.{Spot}

-- whether the node gives the collection
abbrev pub gives_place : Place → Entry → Bool
gives_place c e = (c.node == e.number) && gives e.node c.out

-- whether a spot of node n is the collection
abbrev pub spot_place : ℕ → Place → Spot → Bool
spot_place n c s = (c.node == n) && is_out s.out c.out

-- whether some node gives the collection
abbrev pub is_given : List Entry → Place → Bool
is_given es c = list_any (gives_place c) es

-- whether nodes give all that a node reads
abbrev pub reads_given : List Entry → Node → Bool
reads_given es (Source r) = true
reads_given es (Flatten ins) = list_all (is_given es) ins
reads_given es (Pdo c f) = is_given es c
reads_given es (Gbk c o l k) = is_given es c
reads_given es (Barrier ins o l a) = list_all (is_given es) ins

abbrev pub above : Option ℕ → ℕ → Bool
above None n = true
above (Some m) n = nat_lt m n

-- whether the numbers rise from one on, and are below the next one
abbrev pub up_from : Option ℕ → ℕ → List Entry → Bool
up_from low next [] = true
up_from low next (e ∷ es) =
    above low e.number && (nat_lt e.number next && up_from (Some e.number) next es)
