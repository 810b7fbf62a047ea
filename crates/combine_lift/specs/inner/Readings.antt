-- What reads the first output of a node, as far as lifting asks.
use Rattle.std.specs.Prelude.{◌≡◌, ℕ, cond, List, [], ◌∷◌, Option, Some, None, nat_eq}
use Rattle.std.specs.HashMap.{HashMap, get}
use Rattle.combine_table.specs.declared.comb.Comb.{Comb}
use Rattle.exec_graph.specs.Meaning.{place}
use Rattle.exec_graph.specs.Readers.{same_place, among}
use Rattle.exec_graph.specs.declared.graph.Place.{Place}
use Rattle.exec_graph.specs.declared.graph.Node.{Node}
use Rattle.exec_graph.specs.declared.graph.Node.TheVariants.{Source, Flatten, Pdo, Gbk, Barrier}
use Rattle.exec_graph.specs.declared.graph.Entry.{Entry}
use Rattle.exec_graph.specs.declared.graph.Graph.{Graph}
use Rattle.exec_graph.specs.Wellformed.{root_comb}
use Rattle.combine_lift.specs.declared.readings.Reader.{Reader}
use Rattle.combine_lift.specs.declared.readings.Reader.TheVariants.{Combines, Other}

-- The one reader of a collection; more than one are another thing.
abbrev pub both : Option Reader → Option Reader → Option Reader
both None r = r
both (Some a) None = Some a
both (Some a) (Some b) = Some Other

-- A Pdo by the combiner of its only root.
abbrev pub reader_of : Option Comb → Reader
reader_of None = Other
reader_of (Some k) = Combines k

-- A reader of c, as one of the first output of n.
abbrev pub by_one : ℕ → Place → Reader → Option Reader
by_one n c r = cond (same_place (place n 0) c) (Some r) None

-- Readers of the collections, each by itself.
abbrev pub by_places : ℕ → List Place → Option Reader
by_places n cs = cond (among (place n 0) cs) (Some Other) None

abbrev pub by_node : ℕ → Node → Option Reader
by_node n (Source r) = None
by_node n (Flatten ins) = by_places n ins
by_node n (Pdo c f) = by_one n c (reader_of (root_comb f))
by_node n (Gbk c o l k) = by_one n c Other
by_node n (Barrier ins o l a) = by_places n ins

abbrev pub by_nodes : ℕ → List Entry → Option Reader
by_nodes n [] = None
by_nodes n (e ∷ es) = both (by_node n e.node) (by_nodes n es)

-- What reads the first output of node n.
abbrev pub reading : ℕ → Graph → Option Reader
reading n g = both (by_nodes n g.nodes) (by_places n g.outputs)

-- The combiner, where one Pdo alone reads, whose only root combines.
abbrev pub combiner : Option Reader → Option Comb
combiner None = None
combiner (Some Other) = None
combiner (Some (Combines k)) = Some k

-- The map has what it had, and beside that these readers of each node.
abbrev pub Notes : {S : Type 0} → HashMap ℕ Reader S → HashMap ℕ Reader S
    → (ℕ → Option Reader) → Type 0
Notes old new f = (n : ℕ) → get nat_eq new n ≡ both (get nat_eq old n) (f n)
