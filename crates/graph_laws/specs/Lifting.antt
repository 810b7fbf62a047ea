-- Lifting: a Gbk whose only reader is one CombineValues is marked with its combiner.
use Rattle.std.specs.Prelude.{◌≡◌, ℕ, ◌==◌, Bool, cond, List, [], ◌∷◌, map, Option, Some, None}
use Rattle.combine_table.specs.declared.comb.Comb.{Comb}
use Rattle.exec_graph.specs.Wellformed.{comb_at}
use Rattle.exec_graph.specs.Meaning.{place, node_at}
use Rattle.exec_graph.specs.Readers.{among, any_node, collects, readers}
use Rattle.exec_graph.specs.declared.graph.Place.{Place}
use Rattle.exec_graph.specs.declared.graph.Node.{Node}
use Rattle.exec_graph.specs.declared.graph.Node.TheVariants.{Source, Flatten, Pdo, Gbk, Barrier}
use Rattle.exec_graph.specs.declared.graph.Entry.{Entry}
use Rattle.exec_graph.specs.declared.graph.Graph.{Graph}

-- ---- marks

-- another mark on a Gbk
abbrev pub marked : (Option Comb → Option Comb) → Node → Node
marked h (Source r) = Source r
marked h (Flatten ins) = Flatten ins
marked h (Pdo c f) = Pdo c f
marked h (Gbk c o l k) = Gbk c o l (h k)
marked h (Barrier ins o l a) = Barrier ins o l a

abbrev pub marked_entry : (ℕ → Option Comb → Option Comb) → Entry → Entry
marked_entry s e = record { number = e.number; node = marked (s e.number) e.node }

-- the same graph with other marks, each from the Gbk's number and the mark that it had
abbrev pub remarked : (ℕ → Option Comb → Option Comb) → Graph → Graph
remarked s g =
    record { nodes = map (marked_entry s) g.nodes; outputs = g.outputs; next = g.next }

-- ---- what may be lifted

-- the combiner where one Pdo alone reads
abbrev pub only_comb : List Entry → List ℕ → Option Comb
only_comb es [] = None
only_comb es (q ∷ []) = comb_at (node_at es q)
only_comb es (q ∷ (p ∷ ns)) = None

-- what the Gbk n may be lifted with: it is no script output, and one Pdo alone reads it
abbrev pub lift_of : Graph → ℕ → Option Comb
lift_of g n =
    cond (among (place n 0) g.outputs) None
    (cond (any_node (collects (place n 0)) g.nodes) None
    (only_comb g.nodes (readers g.nodes (place n 0))))

-- ---- the rewrites

-- each Gbk is lifted that may be, and no other
abbrev pub lifted : Graph → Graph
lifted g = remarked (λ n k. lift_of g n) g

-- the Gbk n is lifted, if it may be
abbrev pub lifted_at : ℕ → Graph → Graph
lifted_at n g = remarked (λ m k. cond (m == n) (lift_of g n) k) g

-- ---- one after another

-- the node n is a Gbk, and may be lifted
pub record CanLift (g : Graph) (n : ℕ) : Type 0 where
  pub input : Place
  pub origin : ℕ
  pub last : Bool
  pub mark : Option Comb
  pub gbk : node_at g.nodes n ≡ Some (Gbk input origin last mark)
  pub comb : Comb
  pub may : lift_of g n ≡ Some comb

-- Gbks are lifted one after another, each of which may be
abbrev pub LiftsLead : List ℕ → Graph → Graph → Type 0
LiftsLead [] g h = g ≡ h
LiftsLead (n ∷ ns) g h = CanLift g n × LiftsLead ns (lifted_at n g) h
