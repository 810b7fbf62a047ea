-- How far the readers of nodes stand.
use Rattle.std.specs.Prelude.{◌≡◌, ℕ, ◌+◌, ◌<◌, ◌≤◌, ◌==◌, nat_lt, cond, List, [], ◌∷◌, Option, Some, None}
use Rattle.std.specs.List.{AllByRecursion}
use Rattle.exec_graph.specs.Meaning.{reads}
use Rattle.exec_graph.specs.declared.graph.Place.{Place}
use Rattle.exec_graph.specs.declared.graph.Node.{Node}
use Rattle.exec_graph.specs.declared.graph.Entry.{Entry}
use Rattle.exec_graph.specs.declared.graph.Graph.{Graph}
use Rattle.sink_laws.specs.declared.pair.Pair.{Pair}
use Rattle.flatten_sink.specs.declared.ends.Reach.{Reach}

-- All readers of the node n are below the end.
abbrev pub AreBelow : ℕ → ℕ → List Entry → Type 0
AreBelow n end es =
    AllByRecursion (λ (e : Entry).
    AllByRecursion (λ (c : Place). c.node ≡ n → e.number < end) (reads e.node)) es

-- The readers of the pair's Flatten and those of its Pdo are below these ends.
pub record IsReach (g : Graph) (p : Pair) (r : Reach) : Type 0 where
  pub flatten : AreBelow p.flatten r.flatten g.nodes
  pub pdo : AreBelow p.other r.pdo g.nodes

-- ---- the ends of a graph's nodes

abbrev pub higher : ℕ → ℕ → ℕ
higher a b = cond (nat_lt a b) b a

-- The end of n, where it was a and a node before the end k reads these.
abbrev pub raised : ℕ → List Place → ℕ → ℕ → ℕ
raised k [] n a = a
raised k (c ∷ cs) n a = raised k cs n (cond (n == c.node) (higher a k) a)

-- The end of n, where it was a before these nodes.
abbrev pub end_behind : List Entry → ℕ → ℕ → ℕ
end_behind [] n a = a
end_behind (e ∷ es) n a = end_behind es n (raised (e.number + 1) (reads e.node) n a)

-- ---- the ends that are known

abbrev pub or_zero : Option ℕ → ℕ
or_zero None = 0
or_zero (Some n) = n

-- What is known of n, once nothing is known of these.
abbrev pub unless_among : List Place → ℕ → Option ℕ → Option ℕ
unless_among [] n o = o
unless_among (c ∷ cs) n o = unless_among cs n (cond (n == c.node) None o)

-- Of the numbers from the first new one on nothing is known.
abbrev pub known : ℕ → (ℕ → Option ℕ) → ℕ → Option ℕ
known first ends n = cond (nat_lt n first) (ends n) None

-- The node x of the number n is below the ends of all that it reads.
abbrev pub IsWithin : (ℕ → Option ℕ) → ℕ → Node → Type 0
IsWithin ends n x =
    AllByRecursion (λ (c : Place). (k : ℕ) → ends c.node ≡ Some k → n < k) (reads x)

abbrev pub AreWithin : (ℕ → Option ℕ) → List Entry → Type 0
AreWithin ends es = AllByRecursion (λ (e : Entry). IsWithin ends e.number e.node) es

-- The ends that are known are those of the graph.
pub record AreEnds (g : Graph) (first : ℕ) (ends : ℕ → Option ℕ) : Type 0 where
  pub low : first ≤ g.next
  pub within : AreWithin (known first ends) g.nodes
