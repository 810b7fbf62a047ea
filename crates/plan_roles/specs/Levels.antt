-- The level of a node: the greatest number of Gbks on a path from a source to it, itself included.
use Rattle.std.specs.Prelude.{◌≡◌, ℕ, ◌+◌, ◌≤◌, true, cond, List, [], ◌∷◌, map, length, max, Option, Some, None}
use Rattle.std.proofs.Common.{zero, suc}
use Rattle.exec_graph.specs.Meaning.{node_at, reads}
use Rattle.exec_graph.specs.Objects.{gives_object}
use Rattle.exec_graph.specs.Readers.{among}
use Rattle.exec_graph.specs.declared.graph.Input.{Input}
use Rattle.exec_graph.specs.declared.graph.Place.{Place}
use Rattle.exec_graph.specs.declared.graph.Node.{Node}
use Rattle.exec_graph.specs.declared.graph.Node.TheVariants.{Source, Flatten, Pdo, Gbk, Barrier}
use Rattle.exec_graph.specs.declared.graph.Entry.{Entry}
use Rattle.exec_graph.specs.declared.graph.Graph.{Graph}

-- ---- by paths

-- how many Gbks the node is; what makes an object of collections counts as one
abbrev pub one_gbk : Node → ℕ
one_gbk (Source r) = 0
one_gbk (Flatten ins) = 0
one_gbk (Pdo c f) = 0
one_gbk (Gbk c o l k) = 1
one_gbk (Barrier [] o l a) = 0
one_gbk (Barrier (c ∷ cs) o l a) = cond (gives_object a) 1 0

-- a path from a source to the node n, with so many Gbks on it
pub data IsPath (es : List Entry) : ℕ → ℕ → Type 0 where
  begins : {n : ℕ} {r : Input} → node_at es n ≡ Some (Source r) → IsPath es n 0
  goes : {n gbks : ℕ} {x : Node} (c : Place) → node_at es n ≡ Some x → among c (reads x) ≡ true
      → IsPath es c.node gbks → IsPath es n (one_gbk x + gbks)

-- some path has so many Gbks, and none has more
pub record IsLevel (es : List Entry) (n level : ℕ) : Type 0 where
  pub path : IsPath es n level
  pub most : (gbks : ℕ) → IsPath es n gbks → gbks ≤ level

-- ---- as a number

abbrev pub greatest_number : List ℕ → ℕ
greatest_number [] = 0
greatest_number (n ∷ ns) = max n (greatest_number ns)

-- the level of a node, by those of the nodes that it reads
abbrev pub level_by : (ℕ → ℕ) → Node → ℕ
level_by l x = one_gbk x + greatest_number (map (λ (c : Place). l c.node) (reads x))

abbrev pub level_at : (ℕ → ℕ) → Option Node → ℕ
level_at l None = 0
level_at l (Some x) = level_by l x

-- the greatest number of Gbks on a path of at most so many nodes
unfoldable pub level_within : List Entry → ℕ → ℕ → ℕ
level_within es zero n = 0
level_within es (suc nodes) n = level_at (level_within es nodes) (node_at es n)

-- the level of the node n: a path has no more nodes than there are
unfoldable pub level : List Entry → ℕ → ℕ
level es n = level_within es (suc (length es)) n

-- each node's level is what it is by those that the node reads, and the greatest number of Gbks on
-- a path to it
abbrev pub HasLevels : Graph → Type 0
HasLevels g =
    (n : ℕ) (x : Node) → node_at g.nodes n ≡ Some x →
    (level g.nodes n ≡ level_by (level g.nodes) x) × IsLevel g.nodes n (level g.nodes n)
