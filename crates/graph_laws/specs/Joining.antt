-- Two Pdos become one: as a kid of the step that it reads, or beside one that reads the same.
use Rattle.std.specs.Prelude.{◌≡◌, ℕ, ◌⊎◌, true, false, cond, ◌==◌, List, [], ◌∷◌, map, Some}
use Rattle.exec_graph.specs.Forests.{Forest, Bare, Grow}
use Rattle.exec_graph.specs.declared.graph.Place.{Place}
use Rattle.exec_graph.specs.declared.graph.Node.{Node}
use Rattle.exec_graph.specs.declared.graph.Node.TheVariants.{Source, Flatten, Pdo, Gbk, Barrier}
use Rattle.exec_graph.specs.declared.graph.Entry.{Entry}
use Rattle.exec_graph.specs.declared.graph.Graph.{Graph}
use Rattle.exec_graph.specs.Meaning.{place, is_out, has_out, node_at}

-- ---- forests

-- the roots of g behind those of a forest
abbrev pub beside : Forest → Forest → Forest
beside Bare g = g
beside (Grow l kids rest) g = Grow l kids (beside rest g)

-- the roots of g as kids of the step with output j, behind those that it has
abbrev pub grafted : ℕ → Forest → Forest → Forest
grafted j g Bare = Bare
grafted j g (Grow l kids rest) =
    cond (is_out l.out j) (Grow l (beside kids g) rest)
    (Grow l (grafted j g kids) (grafted j g rest))

-- just one step keeps the output j
abbrev pub HasOne : ℕ → Forest → Type 0
HasOne j Bare = ⊥
HasOne j (Grow l kids rest) =
    ((is_out l.out j ≡ true) × (has_out j kids ≡ false) × (has_out j rest ≡ false))
    ⊎ ((is_out l.out j ≡ false) × HasOne j kids × (has_out j rest ≡ false))
    ⊎ ((is_out l.out j ≡ false) × (has_out j kids ≡ false) × HasOne j rest)

-- ---- nodes

-- the node n is another
abbrev pub set_node : List Entry → ℕ → Node → List Entry
set_node [] n x = []
set_node (e ∷ es) n x =
    cond (e.number == n) (record { number = n; node = x } ∷ es) (e ∷ set_node es n x)

abbrev pub without : List Entry → ℕ → List Entry
without [] n = []
without (e ∷ es) n = cond (e.number == n) es (e ∷ without es n)

-- what was an output of q is that output of p
abbrev pub moved : ℕ → ℕ → Place → Place
moved p q c = cond (c.node == q) (place p c.out) c

-- a node that reads other collections
abbrev pub reread : (Place → Place) → Node → Node
reread r (Source s) = Source s
reread r (Flatten ins) = Flatten (map r ins)
reread r (Pdo c f) = Pdo (r c) f
reread r (Gbk c o l k) = Gbk (r c) o l k
reread r (Barrier ins o l a) = Barrier (map r ins) o l a

abbrev pub reread_entry : (Place → Place) → Entry → Entry
reread_entry r e = record { number = e.number; node = reread r e.node }

-- the Pdo p of c has the forest f, and takes in the Pdo q
abbrev pub joined_into : Graph → ℕ → ℕ → Place → Forest → Graph
joined_into g p q c f = record {
  nodes = map (reread_entry (moved p q)) (set_node (without g.nodes q) p (Pdo c f));
  outputs = map (moved p q) g.outputs;
  next = g.next;
}

-- the Pdos p of c with f and q of d with h; no output has one number in both
pub record CanJoin (g : Graph) (p q : ℕ) (c d : Place) (f h : Forest) : Type 0 where
  pub keeper : node_at g.nodes p ≡ Some (Pdo c f)
  pub other : node_at g.nodes q ≡ Some (Pdo d h)
  pub apart : p ≡ q → ⊥
  pub disjoint : (j : ℕ) → has_out j f ≡ true → has_out j h ≡ true → ⊥

abbrev pub as_kid : Graph → ℕ → ℕ → Place → ℕ → Forest → Forest → Graph
as_kid g p q c j f h = joined_into g p q c (grafted j h f)

abbrev pub as_sibling : Graph → ℕ → ℕ → Place → Forest → Forest → Graph
as_sibling g p q c f h = joined_into g p q c (beside f h)
