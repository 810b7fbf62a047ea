-- When a graph is well-formed.
use Rattle.std.specs.Prelude.{◌≡◌, ℕ, ◌+◌, ◌<◌, ◌≤◌, Bool, true, false, List, [], ◌∷◌, length, map, Option, Some, None}
use Rattle.std.specs.List.{AllByRecursion}
use Rattle.combine_table.specs.declared.comb.Comb.{Comb}
use Rattle.exec_graph.specs.declared.step.Does.{Does}
use Rattle.exec_graph.specs.declared.step.Does.TheVariants as does
use Rattle.exec_graph.specs.Forests.{Forest, Bare, Grow, steps, numbered}
use Rattle.exec_graph.specs.Meaning.{place, node_at, reads, has_out, IsThere, IsRankedBy}
use Rattle.flume_value.specs.declared.value.Value.{Value}
use Rattle.exec_graph.specs.World.{World}
use Rattle.exec_graph.specs.Objects.{gives_object, takes_such}
use Rattle.exec_graph.specs.Readers.{among, any_node, collects, readers, is_read}
use Rattle.exec_graph.specs.declared.graph.Place.{Place}
use Rattle.exec_graph.specs.declared.graph.Node.{Node}
use Rattle.exec_graph.specs.declared.graph.Node.TheVariants.{Source, Flatten, Pdo, Gbk, Barrier}
use Rattle.exec_graph.specs.declared.graph.Entry.{Entry}
use Rattle.exec_graph.specs.declared.graph.Graph.{Graph}
use Rattle.exec_graph.specs.declared.graph.Blocked.{Blocked}

-- the numbers ascend
abbrev pub Ascends : List Entry → Type 0
Ascends [] = Unit {0}
Ascends (e ∷ es) = AllByRecursion (λ d. e.number < d.number) es × Ascends es

-- all that is read is there, and no path returns to its node
pub record IsFounded (g : Graph) : Type 0 where
  pub ascends : Ascends g.nodes
  pub below : AllByRecursion (λ e. e.number < g.next) g.nodes
  pub there : AllByRecursion (λ e. AllByRecursion (IsThere g.nodes) (reads e.node)) g.nodes
  pub told : AllByRecursion (IsThere g.nodes) g.outputs
  pub ranked : (r : ℕ → ℕ) × IsRankedBy r g.nodes

-- ---- the nodes

-- the outputs of the forest of Pdo n have the numbers from 0 on in preorder, each once, and each is
-- read
pub record IsForestOk (g : Graph) (n : ℕ) (f : Forest) : Type 0 where
  pub order : numbered 0 f ≡ f
  pub read : (j : ℕ) → has_out j f ≡ true → is_read g (place n j) ≡ true

abbrev pub comb_of : Does → Option Comb
comb_of (does.Combine k) = Some k
comb_of _ = None

-- the combiner of a forest whose one root combines
abbrev pub root_comb : Forest → Option Comb
root_comb Bare = None
root_comb (Grow l kids Bare) = comb_of l.does
root_comb (Grow l kids (Grow m others rest)) = None

abbrev pub comb_at : Option Node → Option Comb
comb_at None = None
comb_at (Some (Source r)) = None
comb_at (Some (Flatten ins)) = None
comb_at (Some (Pdo c f)) = root_comb f
comb_at (Some (Gbk c o l k)) = None
comb_at (Some (Barrier ins o l a)) = None

-- a lifted Gbk is no script output and is read by one Pdo alone, whose only root is a step of its
-- combiner
pub record IsLiftedOk (g : Graph) (n : ℕ) (k : Comb) : Type 0 where
  pub untold : among (place n 0) g.outputs ≡ false
  pub uncollected : any_node (collects (place n 0)) g.nodes ≡ false
  pub reader : ℕ
  pub alone : readers g.nodes (place n 0) ≡ reader ∷ []
  pub root : comb_at (node_at g.nodes reader) ≡ Some k

-- how many inputs a Flatten may have, and how many nodes a graph
abbrev pub most_nodes : ℕ
most_nodes = 16384

abbrev pub IsNodeOk : Graph → ℕ → Node → Type 0
IsNodeOk g n (Source r) = Unit {0}
IsNodeOk g n (Flatten ins) = (0 < length ins) × (length ins ≤ most_nodes)
IsNodeOk g n (Pdo c f) = IsForestOk g n f
IsNodeOk g n (Gbk c o l None) = Unit {0}
IsNodeOk g n (Gbk c o l (Some k)) = IsLiftedOk g n k
IsNodeOk g n (Barrier ins o l a) = Unit {0}

-- ---- objects

abbrev pub is_object : Option Node → Bool
is_object None = false
is_object (Some (Source r)) = r.is_object
is_object (Some (Flatten ins)) = false
is_object (Some (Pdo c f)) = false
is_object (Some (Gbk c o l k)) = false
is_object (Some (Barrier ins o l a)) = gives_object a

-- whether a collection is an object: the output of an operate or of a singleton, or of a source
-- that is one
abbrev pub is_object_at : List Entry → Place → Bool
is_object_at es c = is_object (node_at es c.node)

-- whether the node, if it is a barrier, reads objects where its act takes them
abbrev pub has_objects : List Entry → Node → Bool
has_objects es (Source r) = true
has_objects es (Flatten ins) = true
has_objects es (Pdo c f) = true
has_objects es (Gbk c o l k) = true
has_objects es (Barrier ins o l a) = takes_such a (map (is_object_at es) ins)

abbrev pub HaveObjects : List Entry → Type 0
HaveObjects es = AllByRecursion (λ e. has_objects es e.node ≡ true) es

-- the rows of a source that is an object are one value
abbrev pub HasOneRow : World → Node → Type 0
HasOneRow w (Source r) = r.is_object ≡ true → (v : Value) × (w.rows r.number ≡ v ∷ [])
HasOneRow w (Flatten ins) = Unit {0}
HasOneRow w (Pdo c f) = Unit {0}
HasOneRow w (Gbk c o l k) = Unit {0}
HasOneRow w (Barrier ins o l a) = Unit {0}

abbrev pub HaveOneRow : World → List Entry → Type 0
HaveOneRow w es = AllByRecursion (λ e. HasOneRow w e.node) es

-- ---- graphs

-- a Pdo counts once for each step
abbrev pub size : Node → ℕ
size (Pdo c f) = steps f
size _ = 1

abbrev pub total_size : List Entry → ℕ
total_size [] = 0
total_size (e ∷ es) = size e.node + total_size es

pub record IsGraphOk (g : Graph) : Type 0 where
  pub founded : IsFounded g
  pub nodes : AllByRecursion (λ e. IsNodeOk g e.number e.node) g.nodes
  pub objects : HaveObjects g.nodes
  pub few : total_size g.nodes ≤ most_nodes

-- ---- marks

abbrev pub is_lifted : Option Node → Bool
is_lifted None = false
is_lifted (Some (Source r)) = false
is_lifted (Some (Flatten ins)) = false
is_lifted (Some (Pdo c f)) = false
is_lifted (Some (Gbk c o l None)) = false
is_lifted (Some (Gbk c o l (Some k))) = true
is_lifted (Some (Barrier ins o l a)) = false

-- marked collections are there, and none is of a lifted Gbk
pub record IsBlockedOk (b : Blocked) : Type 0 where
  pub ok : IsGraphOk b.graph
  pub marked : AllByRecursion (IsThere b.graph.nodes) b.marks
  pub unlifted :
      AllByRecursion (λ c. is_lifted (node_at b.graph.nodes c.node) ≡ false) b.marks
