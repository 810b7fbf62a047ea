-- What holds of each source that a graph reads, and of each act of its barriers: of all that a node
-- brings in by itself.
use Rattle.std.specs.Prelude.{◌≡◌, ◌⊎◌, ℕ, Bool, List}
use Rattle.std.proofs.Common.{inl, inr}
use Rattle.std.specs.List.{AllByRecursion}
use Rattle.sink_laws.specs.of_exec_graph.declared.graph.Input.{Input}
use Rattle.sink_laws.specs.of_exec_graph.declared.graph.Act.{Act}
use Rattle.sink_laws.specs.of_exec_graph.declared.graph.Node.{Node}
use Rattle.sink_laws.specs.of_exec_graph.declared.graph.Node.TheVariants.{Source, Flatten, Pdo, Gbk, Barrier}
use Rattle.sink_laws.specs.of_exec_graph.declared.graph.Entry.{Entry}
use Rattle.sink_laws.specs.of_exec_graph.declared.graph.Graph.{Graph}

-- P holds of the source that the node is, or of its act
abbrev pub BringsSuch : (Input ⊎ Act → Type 0) → Node → Type 0
BringsSuch P (Source r) = P (inl r)
BringsSuch P (Flatten ins) = Unit {0}
BringsSuch P (Pdo c f) = Unit {0}
BringsSuch P (Gbk c o l k) = Unit {0}
BringsSuch P (Barrier ins o l a) = P (inr a)

abbrev pub BringSuch : (Input ⊎ Act → Type 0) → List Entry → Type 0
BringSuch P es = AllByRecursion (λ e. BringsSuch P e.node) es

-- what holds of sources, where nothing is asked of acts
abbrev pub OfSource : (Input → Type 0) → Input ⊎ Act → Type 0
OfSource P (inl r) = P r
OfSource P (inr a) = Unit {0}

-- the sources that are objects are those whose numbers pass the test
abbrev pub HasKinds : (ℕ → Bool) → Graph → Type 0
HasKinds kind g = BringSuch (OfSource (λ r. r.is_object ≡ kind r.number)) g.nodes

-- sources of one number are objects, or none of them is
abbrev pub AreOfKinds : Graph → Type 0
AreOfKinds g = (kind : ℕ → Bool) × HasKinds kind g
