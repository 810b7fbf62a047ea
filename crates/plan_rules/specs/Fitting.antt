-- What operations keep to, beside carrying out a graph, so that their plan is well-formed.
use Rattle.std.specs.Prelude.{◌≡◌, ℕ, ◌+◌, ◌<◌, ◌≤◌, ◌^◌, ◌⊎◌, Bool, true, false, ◌==◌, List, [], ◌∷◌, length, Option, Some, None}
use Rattle.std.specs.List.{AllByRecursion, IsDistinct, flat_map, list_any}
use Rattle.graph_laws.specs.of_exec_graph.Forests.{Forest, Bare, Grow}
use Rattle.graph_laws.specs.of_exec_graph.Meaning.{node_at}
use Rattle.graph_laws.specs.of_exec_graph.Readers.{same_place}
use Rattle.graph_laws.specs.of_exec_graph.Wellformed.{is_lifted, is_object_at}
use Rattle.graph_laws.specs.of_exec_graph.declared.graph.Place.{Place}
use Rattle.graph_laws.specs.of_exec_graph.declared.graph.Input.{Input}
use Rattle.graph_laws.specs.of_exec_graph.declared.graph.Node.{Node}
use Rattle.graph_laws.specs.of_exec_graph.declared.graph.Node.TheVariants.{Source, Flatten, Pdo, Gbk, Barrier}
use Rattle.graph_laws.specs.of_exec_graph.declared.graph.Entry.{Entry}
use Rattle.graph_laws.specs.Single.{most_outputs}
use Rattle.graph_laws.specs.of_exec_graph.declared.graph.Graph.{Graph}
use Rattle.plan_laws.specs.declared.operations.Key.{Key}
use Rattle.plan_laws.specs.declared.operations.Key.TheVariants.{Mapper, Whole}
use Rattle.plan_laws.specs.declared.operations.Grouped.{Grouped}
use Rattle.plan_laws.specs.declared.operations.Operation.{Operation}
use Rattle.plan_laws.specs.declared.operations.Operation.TheVariants.{Flat, Class}
use Rattle.plan_laws.specs.Operations.{is_read_under, read_through, times_named}

-- ---- keys

abbrev pub same_key : Key → Key → Bool
same_key (Mapper n) (Mapper k) = n == k
same_key (Mapper n) (Whole c) = false
same_key (Whole c) (Mapper n) = false
same_key (Whole c) (Whole d) = same_place c d

-- what a Gbk groups
abbrev pub gbk_inputs : List Entry → Option Node → List Place
gbk_inputs es (Some (Gbk c o l k)) = read_through es c
gbk_inputs es o = []

-- whether the group takes a collection of the channel
abbrev pub takes_key : List Entry → Key → Grouped → Bool
takes_key es k g = list_any (is_read_under k) (gbk_inputs es (node_at es g.gbk))

-- a group takes of the channel
abbrev pub IsUsed : List Entry → List Grouped → Key → Type 0
IsUsed es groups k = list_any (takes_key es k) groups ≡ true

-- a mapper alone
abbrev pub IsAlone : List Key → Type 0
IsAlone (Mapper n ∷ []) = Unit {0}
IsAlone keys = ⊥

-- ---- operations

-- a lifted Gbk has a reducer
abbrev pub HasReducer : Bool → Option ℕ → Type 0
HasReducer true None = ⊥
HasReducer true (Some r) = Unit {0}
HasReducer false r = Unit {0}

abbrev pub IsReduced : List Entry → Grouped → Type 0
IsReduced es g = HasReducer (is_lifted (node_at es g.gbk)) g.reducer

-- the channels differ, and a group takes of each of them, or the one channel is a mapper; the
-- collections that pass through differ, and are no objects; and lifted Gbks have reducers
pub record IsClassFit (es : List Entry) (keys : List Key) (groups : List Grouped)
    (passes : List Place) : Type 0 where
  pub some : 0 < length keys
  pub differ : IsDistinct same_key keys
  pub used : IsAlone keys ⊎ AllByRecursion (IsUsed es groups) keys
  pub passed : IsDistinct same_place passes
  pub collections : AllByRecursion (λ c. is_object_at es c ≡ false) passes
  pub reduced : AllByRecursion (IsReduced es) groups

abbrev pub FitsEntries : List Entry → Operation → Type 0
FitsEntries es (Flat n) = Unit {0}
FitsEntries es (Class keys groups passes) = IsClassFit es keys groups passes

abbrev pub flat_runs : Operation → List ℕ
flat_runs (Flat n) = n ∷ []
flat_runs (Class keys groups passes) = []

-- what forming gives: no Flatten is carried out twice
pub record AreFit (es : List Entry) (os : List Operation) : Type 0 where
  pub fit : AllByRecursion (FitsEntries es) os
  pub flats : (n : ℕ) → times_named n (flat_map flat_runs os) ≤ 1

-- ---- graphs

abbrev pub IsSourceBelow : ℕ → Node → Type 0
IsSourceBelow n (Source r) = r.number < n
IsSourceBelow n (Flatten ins) = Unit {0}
IsSourceBelow n (Pdo c f) = Unit {0}
IsSourceBelow n (Gbk c o l k) = Unit {0}
IsSourceBelow n (Barrier ins o l a) = Unit {0}

-- the graph reads no more than so many sources
abbrev pub HasSourcesBelow : ℕ → Graph → Type 0
HasSourcesBelow n g = AllByRecursion (λ e. IsSourceBelow n e.node) g.nodes

-- the outputs of a step stand side by side from its first on, and are not too many; n is the next
-- output of the step that stands before
abbrev pub HasFewOutputs : ℕ → Forest → Type 0
HasFewOutputs n Bare = Unit {0}
HasFewOutputs n (Grow l kids rest) =
    ((l.at ≡ 0) ⊎ ((l.at ≡ n) × (n < most_outputs)))
    × HasFewOutputs 0 kids × HasFewOutputs (l.at + 1) rest

abbrev pub IsNarrow : Node → Type 0
IsNarrow (Source r) = Unit {0}
IsNarrow (Flatten ins) = Unit {0}
IsNarrow (Pdo c f) = HasFewOutputs 0 f
IsNarrow (Gbk c o l k) = Unit {0}
IsNarrow (Barrier ins o l a) = Unit {0}

-- sources of one number are objects, or none of them is
abbrev pub SourcesAgree : List Entry → Type 0
SourcesAgree es =
    (n m : ℕ) (r s : Input) → node_at es n ≡ Some (Source r) → node_at es m ≡ Some (Source s)
    → r.number ≡ s.number → r.is_object ≡ s.is_object

-- the graph reads so many sources, its numbers have 32 bits, and no step has too many outputs
pub record IsInBounds (sources : ℕ) (g : Graph) : Type 0 where
  pub below : HasSourcesBelow sources g
  pub agree : SourcesAgree g.nodes
  pub numbers : g.next < 2 ^ 32
  pub narrow : AllByRecursion (λ e. IsNarrow e.node) g.nodes
