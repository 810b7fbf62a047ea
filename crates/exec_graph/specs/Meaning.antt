-- What a graph means: a bag and a set of traps for each collection, so that the equation of every
-- node holds.
use Rattle.std.specs.Prelude.{◌≡◌, ℕ, ◌<◌, Bool, true, false, cond, ◌==◌, ◌&&◌, ◌||◌, List, [], ◌∷◌, ◌++◌, map, length, Option, Some, None}
use Rattle.std.proofs.Common.{zero, suc}
use Rattle.std.specs.List.{flat_map, AllByRecursion}
use Rattle.flume_value.specs.declared.value.Value.{Value}
use Rattle.flume_value.specs.Bag.{bag_of}
use Rattle.flume_collection.specs.declared.trap.Trap.{Trap}
use Rattle.flume_collection.specs.Traps.{trap_set}
use Rattle.flume_collection.specs.Collection.{Collection, together, by_key}
use Rattle.flume_collection.specs.Calls.{passed}
use Rattle.exec_graph.specs.World.{World}
use Rattle.exec_graph.specs.Objects.{act_result}
use Rattle.exec_graph.specs.Calls.{called, emitted, is_own}
use Rattle.exec_graph.specs.Forests.{Label, Forest, Bare, Grow}
use Rattle.exec_graph.specs.declared.graph.Place.{Place}
use Rattle.exec_graph.specs.declared.graph.Node.{Node}
use Rattle.exec_graph.specs.declared.graph.Node.TheVariants.{Source, Flatten, Pdo, Gbk, Barrier}
use Rattle.exec_graph.specs.declared.graph.Entry.{Entry}
use Rattle.exec_graph.specs.declared.graph.Graph.{Graph}

-- what a step gives of a collection
abbrev pub through : World → Label → Collection → Collection
through w l c = passed l.origin l.at (called w l.does) c

-- ---- the equation of a node

abbrev pub place : ℕ → ℕ → Place
place n j = record { node = n; out = j }

-- where a step keeps an output, m says of it what the step gives
abbrev pub IsGivenToKept : (Place → Collection) → ℕ → Option ℕ → Collection → Type 0
IsGivenToKept m n None u = Unit {0}
IsGivenToKept m n (Some j) u = m (place n j) ≡ u

-- m says of all kept outputs of a forest over v what their steps give
abbrev pub FitsForest : World → (Place → Collection) → ℕ → Collection → Forest → Type 0
FitsForest w m n v Bare = Unit {0}
FitsForest w m n v (Grow l kids rest) =
    IsGivenToKept m n l.out (through w l v)
    × FitsForest w m n (through w l v) kids × FitsForest w m n v rest

-- m says of the outputs of node n what the node gives
abbrev pub Holds : World → (Place → Collection) → ℕ → Node → Type 0
Holds w m n (Source r) =
    m (place n 0) ≡ record { bag = bag_of (w.rows r.number); traps = [] }
Holds w m n (Flatten ins) = m (place n 0) ≡ together (map m ins)
Holds w m n (Pdo c f) = FitsForest w m n (m c) f
Holds w m n (Gbk c o l k) = m (place n 0) ≡ by_key (m c)
Holds w m n (Barrier ins o l a) = m (place n 0) ≡ act_result w o a (map m ins)

-- m meets the equation of each node
abbrev pub Meets : World → List Entry → (Place → Collection) → Type 0
Meets w es m = AllByRecursion (λ e. Holds w m e.number e.node) es

-- ---- what is seen of a graph: script outputs, the bags of script nodes, and all traps

-- what the steps of a forest add up to, by what a step gives where it is given a collection
abbrev pub total : {Y : Type 0} → World → (Collection → Label → List Y) → Collection → Forest
    → List Y
total w p v Bare = []
total w p v (Grow l kids rest) =
    p v l ++ (total w p (through w l v) kids ++ total w p v rest)

-- what a step adds to the bag of script node i
abbrev pub step_own : World → ℕ → Collection → Label → List Value
step_own w i v l = cond (is_own i l) (flat_map (emitted w l) v.bag) []

abbrev pub step_traps : World → Collection → Label → List Trap
step_traps w v l = (through w l v).traps

-- what a node adds to the bag of script node i
abbrev pub own : World → (Place → Collection) → ℕ → Node → List Value
own w m i (Source r) = []
own w m i (Flatten ins) = []
own w m i (Pdo c f) = total w (step_own w i) (m c) f
own w m i (Gbk c o l k) = cond (l && (o == i)) (by_key (m c)).bag []
own w m i (Barrier ins o l a) = cond (l && (o == i)) (act_result w o a (map m ins)).bag []

abbrev pub traps : World → (Place → Collection) → Node → List Trap
traps w m (Source r) = []
traps w m (Flatten ins) = (together (map m ins)).traps
traps w m (Pdo c f) = total w (step_traps w) (m c) f
traps w m (Gbk c o l k) = (m c).traps
traps w m (Barrier ins o l a) = (act_result w o a (map m ins)).traps

-- the bag of script node i
abbrev pub own_bag : World → (Place → Collection) → List Entry → ℕ → List Value
own_bag w m es i = bag_of (flat_map (λ e. own w m i e.node) es)

-- the traps of all collections and steps
abbrev pub all_traps : World → (Place → Collection) → List Entry → List Trap
all_traps w m es = trap_set (flat_map (λ e. traps w m e.node) es)

-- ---- what is there

abbrev pub node_at : List Entry → ℕ → Option Node
node_at [] n = None
node_at (e ∷ es) n = cond (e.number == n) (Some e.node) (node_at es n)

-- the collections that a node reads
abbrev pub reads : Node → List Place
reads (Source r) = []
reads (Flatten ins) = ins
reads (Pdo c f) = c ∷ []
reads (Gbk c o l k) = c ∷ []
reads (Barrier ins o l a) = ins

abbrev pub is_out : Option ℕ → ℕ → Bool
is_out None j = false
is_out (Some i) j = i == j

-- whether a step keeps the output j
abbrev pub has_out : ℕ → Forest → Bool
has_out j Bare = false
has_out j (Grow l kids rest) = is_out l.out j || (has_out j kids || has_out j rest)

-- whether a node has the output j
abbrev pub gives : Node → ℕ → Bool
gives (Source r) j = j == 0
gives (Flatten ins) j = j == 0
gives (Pdo c f) j = has_out j f
gives (Gbk c o l k) j = j == 0
gives (Barrier ins o l a) j = j == 0

abbrev pub gives_at : Option Node → ℕ → Bool
gives_at None j = false
gives_at (Some x) j = gives x j

-- a collection that is there
abbrev pub IsThere : List Entry → Place → Type 0
IsThere es c = gives_at (node_at es c.node) c.out ≡ true

abbrev pub AllDiffer : List Entry → Type 0
AllDiffer [] = Unit {0}
AllDiffer (e ∷ es) = AllByRecursion (λ d. d.number ≡ e.number → ⊥) es × AllDiffer es

-- no two steps keep one output
abbrev pub OutsDiffer : Forest → Type 0
OutsDiffer Bare = Unit {0}
OutsDiffer (Grow l kids rest) =
    ((j : ℕ) → is_out l.out j ≡ true → (has_out j kids || has_out j rest) ≡ false)
    × ((j : ℕ) → has_out j kids ≡ true → has_out j rest ≡ false)
    × OutsDiffer kids × OutsDiffer rest

abbrev pub HasOuts : Node → Type 0
HasOuts (Source r) = Unit {0}
HasOuts (Flatten ins) = Unit {0}
HasOuts (Pdo c f) = OutsDiffer f
HasOuts (Gbk c o l k) = Unit {0}
HasOuts (Barrier ins o l a) = Unit {0}

-- each node reads nodes of lower rank alone, so that no path returns to its node
abbrev pub IsRankedBy : (ℕ → ℕ) → List Entry → Type 0
IsRankedBy r es =
    AllByRecursion (λ e. AllByRecursion (λ c. r c.node < r e.number) (reads e.node)) es

-- what a graph needs to have just one meaning
pub record IsSound (g : Graph) : Type 0 where
  pub differ : AllDiffer g.nodes
  pub there : AllByRecursion (λ e. AllByRecursion (IsThere g.nodes) (reads e.node)) g.nodes
  pub told : AllByRecursion (IsThere g.nodes) g.outputs
  pub outs : AllByRecursion (λ e. HasOuts e.node) g.nodes
  pub ranked : (r : ℕ → ℕ) × IsRankedBy r g.nodes

-- ---- the meaning as a function

abbrev pub nothing : Collection
nothing = record { bag = []; traps = [] }

abbrev pub first : Option Collection → Option Collection → Option Collection
first None o = o
first (Some c) o = Some c

-- what the step with the output j gives
abbrev pub out_of : World → Collection → Forest → ℕ → Option Collection
out_of w v Bare j = None
out_of w v (Grow l kids rest) j =
    cond (is_out l.out j) (Some (through w l v))
    (first (out_of w (through w l v) kids j) (out_of w v rest j))

abbrev pub or_nothing : Option Collection → Collection
or_nothing None = nothing
or_nothing (Some c) = c

-- what a node gives to its output j
abbrev pub value : World → (Place → Collection) → Node → ℕ → Collection
value w m (Source r) j = record { bag = bag_of (w.rows r.number); traps = [] }
value w m (Flatten ins) j = together (map m ins)
value w m (Pdo c f) j = or_nothing (out_of w (m c) f j)
value w m (Gbk c o l k) j = by_key (m c)
value w m (Barrier ins o l a) j = act_result w o a (map m ins)

abbrev pub value_at : World → (Place → Collection) → Option Node → ℕ → Collection
value_at w m None j = nothing
value_at w m (Some x) j = value w m x j

-- what is known after some turns
unfoldable pub solve : World → List Entry → ℕ → Place → Collection
solve w es zero c = nothing
solve w es (suc turns) c = value_at w (solve w es turns) (node_at es c.node) c.out

-- bag and traps of a collection: as many turns as there are nodes are enough
unfoldable pub collection : World → Graph → Place → Collection
collection w g c = solve w g.nodes (suc (length g.nodes)) c

-- ---- graphs that mean the same

-- under m and k the same is seen of both graphs
pub record Agrees (w : World) (g h : Graph) (m k : Place → Collection) : Type 0 where
  pub outputs : map m g.outputs ≡ map k h.outputs
  pub own : (i : ℕ) → own_bag w m g.nodes i ≡ own_bag w k h.nodes i
  pub traps : all_traps w m g.nodes ≡ all_traps w k h.nodes

-- whatever meets the equations of g, something that meets those of h agrees with it
abbrev pub KeepsMeaning : Graph → Graph → Type 0
KeepsMeaning g h =
    (w : World) (m : Place → Collection) → Meets w g.nodes m →
    (k : Place → Collection) × Meets w h.nodes k × Agrees w g h m k

abbrev pub SameMeaning : Graph → Graph → Type 0
SameMeaning g h = (w : World) → Agrees w g h (collection w g) (collection w h)
