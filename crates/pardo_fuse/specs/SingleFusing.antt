-- Fusing where each Pdo has one step with one output: a collection is then told by its Pdo's number
-- alone, and an output that is kept has this number for a name.
use Rattle.std.specs.Prelude.{◌≡◌, ℕ, Bool, true, false, cond, List, [], ◌∷◌, length, Option, Some, None}
use Rattle.std.proofs.Common.{zero, suc}
use Rattle.std.specs.List.{AllByRecursion, flat_map}
use Rattle.exec_graph.specs.Forests.{Label, Forest, Bare, Grow, with_out}
use Rattle.exec_graph.specs.declared.step.Does.TheVariants as does
use Rattle.exec_graph.specs.Meaning.{IsSound, IsThere, place, node_at}
use Rattle.graph_laws.specs.Kids.{kept_by, out_kept}
use Rattle.exec_graph.specs.declared.graph.Place.{Place}
use Rattle.exec_graph.specs.declared.graph.Node.{Node}
use Rattle.exec_graph.specs.declared.graph.Node.TheVariants.{Pdo}
use Rattle.exec_graph.specs.declared.graph.Entry.{Entry}
use Rattle.exec_graph.specs.declared.graph.Blocked.{Blocked}
use Rattle.pardo_fuse.specs.Readers.{Cut, readers, is_inner, is_kept, is_pdo}
use Rattle.pardo_fuse.specs.Fusing.{holds_out, leads, moved_by, out_number}

-- ---- what can be fused so

-- a Pdo has one step, whose output is 0 where it has one
abbrev pub IsLoneOutput : Option ℕ → Type 0
IsLoneOutput None = Unit {0}
IsLoneOutput (Some j) = j ≡ 0

abbrev pub IsSingle : Forest → Type 0
IsSingle Bare = ⊥
IsSingle (Grow l Bare Bare) = IsLoneOutput l.out
IsSingle (Grow l Bare (Grow m kids rest)) = ⊥
IsSingle (Grow l (Grow m kids rest) others) = ⊥

abbrev pub HasOneStep : Node → Type 0
HasOneStep (Pdo c f) = IsSingle f
HasOneStep _ = Unit {0}

-- the graph is ok, and each Pdo has one step with one output
pub record CanFuse (b : Cut) : Type 0 where
  pub ok : IsSound b.graph
  pub single : AllByRecursion (λ e. HasOneStep e.node) b.graph.nodes
  pub marked : AllByRecursion (IsThere b.graph.nodes) b.marks
  pub pdos : (c : Place) → b.inner c ≡ true → is_pdo (node_at b.graph.nodes c.node) ≡ true

-- ---- forests whose outputs have the numbers of the former Pdos

abbrev pub label_named : ℕ → Label → Label
label_named n l = with_out (Some n) l

abbrev pub blank : Label
blank = record { origin = 0; last = false; does = does.Pair; at = 0; out = None }

-- the one step of a Pdo
abbrev pub first_label : Forest → Label
first_label Bare = blank
first_label (Grow l kids rest) = l

abbrev pub step_of : Option Node → Label
step_of (Some (Pdo c f)) = first_label f
step_of _ = blank

-- the step of the Pdo n, under the Pdo's number
abbrev pub step_at : Cut → ℕ → Label
step_at b n = label_named n (step_of (node_at b.graph.nodes n))

-- the Pdos whose parent is the Pdo n
abbrev pub kids_of : Cut → ℕ → List ℕ
kids_of b n = cond (is_inner b (place n 0)) (readers b.graph.nodes (place n 0)) []

-- the trees of the Pdos ns side by side: over each step the trees of its kids
abbrev pub Grown : Cut → List ℕ → Forest → Type 0
Grown b [] Bare = Unit {0}
Grown b [] (Grow l kids rest) = ⊥
Grown b (n ∷ ns) Bare = ⊥
Grown b (n ∷ ns) (Grow l kids rest) = (l ≡ step_at b n) × Grown b (kids_of b n) kids × Grown b ns
    rest

-- the same as a function, down to a number of levels
abbrev pub planted : (ℕ → Label) → (ℕ → Forest) → List ℕ → Forest
planted l f [] = Bare
planted l f (n ∷ ns) = Grow (l n) (f n) (planted l f ns)

unfoldable pub trees : Cut → ℕ → List ℕ → Forest
trees b zero ns = Bare
trees b (suc k) ns = planted (step_at b) (λ n. trees b k (kids_of b n)) ns

-- only some outputs are kept
abbrev pub kept_label : (ℕ → Bool) → Label → Label
kept_label keep l = with_out (out_kept keep l.out) l

abbrev pub keeps_output : Cut → ℕ → Bool
keeps_output b n = is_kept b (place n 0)

-- all that is computed from c without a kept collection in between: as many levels as there are
-- nodes are enough
abbrev pub forest_reading : Cut → Place → Forest
forest_reading b c =
    kept_by (keeps_output b) (trees b (length b.graph.nodes) (readers b.graph.nodes c))

-- ---- the nodes that are left

abbrev pub entries_left : Cut → ℕ → Node → List Entry
entries_left b n (Pdo c f) =
    cond (leads b n c) (record { number = n; node = Pdo c (forest_reading b c) } ∷ []) []
entries_left b n x = record { number = n; node = x } ∷ []

abbrev pub joined_nodes : Cut → List Entry
joined_nodes b = flat_map (λ e. entries_left b e.number e.node) b.graph.nodes

-- ---- outputs get the numbers from 0 in preorder, and what reads them reads these

-- where a former collection is now
abbrev pub new_place : List Entry → Place → Place
new_place [] c = c
new_place (h ∷ hs) c = cond (holds_out c.node h.node) (place h.number (out_number c.node h.node))
    (new_place hs c)

unfoldable pub fused_by : Cut → Blocked
fused_by b = moved_by (new_place (joined_nodes b)) (joined_nodes b) b
