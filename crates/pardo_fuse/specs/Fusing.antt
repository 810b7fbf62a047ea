-- The fused graph: a step hangs on the unmarked output that it read, and steps that read one
-- collection which is no such output are the roots of one Pdo, which has the least of their numbers
-- and of those of the steps on them.
use Rattle.std.specs.Prelude.{ℕ, ◌==◌, ltb, Bool, false, cond, List, [], ◌∷◌, ◌++◌, map, length, Option, Some, None}
use Rattle.std.proofs.Common.{zero, suc}
use Rattle.std.specs.List.{flat_map}
use Rattle.exec_graph.specs.Forests.{Forest, Bare, Grow, numbered, with_out}
use Rattle.exec_graph.specs.Meaning.{place, node_at, has_out}
use Rattle.graph_laws.specs.Joining.{reread}
use Rattle.graph_laws.specs.Kids.{number_after}
use Rattle.exec_graph.specs.Places.{code}
use Rattle.exec_graph.specs.declared.graph.Place.{Place}
use Rattle.exec_graph.specs.declared.graph.Node.{Node}
use Rattle.exec_graph.specs.declared.graph.Node.TheVariants.{Pdo}
use Rattle.exec_graph.specs.declared.graph.Entry.{Entry}
use Rattle.exec_graph.specs.declared.graph.Blocked.{Blocked}
use Rattle.pardo_fuse.specs.Readers.{Cut, cut_of, readers, is_inner, is_kept}
use Rattle.pardo_fuse.specs.Renumbering.{renumbered}

-- ---- forests, whose kept outputs have the codes of their former collections

abbrev pub name_for : Cut → ℕ → Option ℕ → Option ℕ
name_for b n None = None
name_for b n (Some j) = cond (is_kept b (place n j)) (Some (code (place n j))) None

-- the Pdos whose steps become kids on an output of Pdo n
abbrev pub kids_on : Cut → ℕ → Option ℕ → List ℕ
kids_on b n None = []
kids_on b n (Some j) = cond (is_inner b (place n j)) (readers b.graph.nodes (place n j)) []

-- the outputs of the step of Pdo n in order, each under the forest over it, before the rest
abbrev pub hung : Cut → ℕ → (Option ℕ → Forest) → Forest → Forest → Forest
hung b n over Bare rest = rest
hung b n over (Grow l kids more) rest =
    Grow (with_out (name_for b n l.out) l) (over l.out) (hung b n over more rest)

abbrev pub step_in : Option Node → Forest
step_in (Some (Pdo c f)) = f
step_in _ = Bare

abbrev pub trees_in_turn : (ℕ → Forest → Forest) → List ℕ → Forest
trees_in_turn tree [] = Bare
trees_in_turn tree (n ∷ ns) = tree n (trees_in_turn tree ns)

-- the trees of the Pdos ns side by side, down to a number of levels: over each output of a step the
-- trees of its kids
unfoldable pub hanging : Cut → ℕ → List ℕ → Forest
hanging b zero ns = Bare
hanging b (suc k) ns =
    trees_in_turn (λ n rest. hung b n (λ o. hanging b k (kids_on b n o))
    (step_in (node_at b.graph.nodes n))
    rest) ns

-- all that is computed from c without a kept collection in between: as many levels as there are
-- nodes are enough
abbrev pub forest_over : Cut → Place → Forest
forest_over b c = hanging b (length b.graph.nodes) (readers b.graph.nodes c)

-- without levels: over an output that is fused with its readers stands the forest of that output,
-- and over others nothing, so that the parent of a step is the step whose output it read
abbrev pub over_out : Cut → ℕ → Option ℕ → Forest
over_out b n None = Bare
over_out b n (Some j) = cond (is_inner b (place n j)) (forest_over b (place n j)) Bare

-- the steps that read c side by side, each with what stands over its outputs
abbrev pub trees_over : Cut → Place → Forest
trees_over b c =
    trees_in_turn (λ n rest. hung b n (over_out b n) (step_in (node_at b.graph.nodes n)) rest)
    (readers b.graph.nodes c)

-- ---- the nodes that are left

abbrev pub is_first : ℕ → List ℕ → Bool
is_first n [] = false
is_first n (q ∷ qs) = n == q

-- the Pdo n, which reads c, is the least of those that become one
abbrev pub leads : Cut → ℕ → Place → Bool
leads b n c = cond (is_inner b c) false (is_first n (readers b.graph.nodes c))

abbrev pub kept_of : Cut → ℕ → Node → List Entry
kept_of b n (Pdo c f) =
    cond (leads b n c) (record { number = n; node = Pdo c (forest_over b c) } ∷ []) []
kept_of b n x = record { number = n; node = x } ∷ []

abbrev pub kept_nodes : Cut → List Entry
kept_nodes b = flat_map (λ e. kept_of b e.number e.node) b.graph.nodes

-- ---- outputs get the numbers from 0 in preorder, and what reads them reads these

abbrev pub holds_out : ℕ → Node → Bool
holds_out n (Pdo c f) = has_out n f
holds_out n _ = false

abbrev pub out_number : ℕ → Node → ℕ
out_number n (Pdo c f) = number_after 0 f n
out_number n _ = 0

-- where a former collection is now
abbrev pub moved_to : List Entry → Place → Place
moved_to [] c = c
moved_to (h ∷ hs) c = cond (holds_out (code c) h.node) (place h.number (out_number (code c) h.node))
    (moved_to hs c)

abbrev pub with_numbers : Node → Node
with_numbers (Pdo c f) = Pdo c (numbered 0 f)
with_numbers x = x

abbrev pub finished_entry : (Place → Place) → Entry → Entry
finished_entry r h = record { number = h.number; node = reread r (with_numbers h.node) }

-- the nodes that are left, where former collections are elsewhere
abbrev pub moved_by : (Place → Place) → List Entry → Cut → Blocked
moved_by r hs b =
    record {
      graph = record {
        nodes = map (finished_entry r) hs;
        outputs = map r b.graph.outputs;
        next = b.graph.next;
      };
      marks = map r b.marks;
    }

unfoldable pub joined_by : Cut → Blocked
joined_by b = moved_by (moved_to (kept_nodes b)) (kept_nodes b) b

-- what is fused, each Pdo under the number of the first that reads its collection
abbrev pub fused_by_parents : Blocked → Blocked
fused_by_parents b = joined_by (cut_of b)

-- ---- numbers: what comes of several Pdos has the least number of them

-- what stands over the outputs of a step
abbrev pub over_outs : (Option ℕ → List ℕ) → Forest → List ℕ
over_outs over Bare = []
over_outs over (Grow l kids more) = over l.out ++ over_outs over more

-- the Pdos whose steps are in the trees of ns, down to a number of levels
unfoldable pub members : Cut → ℕ → List ℕ → List ℕ
members b zero ns = []
members b (suc k) ns = flat_map (λ n.
    n ∷ over_outs (λ o. members b k (kids_on b n o)) (step_in (node_at b.graph.nodes n))) ns

-- the Pdos that become one over c
abbrev pub members_over : Cut → Place → List ℕ
members_over b c = members b (length b.graph.nodes) (readers b.graph.nodes c)

abbrev pub lesser_number : ℕ → ℕ → ℕ
lesser_number n q = cond (ltb q n) q n

abbrev pub least_number : ℕ → List ℕ → ℕ
least_number n [] = n
least_number n (q ∷ qs) = least_number (lesser_number n q) qs

-- the least number of those that become one with the node n, which leads them
abbrev pub least_at : Cut → ℕ → Option Node → ℕ
least_at b n (Some (Pdo c f)) = cond (leads b n c) (least_number n (members_over b c)) n
least_at b n _ = n

abbrev pub least_of : Cut → ℕ → ℕ
least_of b n = least_at b n (node_at b.graph.nodes n)

-- the normal form
abbrev pub fused : Blocked → Blocked
fused b = renumbered (least_of (cut_of b)) (fused_by_parents b)
