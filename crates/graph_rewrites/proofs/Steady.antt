-- What holds of each node by itself, by its kind and its steps, holds after a rewrite.
use Rattle.std.proofs.Common.{◌≡◌, ℕ, ◌-◌, ◌+◌, Bool, true, false, cond, ◌==◌, List, [], ◌∷◌, map, length, Option, Some, zero, suc}
use Rattle.std.specs.Prelude.{nat_lt}
use Rattle.std.specs.List.{AllByRecursion}
use Rattle.combine_table.specs.declared.comb.Comb.{Comb}
use Rattle.graph_bounds.specs.of_exec_graph.Forests.{Forest, numbered}
use Rattle.graph_bounds.specs.of_exec_graph.Meaning.{node_at, place}
use Rattle.graph_bounds.specs.of_exec_graph.Readers.{is_read}
use Rattle.graph_bounds.specs.of_exec_graph.declared.graph.Place.{Place}
use Rattle.graph_bounds.specs.of_exec_graph.declared.graph.Node.{Node}
use Rattle.graph_bounds.specs.of_exec_graph.declared.graph.Node.TheVariants.{Flatten, Pdo}
use Rattle.graph_bounds.specs.of_exec_graph.declared.graph.Entry.{Entry}
use Rattle.graph_bounds.specs.of_exec_graph.declared.graph.Graph.{Graph}
use Rattle.graph_bounds.specs.of_exec_graph.declared.graph.Blocked.{Blocked}
use Rattle.graph_bounds.proofs.of_exec_graph.Entries.{all_found, all_map}
use Rattle.graph_bounds.specs.of_graph_laws.Joining.{beside, grafted, joined_into, moved, reread, reread_entry, set_node, without}
use Rattle.graph_bounds.specs.of_graph_laws.Kids.{apart, even, kept_by, moved_out, named_by, number_after, odd, refitted, renewed, same_number, with_kid, with_sibling}
use Rattle.graph_bounds.specs.of_graph_laws.Lifting.{lift_of, marked, marked_entry}
use Rattle.graph_bounds.proofs.of_graph_laws.Changes.{all_set, all_without}
use Rattle.graph_bounds.specs.of_sink_laws.Chain.{forest_of, ins_of}
use Rattle.graph_bounds.specs.of_sink_laws.Merging.{dropped, spliced, tidied}
use Rattle.graph_bounds.specs.of_sink_laws.Sinking.{copied, copies, flattens, outputs_of, rerouted, sunk_once}
use Rattle.graph_bounds.proofs.of_sink_laws.SinkFounded.{all_sunk as sunk_all}
use Rattle.graph_rewrites.specs.Exchange.{exchanged, swapped}
use Rattle.graph_rewrites.specs.Rewrites.{CanApply, forest_at, input_at, kid_under, kid_under_other, rewritten, swapped_at}
use Rattle.graph_rewrites.specs.declared.rewrite.Rewrite.{Rewrite}
use Rattle.graph_rewrites.specs.declared.rewrite.Rewrite.TheVariants.{Merge, Sink, Lift, Kid, Sibling, Mark}

-- Q holds of each Flatten, of a Pdo exactly where F holds of its steps, and asks neither what a
-- node reads, nor how a group is marked; F asks neither which outputs are kept, nor under which
-- numbers, and holds of what is put together of two forests
pub record IsSteady (Q : Node → Type 0) (F : Forest → Type 0) : Type 0 where
  pub flat : (ins : List Place) → Q (Flatten ins)
  pub into : (c : Place) (f : Forest) → F f → Q (Pdo c f)
  pub from : (c : Place) (f : Forest) → Q (Pdo c f) → F f
  pub read : (r : Place → Place) (x : Node) → Q x → Q (reread r x)
  pub mark : (h : Option Comb → Option Comb) (x : Node) → Q x → Q (marked h x)
  pub name : (r : ℕ → ℕ) (f : Forest) → F f → F (named_by r f)
  pub keep : (k : ℕ → Bool) (f : Forest) → F f → F (kept_by k f)
  pub count : (f : Forest) → F f → F (numbered 0 f)
  pub both : (f h : Forest) → F f → F h → F (beside f h)
  pub graft : (j : ℕ) (f h : Forest) → F f → F h → F (grafted j h f)

module _ (Q : Node → Type 0) (F : Forest → Type 0) (steady : IsSteady Q F) where
  abbrev All : List Entry → Type 0
  All es = AllByRecursion (λ e. Q e.node) es

  -- ---- parts of rewrites

  all_reread : (r : Place → Place) (es : List Entry) → All es → All (map (reread_entry r) es)
  all_reread r es h =
      all_map (reread_entry r) (λ e. Q e.node) (λ e. Q e.node)
      (λ e a. steady.read r e.node a) es h

  all_put : (es : List Entry) (n : ℕ) (c : Place) (f : Forest) → F f → All es
      → All (set_node es n (Pdo c f))
  all_put es n c f i h = all_set (λ e. Q e.node) es n (Pdo c f) h (steady.into c f i)

  all_gone : (es : List Entry) (n : ℕ) → All es → All (without es n)
  all_gone es n h = all_without (λ e. Q e.node) es n h

  forest_found : (es : List Entry) (n : ℕ) (c : Place) (f : Forest)
      → node_at es n ≡ Some (Pdo c f) → All es → F f
  forest_found es n c f at h =
      steady.from c f (all_found (λ (e : Entry). Q e.node) es n (Pdo c f) at h)

  all_tidied : (g : Graph) (n : ℕ) → All g.nodes → All (tidied g n).nodes
  all_tidied g n h =
      elim (is_read g (place n 0)) as (λ b. All (cond b g (dropped g n)).nodes)
      [ true ↦ h | false ↦ all_gone g.nodes n h ]

  all_copies : (n : ℕ) (f : Forest) (cs : List Place) → F f → All (copies n f cs)
  all_copies n f [] i = tt
  all_copies n f (c ∷ cs) i = (steady.into c f i, all_copies (n + 1) f cs i)

  all_flattens : (n first : ℕ) (ins : List Place) (j k : ℕ) → All (flattens n first ins j k)
  all_flattens n first ins j zero = tt
  all_flattens n first ins j (suc k) =
      (steady.flat (copied first (suc j) ins), all_flattens (n + 1) first ins (suc j) k)

  all_sunk : (g : Graph) (p : ℕ) (f : Forest) (ins : List Place) → F f → All g.nodes
      → All (sunk_once g p f ins).nodes
  all_sunk g p f ins i h =
      sunk_all (λ e. Q e.node) g p f ins (all_reread (rerouted p (g.next + length ins)) g.nodes h)
      (λ _. steady.flat (copied g.next 0 ins)) (all_copies g.next f ins i)
      (all_flattens (g.next + length ins) g.next ins 0 (outputs_of f - 1))

  all_marked : (s : ℕ → Option Comb → Option Comb) (es : List Entry) → All es
      → All (map (marked_entry s) es)
  all_marked s [] h = tt
  all_marked s (e ∷ es) h = (steady.mark (s e.number) e.node h.0, all_marked s es h.1)

  all_refitted : (g : Graph) (n : ℕ) (c : Place) (f : Forest) (r : ℕ → ℕ) → F f → All g.nodes
      → All (refitted g n c f r).nodes
  all_refitted g n c f r i h =
      all_reread (moved_out n r) (set_node g.nodes n (Pdo c f)) (all_put g.nodes n c f i h)

  all_joined : (g : Graph) (p q : ℕ) (c : Place) (f : Forest) → F f → All g.nodes
      → All (joined_into g p q c f).nodes
  all_joined g p q c f i h =
      all_reread (moved p q) (set_node (without g.nodes q) p (Pdo c f))
      (all_put (without g.nodes q) p c f i (all_gone g.nodes q h))

  all_apart : (g : Graph) (p q : ℕ) (c d : Place) (f h : Forest) → F f → F h → All g.nodes
      → All (apart g p q c d f h).nodes
  all_apart g p q c d f h i j a =
      let near : Forest = named_by even f in
      all_refitted (refitted g p c near even) q (moved_out p even d) (named_by odd h) odd
      (steady.name odd h j) (all_refitted g p c near even (steady.name even f i) a)

  all_renewed : (g : Graph) (n : ℕ) (c : Place) (f : Forest) → F f → All g.nodes
      → All (renewed g n c f).nodes
  all_renewed g n c f i h =
      let k : Forest = kept_by (λ j. is_read g (place n j)) f in
      let j : F k = steady.keep (λ j. is_read g (place n j)) f i in
      all_refitted (refitted g n c k same_number) n c (numbered 0 k) (λ j. number_after 0 k j)
      (steady.count k j) (all_refitted g n c k same_number j h)

  all_kid : (g : Graph) (p k q : ℕ) (c : Place) (f h : Forest) → F f → F h → All g.nodes
      → All (with_kid g p k q c f h).nodes
  all_kid g p k q c f h i j a =
      let near : Forest = named_by even f in
      let far : Forest = named_by odd h in
      let new : Forest = grafted (even k) far near in
      let l : F new =
      steady.graft (even k) near far (steady.name even f i) (steady.name odd h j) in
      let parts : Graph = apart g p q c (place p k) f h in
      all_renewed (joined_into parts p q c new) p c new l
      (all_joined parts p q c new l (all_apart g p q c (place p k) f h i j a))

  all_sibling : (g : Graph) (p q : ℕ) (c : Place) (f h : Forest) → F f → F h → All g.nodes
      → All (with_sibling g p q c f h).nodes
  all_sibling g p q c f h i j a =
      let near : Forest = named_by even f in
      let far : Forest = named_by odd h in
      let new : Forest = beside near far in
      let l : F new = steady.both near far (steady.name even f i) (steady.name odd h j) in
      let parts : Graph = apart g p q c c f h in
      all_renewed (joined_into parts p q c new) p c new l
      (all_joined parts p q c new l (all_apart g p q c c f h i j a))

  all_swapped : (g : Graph) (p q : ℕ) (c d : Place) (f h : Forest) → F f → F h → All g.nodes
      → All (swapped g p q c d f h).nodes
  all_swapped g p q c d f h i j a =
      let once : List Entry = set_node g.nodes p (Pdo d h) in
      all_reread (exchanged p q) (set_node once q (Pdo c f))
      (all_put once q c f i (all_put g.nodes p d h j a))

  all_under : (g : Graph) (p k q : ℕ) (b : Bool) → F (forest_at g p) → F (forest_at g q)
      → All g.nodes
      → All (cond b (kid_under_other g p k q) (kid_under g p k q)).nodes
  all_under g p k q true i j a =
      all_kid (swapped_at g p k q) q k p (input_at g p) (forest_at g p) (forest_at g q) i j
      (all_swapped g p q (input_at g p) (place p k) (forest_at g p) (forest_at g q) i j a)
  all_under g p k q false i j a =
      all_kid g p k q (input_at g p) (forest_at g p) (forest_at g q) i j a

  -- ---- rewrites

  pub all_rewritten : (b : Blocked) (r : Rewrite) → CanApply b r → All b.graph.nodes
      → All (rewritten b.graph r).nodes
  all_rewritten b (Merge outer inner) can h =
      let g : Graph = b.graph in
      let ins : List Place =
      spliced inner (ins_of (node_at g.nodes inner)) (ins_of (node_at g.nodes outer)) in
      all_tidied (record {
        nodes = set_node g.nodes outer (Flatten ins);
        outputs = g.outputs;
        next = g.next;
      }) inner (all_set (λ e. Q e.node) g.nodes outer (Flatten ins) h (steady.flat ins))
  all_rewritten b (Sink flatten pdo) can h =
      let g : Graph = b.graph in
      let f : Forest = forest_of (node_at g.nodes pdo) in
      let ins : List Place = ins_of (node_at g.nodes flatten) in
      all_tidied (sunk_once g pdo f ins) flatten
      (all_sunk g pdo f ins (forest_found g.nodes pdo (place flatten 0) f can.0.pdo h) h)
  all_rewritten b (Lift group) can h =
      all_marked (λ m k. cond (m == group) (lift_of b.graph group) k) b.graph.nodes h
  all_rewritten b (Kid keeper output reader) can h =
      let g : Graph = b.graph in
      all_under g keeper output reader (nat_lt reader keeper)
      (forest_found g.nodes keeper (input_at g keeper) (forest_at g keeper) can.keeper h)
      (forest_found g.nodes reader (place keeper output) (forest_at g reader) can.other h) h
  all_rewritten b (Sibling keeper other) can h =
      let g : Graph = b.graph in
      let c : Place = input_at g keeper in
      all_sibling g keeper other c (forest_at g keeper) (forest_at g other)
      (forest_found g.nodes keeper c (forest_at g keeper) can.1.keeper h)
      (forest_found g.nodes other c (forest_at g other) can.1.other h) h
  all_rewritten b (Mark node output) can h = h
