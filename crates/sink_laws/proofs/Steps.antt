-- Whole merges and steps: a graph stays well-formed and keeps its meaning.
use Rattle.std.proofs.Common.{◌≡◌, ℕ, ◌+◌, ◌<◌, ◌≤◌, Bool, true, false, cond, eqb, List, [], ◌∷◌, Some, map, length, refl, sym, ap, ◌∙◌, subst, arith, inl, inr}
use Rattle.std.proofs.lemmas.Bool.{eqb-true, false≢true}
use Rattle.std.specs.List.{AllByRecursion, list_any}
use Rattle.graph_laws.specs.of_exec_graph.Forests.{Forest}
use Rattle.graph_laws.specs.of_exec_graph.Meaning.{place, node_at, IsRankedBy, KeepsMeaning}
use Rattle.graph_laws.specs.of_exec_graph.Readers.{same_place, among, uses, is_read}
use Rattle.graph_laws.specs.of_exec_graph.Wellformed.{HaveObjects, IsForestOk, IsFounded, IsGraphOk, IsNodeOk, most_nodes, total_size}
use Rattle.graph_laws.specs.of_exec_graph.declared.graph.Place.{Place}
use Rattle.graph_laws.specs.of_exec_graph.declared.graph.Node.{Node}
use Rattle.graph_laws.specs.of_exec_graph.declared.graph.Node.TheVariants.{Flatten, Pdo}
use Rattle.graph_laws.specs.of_exec_graph.declared.graph.Entry.{Entry}
use Rattle.graph_laws.specs.of_exec_graph.declared.graph.Graph.{Graph}
use Rattle.graph_laws.proofs.of_exec_graph.Bools.{not_true, or_cases, or_left}
use Rattle.graph_laws.proofs.of_exec_graph.Entries.{all_found}
use Rattle.graph_laws.proofs.of_exec_graph.Solving.{ranked_at}
use Rattle.graph_laws.proofs.of_exec_graph.Soundness.{IsSound-ok}
use Rattle.graph_laws.specs.Joining.{set_node, without}
use Rattle.graph_laws.proofs.Changes.{node_at-without_other}
use Rattle.graph_laws.proofs.Kids.{KeepsMeaning-then}
use Rattle.graph_laws.proofs.Wellness.{node_at-set_same, node_at-set_other}
use Rattle.graph_laws.proofs.Reading.{any_here}
use Rattle.sink_laws.specs.Kept.{IsSoundChange}
use Rattle.sink_laws.specs.Merging.{spliced, merged_flattens, dropped, merge_step, CanMerge}
use Rattle.sink_laws.specs.Sinking.{copies, rerouted, sunk_once, sink_step, CanSink}
use Rattle.sink_laws.proofs.Dropping.{CanDrop, KeepsMeaning-dropped, IsFounded-dropped}
use Rattle.sink_laws.proofs.DropNodes.{IsReplaced, NodesOk-dropped, size_without}
use Rattle.sink_laws.proofs.MergeMeaning.{KeepsMeaning-merged, IsFounded-merged}
use Rattle.sink_laws.proofs.MergeNodes.{NodesOk-merged, among_put, size-set}
use Rattle.sink_laws.proofs.Ranges.{IsFoundIn}
use Rattle.sink_laws.proofs.SinkFounded.{IsFounded-sunk, copies_there, inputs_apart, node_at-sunk_other}
use Rattle.sink_laws.proofs.SinkMeaning.{KeepsMeaning-sunk}
use Rattle.sink_laws.proofs.ObjectSteps.{HaveObjects-dropped, HaveObjects-merged, HaveObjects-sunk}
use Rattle.sink_laws.proofs.SinkNodes.{NodesOk, NodesOk-sunk}
use Rattle.sink_laws.proofs.Unread.{same_true}

pub IsGood-trans : (g h i : Graph) → IsSoundChange g h → IsSoundChange h i → IsSoundChange g i
IsGood-trans g h i a b = record { ok = b.ok; keeps = KeepsMeaning-then g h i a.keeps b.keeps }

-- ---- a step

map_apart : (p base : ℕ) (cs : List Place) → AllByRecursion (λ c. c.node ≡ p → ⊥) cs
    → map (rerouted p base) cs ≡ cs
map_apart p base [] a = refl
map_apart p base (c ∷ cs) a =
    let i = map_apart p base cs a.1 in
    let e : eqb c.node p ≡ false = not_true (eqb c.node p) (λ h. a.0 (eqb-true c.node p h)) in
    rw (e, i) refl

-- A copy that reads a collection that passes.
pub record IsCopy (all : List Entry) (m : ℕ) (f : Forest) (t : Place → Bool) : Type 0 where
  pub number : ℕ
  pub input : Place
  pub above : m ≤ number
  pub there : node_at all number ≡ Some (Pdo input f)
  pub passes : t input ≡ true

pub found_copy : (all : List Entry) (m : ℕ) (f : Forest) (t : Place → Bool) (cs : List Place)
    → list_any t cs ≡ true → IsFoundIn all (copies m f cs) → IsCopy all m f t
found_copy all m f t [] h a = absurd (false≢true h)
found_copy all m f t (d ∷ ds) h a =
    elim (or_cases (t d) (list_any t ds) h) [
      | inl i ↦ record { number = m; input = d; above = omega arith; there = a.0; passes = i }
      | inr i ↦ (let r = found_copy all (m + 1) f t ds i a.1 in record {
        number = r.number;
        input = r.input;
        above = let l = r.above in omega arith;
        there = r.there;
        passes = r.passes;
      })
    ]

replaced_sunk : (g : Graph) (n p : ℕ) (f : Forest) (ins : List Place) → IsGraphOk g
    → CanSink g n p f ins → IsReplaced (sunk_once g p f ins) n ins
replaced_sunk g n p f ins ok can c h =
    let new : List Entry = (sunk_once g p f ins).nodes in
    let r = found_copy new g.next f (same_place c) ins h
    (copies_there g n p f ins ok.founded.ascends ok.founded.below can) in
    let low : n < g.next = all_found (λ e. e.number < g.next) g.nodes n (Flatten ins) can.flatten
    ok.founded.below in
    let l : g.next ≤ r.number = r.above in
    any_here (uses c) (without new n) r.number (Pdo r.input f)
    (node_at-without_other new n r.number (Pdo r.input f) (λ e. omega arith) r.there)
    (or_left (same_place c r.input) false r.passes)

sink_by : (g : Graph) (n p : ℕ) (f : Forest) (ins : List Place) (b : Bool)
    → is_read (sunk_once g p f ins) (place n 0) ≡ b → IsGraphOk g → CanSink g n p f ins
    → total_size (cond b (sunk_once g p f ins) (dropped (sunk_once g p f ins) n)).nodes ≤ most_nodes
    → IsSoundChange g (cond b (sunk_once g p f ins) (dropped (sunk_once g p f ins) n))
sink_by g n p f ins b i ok can room =
    let h : Graph = sunk_once g p f ins in
    let at_p : IsForestOk g p f = all_found (λ e. IsNodeOk g e.number e.node) g.nodes p
    (Pdo (place n 0) f) can.pdo ok.nodes in
    let founded = IsFounded-sunk g n p f ins ok.founded at_p.order can in
    let nodes : NodesOk h = NodesOk-sunk g n p f ins ok.founded ok.nodes can in
    let keeps : KeepsMeaning g h = KeepsMeaning-sunk g n p f ins (record {
      sound = IsSound-ok g ok;
      below = ok.founded.below;
      order = at_p.order;
    }) can in
    let r : ℕ → ℕ = ok.founded.ranked.0 in
    let up : r n < r p =
    (ranked_at r g.nodes p (Pdo (place n 0) f) ok.founded.ranked.1 can.pdo).0 in
    let at_n : node_at h.nodes n ≡ Some (Flatten ins) =
    node_at-sunk_other g p n f ins (Flatten ins)
    (λ e. let d : r n ≡ r p = ap r e in omega arith) can.flatten
    ∙ ap (λ (l : List Place). Some (Flatten l)) (map_apart p (g.next + length ins) ins
    (inputs_apart g n p f ins r ok.founded.ranked.1 can)) in
    let objects : HaveObjects h.nodes =
    HaveObjects-sunk g n p f ins ok.founded at_p.order can ok.objects in
    by b i room founded nodes objects keeps at_n
  where
    by : (b : Bool) → is_read (sunk_once g p f ins) (place n 0) ≡ b
        → total_size (cond b (sunk_once g p f ins) (dropped (sunk_once g p f ins) n)).nodes
        ≤ most_nodes
        → IsFounded (sunk_once g p f ins) → NodesOk (sunk_once g p f ins)
        → HaveObjects (sunk_once g p f ins).nodes → KeepsMeaning g (sunk_once g p f ins)
        → node_at (sunk_once g p f ins).nodes n ≡ Some (Flatten ins)
        → IsSoundChange g (cond b (sunk_once g p f ins) (dropped (sunk_once g p f ins) n))
    by true i few founded nodes objects keeps at = record {
      ok = record { founded = founded; nodes = nodes; objects = objects; few = few };
      keeps = keeps;
    }
    by false i few founded nodes objects keeps at =
        let h : Graph = sunk_once g p f ins in
        let drop : CanDrop h n ins = record { flatten = at; free = i } in
        record {
          ok = record {
            founded = IsFounded-dropped h n ins founded drop;
            nodes = NodesOk-dropped h n ins drop (replaced_sunk g n p f ins ok can) nodes;
            objects = HaveObjects-dropped h n ins founded.ascends at objects;
            few = few;
          };
          keeps = KeepsMeaning-then g h (dropped h n) keeps
              (KeepsMeaning-dropped h n ins founded.there drop);
        }

-- The law of a step.
pub IsGood-sink_step : (g : Graph) (n p : ℕ) (f : Forest) (ins : List Place) → IsGraphOk g
    → CanSink g n p f ins → total_size (sink_step g n p f ins).nodes ≤ most_nodes
    → IsSoundChange g (sink_step g n p f ins)
IsGood-sink_step g n p f ins ok can room =
    sink_by g n p f ins (is_read (sunk_once g p f ins) (place n 0)) refl ok can room

-- ---- a merge

pub lower : (r : ℕ → ℕ) (e x : ℕ) (ins : List Place) → among (place e 0) ins ≡ true
    → AllByRecursion (λ c. r c.node < x) ins → r e < x
lower r e x [] h a = absurd (false≢true h)
lower r e x (c ∷ cs) h a =
    elim (or_cases (same_place (place e 0) c) (among (place e 0) cs) h) [
      | inl i ↦ subst (λ (d : Place). r d.node < x) (sym (same_true (place e 0) c i)) a.0
      | inr i ↦ lower r e x cs i a.1
    ]

inner_apart : (g : Graph) (f : ℕ) (ins : List Place) (e : ℕ) (es : List Place)
    → (r : ℕ → ℕ) → IsRankedBy r g.nodes → CanMerge g f ins e es → e ≡ f → ⊥
inner_apart g f ins e es r a can i =
    let l : r e < r f = lower r e (r f) ins can.nested
    (ranked_at r g.nodes f (Flatten ins) a can.outer) in
    let j : r e ≡ r f = ap r i in omega arith

replaced_merged : (g : Graph) (f : ℕ) (ins : List Place) (e : ℕ) (es : List Place)
    → (e ≡ f → ⊥) → CanMerge g f ins e es → IsReplaced (merged_flattens g f ins e es) e es
replaced_merged g f ins e es apart can c h =
    let x : Node = Flatten (spliced e es ins) in
    let new : List Entry = set_node g.nodes f x in
    any_here (uses c) (without new e) f x
    (node_at-without_other new e f x (λ i. apart (sym i))
    (node_at-set_same g.nodes f x (Flatten ins) can.outer))
    (among_put c e es ins can.nested h)

merge_by : (g : Graph) (f : ℕ) (ins : List Place) (e : ℕ) (es : List Place) (b : Bool)
    → is_read (merged_flattens g f ins e es) (place e 0) ≡ b → IsGraphOk g → CanMerge g f ins e es
    → IsSoundChange g (cond b (merged_flattens g f ins e es)
    (dropped (merged_flattens g f ins e es) e))
merge_by g f ins e es true i ok can = record {
  ok = record {
    founded = IsFounded-merged g f ins e es ok.founded can;
    nodes = NodesOk-merged g f ins e es ok.founded.ascends can ok.nodes;
    objects = HaveObjects-merged g f ins e es can ok.objects;
    few = subst (λ (k : ℕ). k ≤ most_nodes) (sym (size-set g.nodes f (Flatten (spliced e es ins))
        (Flatten ins) can.outer refl)) ok.few;
  };
  keeps = KeepsMeaning-merged g f ins e es can;
}
merge_by g f ins e es false i ok can =
    let h : Graph = merged_flattens g f ins e es in
    let apart : e ≡ f → ⊥ =
    inner_apart g f ins e es ok.founded.ranked.0 ok.founded.ranked.1 can in
    let drop : CanDrop h e es = record {
      flatten = node_at-set_other g.nodes f e (Flatten (spliced e es ins)) (Flatten es) apart
          can.inner;
      free = i;
    } in
    let founded = IsFounded-merged g f ins e es ok.founded can in
    let size : total_size h.nodes ≡ total_size g.nodes =
    size-set g.nodes f (Flatten (spliced e es ins)) (Flatten ins) can.outer refl in
    let smaller = size_without h.nodes e in
    let few : total_size g.nodes ≤ most_nodes = ok.few in
    record {
      ok = record {
        founded = IsFounded-dropped h e es founded drop;
        nodes = NodesOk-dropped h e es drop (replaced_merged g f ins e es apart can)
            (NodesOk-merged g f ins e es ok.founded.ascends can ok.nodes);
        objects = HaveObjects-dropped h e es founded.ascends drop.flatten
            (HaveObjects-merged g f ins e es can ok.objects);
        few = omega arith;
      };
      keeps = KeepsMeaning-then g h (dropped h e) (KeepsMeaning-merged g f ins e es can)
          (KeepsMeaning-dropped h e es founded.there drop);
    }

-- The law of a merge.
pub IsGood-merge_step : (g : Graph) (f : ℕ) (ins : List Place) (e : ℕ) (es : List Place)
    → IsGraphOk g → CanMerge g f ins e es → IsSoundChange g (merge_step g f ins e es)
IsGood-merge_step g f ins e es ok can =
    merge_by g f ins e es (is_read (merged_flattens g f ins e es) (place e 0)) refl ok can
