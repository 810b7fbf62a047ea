-- In which list the marked collections are told does not matter to fusing.
use Rattle.std.proofs.Common.{◌≡◌, ℕ, Bool, true, false, cond, ◌&&◌, List, [], ◌∷◌, map, length, Option, Some, None, refl, sym, ap, ◌∙◌, subst, inl, inr, zero, suc}
use Rattle.std.proofs.lemmas.Bool.{false≢true}
use Rattle.std.specs.List.{flat_map}
use Rattle.exec_graph.specs.Forests.{Forest, Bare, Grow, with_out}
use Rattle.exec_graph.specs.Meaning.{node_at}
use Rattle.exec_graph.specs.Readers.{among, readers, same_place}
use Rattle.exec_graph.specs.declared.graph.Place.{Place}
use Rattle.exec_graph.specs.declared.graph.Node.{Node}
use Rattle.exec_graph.specs.declared.graph.Node.TheVariants.{Pdo}
use Rattle.exec_graph.specs.declared.graph.Entry.{Entry}
use Rattle.exec_graph.specs.declared.graph.Graph.{Graph}
use Rattle.exec_graph.specs.declared.graph.Blocked.{Blocked}
use Rattle.exec_graph.proofs.Bools.{or_cases, or_left, or_right}
use Rattle.pardo_fuse.specs.Readers.{Cut, cut_of, is_pdo, is_unmarked}
use Rattle.pardo_fuse.specs.Fusing.{finished_entry, fused, fused_by_parents, hanging, hung, trees_in_turn, joined_by, kept_nodes, kept_of, kids_on, leads, least_number, least_at, least_of, members, moved_to, name_for, over_outs, step_in}
use Rattle.pardo_fuse.specs.Renumbering.{at_number, renumbered_graph}
use Rattle.pardo_fuse.proofs.Places.{same_is, same_self}

-- ---- cuts that differ in their marks alone

module _ (g : Graph) (m n : List Place) (inner : Place → Bool) where
  abbrev left : Cut
  left = record { graph = g; marks = m; inner = inner }

  abbrev right : Cut
  right = record { graph = g; marks = n; inner = inner }

  named_at : (k : ℕ) (o : Option ℕ) → name_for left k o ≡ name_for right k o
  named_at k None = refl
  named_at k (Some j) = refl

  kids_at : (k : ℕ) (o : Option ℕ) → kids_on left k o ≡ kids_on right k o
  kids_at k None = refl
  kids_at k (Some j) = refl

  hung_same : (k : ℕ) (over under : Option ℕ → Forest) → over ≡ under → (f rest : Forest)
      → hung left k over f rest ≡ hung right k under f rest
  hung_same k over under e Bare rest = refl
  hung_same k over under e (Grow l kids more) rest =
      ap (λ (o : Option ℕ). Grow (with_out o l) (over l.out) (hung left k over more rest))
      (named_at k l.out)
      ∙ ap (λ (t : Option ℕ → Forest). Grow (with_out (name_for right k l.out) l) (t l.out)
      (hung left k over more rest)) e
      ∙ ap (λ (h : Forest). Grow (with_out (name_for right k l.out) l) (under l.out) h)
      (hung_same k over under e more rest)

  turn_same : (t u : ℕ → Forest → Forest) → ((k : ℕ) (rest : Forest) → t k rest ≡ u k rest)
      → (ns : List ℕ) → trees_in_turn t ns ≡ trees_in_turn u ns
  turn_same t u e [] = refl
  turn_same t u e (k ∷ ns) = ap (t k) (turn_same t u e ns) ∙ e k (trees_in_turn u ns)

  over_same : {Y : Type 0} (f h : List ℕ → Y) → ((ns : List ℕ) → f ns ≡ h ns) → (j : ℕ)
      (o : Option ℕ) → f (kids_on left j o) ≡ h (kids_on right j o)
  over_same f h e j o = ap f (kids_at j o) ∙ e (kids_on right j o)

  hanging_same : (k : ℕ) (ns : List ℕ) → hanging left k ns ≡ hanging right k ns
  unfolding hanging
  hanging_same zero ns = refl
  hanging_same (suc k) ns =
      turn_same (λ j rest. hung left j (λ o. hanging left k (kids_on left j o))
      (step_in (node_at g.nodes j)) rest)
      (λ j rest. hung right j (λ o. hanging right k (kids_on right j o))
      (step_in (node_at g.nodes j)) rest)
      (λ j rest. hung_same j (λ o. hanging left k (kids_on left j o))
      (λ o. hanging right k (kids_on right j o))
      (λ i. λ o. over_same (hanging left k) (hanging right k) (λ ms. hanging_same k ms) j o i)
      (step_in (node_at g.nodes j)) rest) ns

  kept_same : (k : ℕ) (x : Node) → kept_of left k x ≡ kept_of right k x
  kept_same k (Pdo c f) =
      ap (λ (h : Forest). let e : Entry = record { number = k; node = Pdo c h } in
      cond (leads right k c) (e ∷ []) []) (hanging_same (length g.nodes) (readers g.nodes c))
  kept_same k _ = refl

  nodes_same : kept_nodes left ≡ kept_nodes right
  nodes_same = λ i. flat_map (λ (e : Entry). kept_same e.number e.node i) g.nodes

  members_same : (k : ℕ) (ns : List ℕ) → members left k ns ≡ members right k ns
  unfolding members
  members_same zero ns = refl
  members_same (suc k) ns =
      λ i. flat_map (λ (j : ℕ).
      j ∷ over_outs (λ o. over_same (members left k) (members right k)
      (λ ms. members_same k ms) j o i)
      (step_in (node_at g.nodes j))) ns

  least_same : (k : ℕ) → least_of left k ≡ least_of right k
  least_same k = by (node_at g.nodes k)
    where
      by : (o : Option Node) → least_at left k o ≡ least_at right k o
      by (Some (Pdo c f)) =
          ap (λ (ms : List ℕ). cond (leads right k c) (least_number k ms) k)
          (members_same (length g.nodes) (readers g.nodes c))
      by _ = refl

-- ---- lists that have the same collections

iff : (r s : Bool) → (r ≡ true → s ≡ true) → (s ≡ true → r ≡ true) → r ≡ s
iff true s f h = sym (f refl)
iff false true f h = absurd (false≢true (h refl))
iff false false f h = refl

record From (r : Place → Place) (d : Place) (m : List Place) : Type 0 where
  pub former : Place
  pub is_in : among former m ≡ true
  pub moved : same_place d (r former) ≡ true

mapped_from : (r : Place → Place) (d : Place) (m : List Place) → among d (map r m) ≡ true
    → From r d m
mapped_from r d [] h = absurd (false≢true h)
mapped_from r d (c ∷ m) h =
    elim (or_cases (same_place d (r c)) (among d (map r m)) h) [
      | inl i ↦ record {
        former = c;
        is_in = or_left (same_place c c) (among c m) (same_self c);
        moved = i;
      }
      | inr i ↦ (let f = mapped_from r d m i in record {
        former = f.former;
        is_in = or_right (same_place f.former c) (among f.former m) f.is_in;
        moved = f.moved;
      })
    ]

from_mapped : (r : Place → Place) (d c : Place) (m : List Place) → among c m ≡ true
    → same_place d (r c) ≡ true → among d (map r m) ≡ true
from_mapped r d c [] h e = absurd (false≢true h)
from_mapped r d c (x ∷ m) h e =
    elim (or_cases (same_place c x) (among c m) h) [
      | inl i ↦ or_left (same_place d (r x)) (among d (map r m))
          (subst (λ (y : Place). same_place d (r y) ≡ true) (same_is c x i) e)
      | inr i ↦ or_right (same_place d (r x)) (among d (map r m)) (from_mapped r d c m i e)
    ]

mapped_within : (r : Place → Place) (m n : List Place)
    → ((c : Place) → among c m ≡ among c n) → (d : Place) → among d (map r m) ≡ true
    → among d (map r n) ≡ true
mapped_within r m n same d h =
    let f = mapped_from r d m h in
    from_mapped r d f.former n (sym (same f.former) ∙ f.is_in) f.moved

mapped_same : (r : Place → Place) (m n : List Place)
    → ((c : Place) → among c m ≡ among c n) → (d : Place)
    → among d (map r m) ≡ among d (map r n)
mapped_same r m n same d =
    iff (among d (map r m)) (among d (map r n)) (mapped_within r m n same d)
    (mapped_within r n m (λ c. sym (same c)) d)

-- ---- fusing

-- which outputs are fused is told by a test for marks
inner_same : (g : Graph) (m n : List Place) → ((c : Place) → among c m ≡ among c n)
    → is_unmarked (record { graph = g; marks = m }) ≡ is_unmarked (record { graph = g; marks = n })
inner_same g m n same =
    λ i. λ c. is_pdo (node_at g.nodes c.node) && cond (same c i) false true

abbrev cut_with : Graph → List Place → (Place → Bool) → Cut
cut_with g m t = record { graph = g; marks = m; inner = t }

left_same : (g : Graph) (m n : List Place) → ((c : Place) → among c m ≡ among c n)
    → kept_nodes (cut_of (record { graph = g; marks = m }))
    ≡ kept_nodes (cut_of (record { graph = g; marks = n }))
left_same g m n same =
    let a : Blocked = record { graph = g; marks = m } in
    let b : Blocked = record { graph = g; marks = n } in
    ap (λ (t : Place → Bool). kept_nodes (cut_with g m t)) (inner_same g m n same)
    ∙ nodes_same g m n (is_unmarked b)

abbrev graph_of : Graph → List Entry → Graph
graph_of g hs = record {
  nodes = map (finished_entry (moved_to hs)) hs;
  outputs = map (moved_to hs) g.outputs;
  next = g.next;
}

graphs_by : (g : Graph) (m n : List Place) → ((c : Place) → among c m ≡ among c n)
    → (fused_by_parents (record { graph = g; marks = m })).graph
    ≡ (fused_by_parents (record { graph = g; marks = n })).graph
unfolding joined_by
graphs_by g m n same = ap (graph_of g) (left_same g m n same)

marks_by : (g : Graph) (m n : List Place) → ((c : Place) → among c m ≡ among c n) → (d : Place)
    → among d (fused_by_parents (record { graph = g; marks = m })).marks
    ≡ among d (fused_by_parents (record { graph = g; marks = n })).marks
unfolding joined_by
marks_by g m n same d =
    ap (λ (hs : List Entry). among d (map (moved_to hs) m)) (left_same g m n same)
    ∙ mapped_same (moved_to (kept_nodes (cut_of (record { graph = g; marks = n })))) m n same d

-- under the least numbers
module _ (g : Graph) (m n : List Place) (same : (c : Place) → among c m ≡ among c n) where
  abbrev one : Blocked
  one = record { graph = g; marks = m }

  abbrev other : Blocked
  other = record { graph = g; marks = n }

  least_by : least_of (cut_of one) ≡ least_of (cut_of other)
  least_by =
      ap (λ (t : Place → Bool). least_of (cut_with g m t)) (inner_same g m n same)
      ∙ (λ i. λ k. least_same g m n (is_unmarked other) k i)

  graphs_least : (fused one).graph ≡ (fused other).graph
  graphs_least =
      ap (λ (l : ℕ → ℕ). renumbered_graph l (fused_by_parents one).graph) least_by
      ∙ ap (renumbered_graph (least_of (cut_of other))) (graphs_by g m n same)

  marks_least : (d : Place) → among d (fused one).marks ≡ among d (fused other).marks
  marks_least d =
      ap (λ (l : ℕ → ℕ). among d (map (at_number l) (fused_by_parents one).marks)) least_by
      ∙ mapped_same (at_number (least_of (cut_of other))) (fused_by_parents one).marks
      (fused_by_parents other).marks (marks_by g m n same) d

pub fused_graphs : (a b : Blocked) → a.graph ≡ b.graph
    → ((c : Place) → among c a.marks ≡ among c b.marks) → (fused a).graph ≡ (fused b).graph
fused_graphs a b e same =
    graphs_least a.graph a.marks b.marks same
    ∙ ap (λ (g : Graph). (fused (record { graph = g; marks = b.marks })).graph) e

pub fused_marks : (a b : Blocked) → a.graph ≡ b.graph
    → ((c : Place) → among c a.marks ≡ among c b.marks) → (d : Place)
    → among d (fused a).marks ≡ among d (fused b).marks
fused_marks a b e same d =
    marks_least a.graph a.marks b.marks same d
    ∙ ap (λ (g : Graph). among d (fused (record { graph = g; marks = b.marks })).marks) e
