-- The fused graph with its marks is ok.
use Rattle.std.proofs.Common.{◌≡◌, ℕ, ◌<◌, ◌≤◌, Bool, true, false, cond, ◌||◌, ◌&&◌, List, [], ◌∷◌, map, length, Option, Some, None, refl, sym, ap, ◌∙◌, arith}
use Rattle.std.proofs.lemmas.Bool.{false≢true}
use Rattle.std.specs.List.{flat_map, AllByRecursion}
use Rattle.exec_graph.specs.Forests.{Label, Forest, Bare, Grow, steps, numbered, new_label, new_out, next_after, after_out, with_out}
use Rattle.exec_graph.specs.declared.graph.Place.{Place}
use Rattle.exec_graph.specs.declared.graph.Node.{Node}
use Rattle.exec_graph.specs.declared.graph.Node.TheVariants.{Source, Flatten, Pdo, Gbk, Barrier}
use Rattle.exec_graph.specs.declared.graph.Entry.{Entry}
use Rattle.exec_graph.specs.Meaning.{node_at, gives_at, IsThere, IsSound}
use Rattle.graph_laws.specs.Joining.{reread}
use Rattle.exec_graph.proofs.Entries.{all_found, all_map}
use Rattle.flume_value.proofs.EachLemmas.{Each-weaker, Each-both}
use Rattle.exec_graph.proofs.Solving.{each_found, there_found}
use Rattle.exec_graph.specs.declared.graph.Blocked.{Blocked}
use Rattle.pardo_fuse.specs.Readers.{Cut, cut_of, is_outer, among, calls_on, collects, any_node, is_pdo, is_marked, is_kept}
use Rattle.pardo_fuse.specs.Fusing.{finished_entry, holds_out, leads, with_numbers}
use Rattle.pardo_fuse.specs.SingleFusing.{CanFuse, forest_reading, fused_by, joined_nodes, entries_left}
use Rattle.exec_graph.specs.Objects.{takes_such}
use Rattle.graph_laws.proofs.ObjectNodes.{flags_reread}
use Rattle.exec_graph.specs.Wellformed.{HaveObjects, has_objects, is_object, is_object_at, Ascends, IsNodeOk, is_lifted, most_nodes, size, total_size, IsBlockedOk}
use Rattle.exec_graph.specs.Readers.{uses, is_read}
use Rattle.pardo_fuse.proofs.Once.{AllGrown}
use Rattle.pardo_fuse.proofs.Levels.{all_grown}
use Rattle.pardo_fuse.proofs.Few.{joined_size}
use Rattle.pardo_fuse.proofs.Places.{pdo_is}
use Rattle.pardo_fuse.proofs.Naming.{all_joined, all_cond, differ_joined, joined_more}
use Rattle.pardo_fuse.proofs.Finding.{search_place, any_joined, not_new, no_joined, IsSeen, IsNew}
use Rattle.pardo_fuse.proofs.Seeing.{all_among, seen_left}
use Rattle.pardo_fuse.proofs.Wellness.{at_finished, done_node, well, well_kept, others_left, IsSound-fused}
use Rattle.pardo_fuse.proofs.Settling.{now, nodes_now}
use Rattle.pardo_fuse.proofs.Using.{graph_now, outs_read}
use Rattle.pardo_fuse.proofs.Lifting.{gbk, lifted_ok}
use Rattle.exec_graph.proofs.Bools.{or_right as right}

-- What else has to hold of the graph: the numbers that are left ascend, there are not too many
-- steps, its nodes are ok, no marked Gbk is lifted, and no marked output is fused away.
pub record IsCutOk (b : Cut) : Type 0 where
  pub ascends : Ascends (joined_nodes b)
  pub below : AllByRecursion (λ (e : Entry). e.number < b.graph.next) (joined_nodes b)
  pub few : total_size b.graph.nodes ≤ most_nodes
  pub nodes : AllByRecursion (λ e. IsNodeOk b.graph e.number e.node) b.graph.nodes
  pub unlifted : AllByRecursion (λ c. is_lifted (node_at b.graph.nodes c.node) ≡ false) b.marks
  pub outer : AllByRecursion (λ c. is_outer b c ≡ true) b.marks
  pub objects : HaveObjects b.graph.nodes

-- ---- sizes
steps-numbered : (s : ℕ) (f : Forest) → steps (numbered s f) ≡ steps f
steps-numbered s Bare = refl
steps-numbered s (Grow l kids rest) = let a = steps-numbered (after_out s l.out) kids in let b =
    steps-numbered (next_after (after_out s l.out) kids) rest in omega arith

size_done : (r : Place → Place) (x : Node) → size (reread r (with_numbers x)) ≡ size x
size_done r (Pdo c f) = steps-numbered 0 f
size_done r _ = refl

total_done : (r : Place → Place) (hs : List Entry) → total_size (map (finished_entry r) hs)
    ≡ total_size hs
total_done r [] = refl
total_done r (h ∷ hs) = let a = total_done r hs in let e = size_done r h.node in omega arith

-- ---- each node
same_label : (s : ℕ) (l : Label) → new_label s (new_label s l) ≡ new_label s l
same_label s l = ap (λ (o : Option ℕ). let m : Label = with_out o l in m) (by l.out)
  where
    by : (o : Option ℕ) → new_out s (new_out s o) ≡ new_out s o
    by None = refl
    by (Some j) = refl

after_new : (s : ℕ) (o : Option ℕ) → after_out s (new_out s o) ≡ after_out s o
after_new s None = refl
after_new s (Some j) = refl

after_numbered : (s : ℕ) (f : Forest) → next_after s (numbered s f) ≡ next_after s f
after_numbered s Bare = refl
after_numbered s (Grow l kids rest) =
    ap (λ (k : ℕ). next_after (next_after k (numbered (after_out s l.out) kids))
    (numbered (next_after (after_out
    s l.out) kids) rest)) (after_new s l.out)
    ∙ ap (λ (k : ℕ). next_after k (numbered (next_after (after_out s l.out) kids) rest))
    (after_numbered
    (after_out s l.out) kids)
    ∙ after_numbered (next_after (after_out s l.out) kids) rest

pub numbered_again : (s : ℕ) (f : Forest) → numbered s (numbered s f) ≡ numbered s f
numbered_again s Bare = refl
numbered_again s (Grow l kids rest) =
    let a : ℕ = after_out s l.out in
    let c : ℕ = next_after a kids in
    ap (λ (m : Label). Grow m (numbered (after_out s (new_out s l.out)) (numbered a kids))
    (numbered (next_after (after_out s (new_out s l.out)) (numbered a kids)) (numbered c rest)))
    (same_label s l)
    ∙ ap (λ (k : ℕ). Grow (new_label s l) (numbered k (numbered a kids)) (numbered (next_after k
    (numbered a kids)) (numbered c rest))) (after_new s l.out)
    ∙ ap (λ (k : ℕ). Grow (new_label s l) (numbered a (numbered a kids)) (numbered k (numbered c
    rest))) (after_numbered a kids)
    ∙ ap (λ (f : Forest). Grow (new_label s l) f (numbered c (numbered c rest))) (numbered_again a
    kids)
    ∙ ap (λ (f : Forest). Grow (new_label s l) (numbered a kids) f) (numbered_again c rest)

abbrev OkNow : Cut → Entry → Type 0
OkNow b h = node_at (joined_nodes b) h.number ≡ Some h.node
    → IsNodeOk (graph_now b) h.number (reread (now b) (with_numbers h.node))

pub length-map : (r : Place → Place) (ds : List Place) → length (map r ds) ≡ length ds
length-map r [] = refl
length-map r (d ∷ ds) = let i = length-map r ds in omega arith

left_ok : (b : Cut) → (can : CanFuse b) → AllGrown b → IsCutOk b → (n : ℕ) (x : Node)
    → node_at b.graph.nodes n ≡ Some x → AllByRecursion (OkNow b) (entries_left b n x)
left_ok b can g fu n (Flatten ins) at =
    let a = all_found (λ e. IsNodeOk b.graph e.number e.node) b.graph.nodes n (Flatten ins) at
    fu.nodes in
    let x = a.0 in
    let y = a.1 in
    let e = length-map (now b) ins in
    (λ _. (omega arith, omega arith), tt)
left_ok b can g fu n (Pdo c f) at =
    all_cond (OkNow b) (leads b n c) (record {
      number = n;
      node =
          Pdo c (forest_reading b c);
    }) (λ l found.
    record {
      order = numbered_again 0 (forest_reading b c);
      read = λ j h. outs_read b n c j can g (record { old = f; at = at; leads = l }) found h;
    })
left_ok b can g fu n (Gbk c o l (Some k)) at = (
  λ _. lifted_ok b n k can g (gbk b n c o l (Some k) can g at) (all_found (λ e. IsNodeOk b.graph
      e.number e.node) b.graph.nodes n (Gbk c o l (Some k)) at fu.nodes),
  tt,
)
left_ok b can g fu n _ at = (λ _. tt, tt)

-- ---- marks
uses_cases : (c : Place) (es : List Entry) → any_node (uses c) es ≡ true
    → (any_node (calls_on c) es || any_node (collects c) es) ≡ true
uses_cases c [] h = h
uses_cases c (e ∷ es) h = by (calls_on c e.node) (collects c e.node) (any_node (calls_on c) es)
    (any_node (collects c) es) (uses_cases c es) h
  where
    by : (p q r s : Bool) → (any_node (uses c) es ≡ true → (r || s) ≡ true)
        → ((p || q) || any_node (uses c) es) ≡ true → ((p || r) || (q || s)) ≡ true
    by true q r s f i = refl
    by false true r s f i = right r true refl
    by false false r s f i = f i

marked_kept : (b : Cut) (c : Place) → is_outer b c ≡ true → is_read b.graph c ≡ true
    → is_kept b c ≡ true
marked_kept b c m h = by (any_node (uses c) b.graph.nodes) (among c b.graph.outputs) (any_node
    (collects c) b.graph.nodes) (any_node (calls_on c) b.graph.nodes) (is_outer b c) m h
    (uses_cases c b.graph.nodes)
  where
    by : (u o p q i : Bool) → i ≡ true → (u || o) ≡ true → (u ≡ true → (q || p) ≡ true)
        → (p || (o || (i && q))) ≡ true
    by u o true q i m h f = refl
    by u true false q i m h f = refl
    by true false false true i m h f = rw m refl
    by true false false false i m h f = absurd (false≢true (f refl))
    by false false false q i m h f = absurd (false≢true h)

there_read : (b : Cut) (c : Place) → IsCutOk b → IsThere b.graph.nodes c
    → (d : Place) (f : Forest) → node_at b.graph.nodes c.node ≡ Some (Pdo d f)
    → is_read b.graph c ≡ true
there_read b c fu t d f at = (all_found (λ e. IsNodeOk b.graph e.number e.node) b.graph.nodes
    c.node (Pdo d f) at fu.nodes).read c.out (sym (ap (λ (o : Option Node). gives_at o c.out) at)
    ∙ t)

pdo_read : (b : Cut) (c : Place) → IsCutOk b → IsThere b.graph.nodes c → (o : Option Node)
    → node_at b.graph.nodes c.node ≡ o → is_pdo o ≡ true → is_read b.graph c ≡ true
pdo_read b c fu t (Some (Pdo d f)) at h = there_read b c fu t d f at
pdo_read b c fu t _ at h = absurd (false≢true h)

pub mark_seen : (b : Cut) → CanFuse b → IsCutOk b → AllByRecursion (IsSeen b) b.marks
mark_seen b can fu = Each-both (IsThere b.graph.nodes) (λ c. is_outer b c
    ≡ true) (IsSeen b) (λ c t m. record {
      there = t;
      kept =
          λ h. marked_kept b c m (pdo_read b c fu t (node_at b.graph.nodes c.node) refl h);
    }) b.marks
    can.marked fu.outer

lifted_same : (r : Place → Place) (x : Node) → is_lifted (Some (reread r (with_numbers x)))
    ≡ is_lifted (Some x)
lifted_same r (Gbk c o l None) = refl
lifted_same r _ = refl

abbrev Here : Cut → Entry → Type 0
Here b e = node_at (joined_nodes b) e.number ≡ Some e.node

-- A collection is of the kind that it was, where all Pdos are of one.
kind_now : (t : Option Node → Bool) (v : Bool)
    → ((c : Place) (f : Forest) → t (Some (Pdo c f)) ≡ v)
    → ((r : Place → Place) (x : Node) → t (Some (reread r (with_numbers x))) ≡ t (Some x))
    → (b : Cut) (c : Place) → CanFuse b → AllGrown b → IsSeen b c → (s : Bool)
    → is_pdo (node_at b.graph.nodes c.node) ≡ s
    → t (node_at (nodes_now b) (now b c).node) ≡ t (node_at b.graph.nodes c.node)
kind_now t v pdos same b c can g s true h =
    let hs : List Entry = joined_nodes b in
    let i : IsNew (Here b) hs c = search_place (Here b) c hs (each_found hs (differ_joined b
    b.graph.nodes can.ok.differ)) (any_joined b c.node can g h (well_kept b c can s h)) in
    let p = pdo_is (node_at b.graph.nodes c.node) h in
    ap (λ (d : Place). t (node_at (nodes_now b) d.node)) i.is
    ∙ ap t (at_finished (now b) hs i.here.number ∙ ap (done_node (now b)) i.holds)
    ∙ held i.here.node i.keeps ∙ sym (ap t p.2 ∙ pdos p.0 p.1)
  where
    held : (x : Node) → holds_out c.node x ≡ true
        → t (Some (reread (now b) (with_numbers x))) ≡ v
    held (Pdo d f) e = pdos (now b d) (numbered 0 f)
    held _ e = absurd (false≢true e)
kind_now t v pdos same b c can g s false h =
    let hs : List Entry = joined_nodes b in
    let x = there_found b.graph.nodes c s.there in
    ap (λ (d : Place). t (node_at (nodes_now b) d.node)) (not_new c hs (no_joined b c.node can g h))
    ∙ ap t (at_finished (now b) hs c.node ∙ ap (done_node (now b)) (others_left b
    b.graph.nodes c.node x.0 x.1 (sym (ap is_pdo x.1) ∙ h)))
    ∙ same (now b) x.0 ∙ sym (ap t x.1)

-- ---- objects
object_same : (r : Place → Place) (x : Node)
    → is_object (Some (reread r (with_numbers x))) ≡ is_object (Some x)
object_same r (Source s) = refl
object_same r _ = refl

abbrev ObjectsNow : Cut → Entry → Type 0
ObjectsNow b h = has_objects (nodes_now b) (reread (now b) (with_numbers h.node)) ≡ true

left_objects : (b : Cut) → (can : CanFuse b) → AllGrown b → IsCutOk b → (n : ℕ) (x : Node)
    → node_at b.graph.nodes n ≡ Some x → AllByRecursion (ObjectsNow b) (entries_left b n x)
left_objects b can g fu n (Pdo c f) at =
    all_cond (ObjectsNow b) (leads b n c) (record { number = n; node = Pdo c (forest_reading b c) })
    (λ i. refl)
left_objects b can g fu n (Barrier ins o l d) at = (
  ap (takes_such d) (flags_reread (is_object_at (nodes_now b)) (is_object_at b.graph.nodes)
      (now b) ins (Each-weaker (IsSeen b)
      (λ c. is_object_at (nodes_now b) (now b c) ≡ is_object_at b.graph.nodes c)
      (λ c s. kind_now is_object false (λ d f. refl) object_same b c can g s
      (is_pdo (node_at b.graph.nodes c.node)) refl) ins
      (seen_left b can n (Barrier ins o l d) at refl)))
      ∙ all_found (λ e. has_objects b.graph.nodes e.node ≡ true) b.graph.nodes n
      (Barrier ins o l d) at fu.objects,
  tt,
)
left_objects b can g fu n _ at = (refl, tt)

-- ---- numbers
pub joined_ascends : (b : Cut) (es : List Entry) → Ascends es
    → Ascends (flat_map (λ e. entries_left b e.number e.node) es)
joined_ascends = joined_more (λ n m. n < m) Ascends tt (λ e es a u. (a, u)) (λ e es u. u)

done_ascends : (r : Place → Place) (hs : List Entry) → Ascends hs
    → Ascends (map (finished_entry r) hs)
done_ascends r [] u = tt
done_ascends r (h ∷ hs) u = (
  all_map (finished_entry r) (λ d. h.number < d.number) (λ d. h.number < d.number) (λ d a. a) hs
      u.0,
  done_ascends r hs u.1,
)

graph_sound : (b : Cut) → CanFuse b → IsSound (graph_now b)
unfolding fused_by
graph_sound b can = IsSound-fused b can

pub IsBlockedOk-fused_by : (b : Cut) → CanFuse b → IsCutOk b → IsBlockedOk (fused_by b)
unfolding fused_by
IsBlockedOk-fused_by b can fu =
    let g : AllGrown b = all_grown b can in
    let hs : List Entry = joined_nodes b in
    let sound = graph_sound b can in
    let seen : AllByRecursion (IsSeen b) b.marks = mark_seen b can fu in
    record {
      ok = record {
        founded = record {
          ascends = done_ascends (now b) hs fu.ascends;
          below = all_map (finished_entry (now b)) (λ (d : Entry). d.number < b.graph.next)
              (λ (d : Entry). d.number < b.graph.next) (λ d a. a) hs fu.below;
          there = sound.there;
          told = sound.told;
          ranked = sound.ranked;
        };
        nodes =
            all_map (finished_entry (now b)) (λ h. IsNodeOk (graph_now b) h.number (reread (now b)
            (with_numbers h.node))) (λ e. IsNodeOk (graph_now b) e.number e.node) (λ e a. a) hs
            (Each-both (Here b) (OkNow b) (λ h. IsNodeOk (graph_now b) h.number (reread (now b)
            (with_numbers h.node))) (λ e a f. f a) hs (each_found hs (differ_joined b
            b.graph.nodes can.ok.differ)) (all_joined b (OkNow b) (left_ok b can g fu)
            b.graph.nodes (each_found b.graph.nodes can.ok.differ)));
        objects = all_map (finished_entry (now b)) (ObjectsNow b)
            (λ e. has_objects (nodes_now b) e.node ≡ true) (λ e a. a) hs
            (all_joined b (ObjectsNow b) (left_objects b can g fu) b.graph.nodes
            (each_found b.graph.nodes can.ok.differ));
        few = let a = total_done (now b) hs in let d = joined_size b can in let f = fu.few in
            omega arith;
      };
      marked = all_map (now b) (IsSeen b) (IsThere (nodes_now b)) (λ c s. (well b can.ok.ranked.0 c
          can.ok.ranked.1 can g s).there) b.marks seen;
      unlifted = all_map (now b) (λ c. is_lifted (node_at (nodes_now b) (now b c).node)
          ≡ false) (λ c. is_lifted (node_at (nodes_now b) c.node) ≡ false) (λ c a. a) b.marks
          (Each-both (IsSeen b) (λ c. is_lifted (node_at b.graph.nodes c.node)
          ≡ false) (λ c. is_lifted (node_at (nodes_now b) (now b c).node)
          ≡ false) (λ c s l. kind_now is_lifted false (λ d f. refl) lifted_same b c can g s
          (is_pdo (node_at b.graph.nodes c.node)) refl ∙ l) b.marks seen fu.unlifted);
    }

marked_outer : (p m : Bool) → m ≡ true → cond (p && cond m false true) false true ≡ true
marked_outer true true h = refl
marked_outer true false h = absurd (false≢true h)
marked_outer false m h = refl

-- No marked output is fused away.
pub cut_outer : (a : Blocked) → AllByRecursion (λ c. is_outer (cut_of a) c ≡ true) a.marks
cut_outer a = Each-weaker (λ c. among c a.marks ≡ true) (λ c. is_outer (cut_of a) c
    ≡ true) (λ c m. marked_outer (is_pdo (node_at a.graph.nodes c.node)) (is_marked a c) m)
    a.marks (all_among a.marks)
