-- The outputs of the readers among the first nodes stand with the first reader. Where the next node
-- is no Pdo, or the first reader of what it reads, nothing changes.
use Rattle.std.proofs.Common.{◌≡◌, ℕ, ◌%◌, ◌<◌, Bool, true, false, cond, eqb, ◌||◌, List, [], ◌∷◌, ◌++◌, map, Some, None, refl, sym, ap, ◌∙◌, subst}
use Rattle.std.proofs.lemmas.Bool.{eqb-true, eq-eqb, false≢true, ne_eqb}
use Rattle.std.proofs.lemmas.List.{append-nil}
use Rattle.std.proofs.lemmas.List.Concat.{flat_map-append}
use Rattle.std.specs.List.{AllByRecursion as Each}
use Rattle.flume_value.proofs.EachLemmas.{Each-weaker, Each-left, Each-append}
use Rattle.exec_graph.specs.Forests.{Forest, Bare, Grow}
use Rattle.exec_graph.specs.Meaning.{node_at, IsSound}
use Rattle.exec_graph.specs.Readers.{calls_on, is_read, readers, same_place, those}
use Rattle.exec_graph.specs.Wellformed.{Ascends}
use Rattle.exec_graph.specs.declared.graph.Place.{Place}
use Rattle.exec_graph.specs.declared.graph.Node.{Node}
use Rattle.exec_graph.specs.declared.graph.Node.TheVariants.{Pdo}
use Rattle.exec_graph.specs.declared.graph.Entry.{Entry}
use Rattle.exec_graph.specs.declared.graph.Graph.{Graph}
use Rattle.exec_graph.specs.declared.graph.Blocked.{Blocked}
use Rattle.exec_graph.proofs.Entries.{all_found}
use Rattle.graph_laws.specs.Joining.{reread}
use Rattle.graph_laws.specs.Single.{HasSteps, IsOneStep}
use Rattle.pardo_fuse.specs.Fusing.{is_first}
use Rattle.pardo_fuse.specs.Parting.{part_place, parted, parted_nodes, parts, parts_of_node}
use Rattle.pardo_fuse.specs.Wellformed.{IsFusible}
use Rattle.pardo_fuse.proofs.Parting.{all_parts, number_mod, parts_mod, small_mod}
use Rattle.pardo_fuse.proofs.Places.{same_is, same_self}
use Rattle.pardo_fuse.proofs.Sites.{parts_readers, sites}
use Rattle.pardo_fuse.proofs.Unparting.{each_part, low}
use Rattle.fuse_chain.specs.Rewrites.{InOrder, FusesTo, Fusion, is_sibling, other_of}
use Rattle.fuse_chain.proofs.SideBySide.{rooted}
use Rattle.fuse_chain.proofs.Partly.{in_last, in_other, not_in}
use Rattle.fuse_chain.proofs.Plans.{Plan, drawn}
use Rattle.fuse_chain.proofs.Splits.{below_last, end, found_of, is_in}
use Rattle.fuse_chain.proofs.States.{IsState, graph_of, named_graph}
use Rattle.fuse_chain.proofs.Whole.{can, first_site, own, sites_at, scene}
use Rattle.pardo_fuse.proofs.Lifting.{those-append}

-- The outputs that read c, of the first nodes.
abbrev pub calls : Blocked → List Entry → Place → List ℕ
calls b done c = readers (all_parts b.graph.next (part_place b.graph) done) c

-- Where the first Pdos of the graph have become siblings.
abbrev pub part_done : Blocked → List Entry → Plan
part_done b done q c = cond (is_in (q % b.graph.next) done)
    (cond (is_first q (calls b done c)) (Some (rooted (parted b) (calls b done c))) None)
    (own b q c)

abbrev pub done_nodes : Blocked → List Entry → List Entry
done_nodes b done = drawn (part_done b done) (parted_nodes b.graph)

abbrev pub done_graph : Blocked → List Entry → Graph
done_graph b done = graph_of (done_nodes b done)
    (map (part_place b.graph) b.graph.outputs) b.graph.next

pub record IsDone (b : Blocked) (done : List Entry) : Type 0 where
  pub state : IsState (done_nodes b done) (map (part_place b.graph) b.graph.outputs)
  pub sound : IsSound (done_graph b done)
  pub reads : (v : Place)
      → is_read (named_graph (done_nodes b done) (map (part_place b.graph) b.graph.outputs)) v
      ≡ is_read (parted b).graph v

pub record StepsFrom (b : Blocked) (done rest : List Entry) : Type 0 where
  pub rewrites : List Fusion
  pub all : Each (λ r. is_sibling r ≡ true) rewrites
  pub order : InOrder rewrites
  pub leads : FusesTo rewrites (done_graph b done) (done_graph b b.graph.nodes)
  pub above : (low : ℕ) → Each (λ d. low < d.number) rest
      → Each (λ r. low < other_of r) rewrites

-- ---- lists of parts

pub parts_two : (k : ℕ) (r : Place → Place) (xs ys : List Entry)
    → all_parts k r (xs ++ ys) ≡ all_parts k r xs ++ all_parts k r ys
parts_two k r xs ys = flat_map-append (λ e. parts_of_node k e.number (reread r e.node)) xs ys

-- Each output that reads is of one of the nodes.
those_mod : (P : ℕ → Type 0) (k : ℕ) (t : Node → Bool) (n : ℕ) → P n → (hs : List Entry)
    → Each (λ (h : Entry). h.number % k ≡ n) hs → Each (λ m. P (m % k)) (those t hs)
those_mod P k t n p [] a = tt
those_mod P k t n p (h ∷ hs) a = by (t h.node) (those_mod P k t n p hs a.1)
  where
    by : (s : Bool) → Each (λ m. P (m % k)) (those t hs)
        → Each (λ m. P (m % k)) (cond s (h.number ∷ those t hs) (those t hs))
    by true i = (subst P (sym a.0) p, i)
    by false i = i

pub calls_mod : (P : ℕ → Type 0) (k : ℕ) (r : Place → Place) (c : Place) (ds : List Entry)
    → Each (λ (e : Entry). e.number < k) ds → Each (λ (e : Entry). P e.number) ds
    → Each (λ m. P (m % k)) (readers (all_parts k r ds) c)
calls_mod P k r c [] a p = tt
calls_mod P k r c (e ∷ ds) a p =
    subst (Each (λ m. P (m % k)))
    (sym (those-append (calls_on c) (parts_of_node k e.number (reread r e.node))
    (all_parts k r ds)))
    (Each-append (λ m. P (m % k)) (those (calls_on c) (parts_of_node k e.number (reread r e.node)))
    (readers (all_parts k r ds) c)
    (those_mod P k (calls_on c) e.number p.0 (parts_of_node k e.number (reread r e.node))
    (parts_mod k e.number (reread r e.node) a.0))
    (calls_mod P k r c ds a.1 p.1))

pub in_each : (ds : List Entry) → Each (λ (e : Entry). is_in e.number ds ≡ true) ds
in_each [] = tt
in_each (e ∷ ds) = (
  ap (λ t. t || is_in e.number ds) (eq-eqb e.number e.number refl),
  Each-weaker (λ (d : Entry). is_in d.number ds ≡ true)
      (λ (d : Entry). is_in d.number (e ∷ ds) ≡ true)
      (λ d h. later (eqb e.number d.number) (is_in d.number ds) h) ds (in_each ds),
)
  where
    later : (x y : Bool) → y ≡ true → (x || y) ≡ true
    later true y h = refl
    later false y h = h

module _ (b : Blocked) (fu : IsFusible b) where
  open (scene b) use {g, k, es, r, ps}

  pub below_done : (done rest : List Entry) → es ≡ done ++ rest
      → Each (λ (e : Entry). e.number < k) done
  below_done done rest split = Each-left (λ (e : Entry). e.number < k) done rest
      (subst (Each (λ (e : Entry). e.number < k)) split fu.ok.ok.founded.below)

  pub steps_done : (done rest : List Entry) → es ≡ done ++ rest
      → Each (λ (e : Entry). HasSteps IsOneStep e.node) done
  steps_done done rest split = Each-left (λ (e : Entry). HasSteps IsOneStep e.node) done rest
      (subst (Each (λ (e : Entry). HasSteps IsOneStep e.node)) split fu.unfused)

  -- ---- where an output's Pdo is from
  abbrev From : Entry → Type 0
  From h = (c : Place) (f : Forest) → h.node ≡ Pdo c f
      → (d : Place) × (t : Forest) × (node_at es (h.number % k) ≡ Some (Pdo d t)) × (c ≡ r d)

  row_from : (n : ℕ) (d : Place) (t : Forest) → node_at es n ≡ Some (Pdo d t) → (row : Forest)
      → Each From (parts k n (r d) row)
  row_from n d t at Bare = tt
  row_from n d t at (Grow l kids rest) = (
    λ c f e.
        let same : r d ≡ c = cc in (
          d,
          t,
          ap (node_at es) (number_mod k n l.at (low g (can b fu) n (Pdo d t) at))
              ∙ at,
          sym same,
        ),
    row_from n d t at rest,
  )

  node_from : (n : ℕ) (x : Node) → node_at es n ≡ Some x
      → Each From (parts_of_node k n (reread r x))
  node_from n (Pdo d t) at = row_from n d t at t
  node_from n _ at = (λ c f e. let bad : ⊥ = cc in absurd bad, tt)

  pub from : (q : ℕ) (c : Place) (f : Forest) → node_at ps q ≡ Some (Pdo c f)
      → (d : Place) × (t : Forest) × (node_at es (q % k) ≡ Some (Pdo d t)) × (c ≡ r d)
  from q c f at = all_found From ps q (Pdo c f) at
      (each_part From g (can b fu).ok.differ node_from) c f refl

  -- ---- one node more
  calls_end : (done : List Entry) (e : Entry) (c : Place)
      → calls b (end done e) c
      ≡ calls b done c ++ those (calls_on c) (parts_of_node k e.number (reread r e.node))
  calls_end done e c =
      ap (λ (l : List Entry). readers l c) (parts_two k r done (e ∷ []))
      ∙ those-append (calls_on c) (all_parts k r done) (all_parts k r (e ∷ []))
      ∙ ap (λ (l : List Entry). calls b done c ++ readers l c)
      (append-nil (parts_of_node k e.number (reread r e.node)))

  calls_pdo : (done : List Entry) (e : Entry) (d : Place) (f : Forest) → e.node ≡ Pdo d f
      → node_at es e.number ≡ Some (Pdo d f) → (c : Place) (t : Bool) → same_place c (r d) ≡ t
      → calls b (end done e) c ≡ calls b done c ++ cond t (sites g e.number) []
  calls_pdo done e d f is at c t h =
      calls_end done e c
      ∙ ap (λ (x : Node). calls b done c
      ++ those (calls_on c) (parts_of_node k e.number (reread r x))) is
      ∙ ap (λ (l : List ℕ). calls b done c ++ l) (parts_readers c k e.number (r d) f t h)
      ∙ ap (λ (l : List ℕ). calls b done c ++ cond t l []) (sym (sites_at b fu e.number d f at))

  -- Where nothing changes for c, and the output is of another node.
  same_plan : (done : List Entry) (e : Entry) (q : ℕ) (c : Place) → (q % k ≡ e.number → ⊥)
      → calls b (end done e) c ≡ calls b done c
      → part_done b (end done e) q c ≡ part_done b done q c
  same_plan done e q c n h =
      ap (λ t. cond t (cond (is_first q (calls b (end done e) c))
      (Some (rooted (parted b) (calls b (end done e) c))) None) (own b q c))
      (in_other (q % k) done e n)
      ∙ ap (λ l. cond (is_in (q % k) done) (cond (is_first q l) (Some (rooted (parted b) l)) None)
      (own b q c)) h

  -- ---- a node that is no Pdo
  pub other_plan : (done rest : List Entry) (e : Entry) → es ≡ done ++ (e ∷ rest)
      → ((c : Place) → those (calls_on c) (parts_of_node k e.number (reread r e.node)) ≡ [])
      → ((c : Place) (h : Forest) → Some e.node ≡ Some (Pdo c h) → ⊥)
      → (q : ℕ) (c : Place) (h : Forest) → node_at ps q ≡ Some (Pdo c h)
      → part_done b (end done e) q c ≡ part_done b done q c
  other_plan done rest e split silent other q c h at =
      let w = from q c h at in
      same_plan done e q c
      (λ i. other w.0 w.1 (sym (found_of es done rest e (can b fu).ok.differ split)
      ∙ ap (node_at es) (sym i) ∙ w.2))
      (calls_end done e c ∙ ap (λ (l : List ℕ). calls b done c ++ l) (silent c)
      ∙ append-nil (calls b done c))

  module _ (done rest : List Entry) (e : Entry) (d : Place) (f : Forest)
      (split : b.graph.nodes ≡ done ++ (e ∷ rest)) (is : e.node ≡ Pdo d f) where
    abbrev q : ℕ
    q = e.number

    pub at_q : node_at es q ≡ Some (Pdo d f)
    at_q = found_of es done rest e (can b fu).ok.differ split ∙ ap (λ (x : Node). Some x) is

    low_q : q < k
    low_q = low g (can b fu) q (Pdo d f) at_q

    pub mod_q : q % k ≡ q
    mod_q = small_mod k q low_q

    pub out_q : is_in q done ≡ false
    out_q = not_in q done (below_last done e rest (subst Ascends split fu.ok.ok.founded.ascends))

    abbrev pub tail : List ℕ
    tail = (first_site b fu q d f at_q).0

    pub sites_q : sites g q ≡ q ∷ tail
    sites_q = (first_site b fu q d f at_q).1

    pub calls_here : calls b (end done e) (r d) ≡ calls b done (r d) ++ sites g q
    calls_here = calls_pdo done e d f is at_q (r d) true (same_self (r d))

    calls_there : (c : Place) → same_place c (r d) ≡ false → calls b (end done e) c ≡ calls b done c
    calls_there c h = calls_pdo done e d f is at_q c false h ∙ append-nil (calls b done c)

    -- Another collection.
    pub elsewhere : (m : ℕ) (c : Place) (h : Forest) → node_at ps m ≡ Some (Pdo c h)
        → same_place c (r d) ≡ false → part_done b (end done e) m c ≡ part_done b done m c
    elsewhere m c h at apart =
        let w = from m c h at in
        same_plan done e m c (λ i.
        let same : Some (Pdo w.0 w.1) ≡ Some (Pdo d f) = sym w.2 ∙ ap (node_at es) i ∙ at_q in
        let z : w.0 ≡ d = cc in
        false≢true (sym apart ∙ ap (λ (x : Place). same_place x (r d)) (w.3 ∙ ap r z)
        ∙ same_self (r d)))
        (calls_there c apart)

    -- ---- where no Pdo before it reads the same
    pub fresh_plan : calls b done (r d) ≡ [] → (m : ℕ) (c : Place) (h : Forest)
        → node_at ps m ≡ Some (Pdo c h) → part_done b (end done e) m c ≡ part_done b done m c
    fresh_plan none m c h at = by (same_place c (r d)) (eqb (m % k) q) refl refl
      where
        new : calls b (end done e) (r d) ≡ sites g q
        new = calls_here ∙ ap (λ (l : List ℕ). l ++ sites g q) none

        by : (s t : Bool) → same_place c (r d) ≡ s → eqb (m % k) q ≡ t
            → part_done b (end done e) m c ≡ part_done b done m c
        by false t i j = elsewhere m c h at i
        by true true i j =
            let of_q : m % k ≡ q = eqb-true (m % k) q j in
            let same : c ≡ r d = same_is c (r d) i in
            ap (λ x. cond (is_in x (end done e)) (cond (is_first m (calls b (end done e) c))
            (Some (rooted (parted b) (calls b (end done e) c))) None) (own b m c)) of_q
            ∙ ap (λ x. cond x (cond (is_first m (calls b (end done e) c))
            (Some (rooted (parted b) (calls b (end done e) c))) None) (own b m c)) (in_last done e)
            ∙ ap (λ l. cond (is_first m l) (Some (rooted (parted b) l)) None)
            (ap (calls b (end done e)) same ∙ new)
            ∙ sym (ap (λ x. cond (is_in x done) (cond (is_first m (calls b done c))
            (Some (rooted (parted b) (calls b done c))) None) (own b m c)) of_q
            ∙ ap (λ x. cond x (cond (is_first m (calls b done c))
            (Some (rooted (parted b) (calls b done c))) None) (own b m c)) out_q
            ∙ ap (λ x. cond (is_first m (sites g x))
            (Some (rooted (parted b) (sites g x))) None) of_q)
        by true false i j =
            let same : c ≡ r d = same_is c (r d) i in
            let other : m % k ≡ q → ⊥ = λ z. false≢true (sym j ∙ eq-eqb (m % k) q z) in
            let apart : m ≡ q → ⊥ = λ z. other (ap (λ (x : ℕ). x % k) z ∙ mod_q) in
            ap (λ x. cond x (cond (is_first m (calls b (end done e) c))
            (Some (rooted (parted b) (calls b (end done e) c))) None) (own b m c))
            (in_other (m % k) done e other)
            ∙ ap (λ l. cond (is_in (m % k) done)
            (cond (is_first m l) (Some (rooted (parted b) l)) None)
            (own b m c)) (ap (calls b (end done e)) same ∙ new ∙ sites_q)
            ∙ ap (λ x. cond (is_in (m % k) done) (cond x (Some (rooted (parted b) (q ∷ tail))) None)
            (own b m c)) (ne_eqb m q apart)
            ∙ sym (ap (λ l. cond (is_in (m % k) done)
            (cond (is_first m l) (Some (rooted (parted b) l)) None)
            (own b m c)) (ap (calls b done) same ∙ none))
