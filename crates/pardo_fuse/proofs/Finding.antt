-- Where each collection that is still read is found in the fused graph, and back.
use Rattle.std.proofs.Common.{◌≡◌, ℕ, ◌<◌, Bool, true, false, cond, eqb, ◌||◌, List, [], ◌∷◌, ◌++◌, Option, Some, refl, sym, ap, ◌∙◌, arith, zero, suc}
use Rattle.std.proofs.lemmas.Bool.{eqb-true, false≢true}
use Rattle.std.specs.List.{flat_map, AllByRecursion}
use Rattle.exec_graph.specs.Forests.{Forest}
use Rattle.exec_graph.specs.declared.graph.Place.{Place}
use Rattle.exec_graph.specs.declared.graph.Node.{Node}
use Rattle.exec_graph.specs.declared.graph.Node.TheVariants.{Pdo}
use Rattle.exec_graph.specs.declared.graph.Entry.{Entry}
use Rattle.exec_graph.specs.Meaning.{place, node_at, has_out, AllDiffer, IsThere}
use Rattle.graph_laws.proofs.Numbering.{old_in, number_back}
use Rattle.exec_graph.proofs.Entries.{all_found}
use Rattle.exec_graph.proofs.Solving.{each_found}
use Rattle.pardo_fuse.specs.Readers.{Cut, any_node, is_pdo, is_kept, readers}
use Rattle.pardo_fuse.specs.Fusing.{holds_out, leads, out_number}
use Rattle.pardo_fuse.specs.SingleFusing.{CanFuse, forest_reading, joined_nodes, keeps_output, entries_left, new_place}
use Rattle.pardo_fuse.proofs.Counting.{one_if, hit, times, sum_append}
use Rattle.pardo_fuse.proofs.Places.{pdo_is, place_is}
use Rattle.pardo_fuse.proofs.Partition.{numbers}
use Rattle.pardo_fuse.proofs.Once.{Found, AllGrown, all_of, left_numbers, all_left, each_once, some_pdo, there_zero}
use Rattle.pardo_fuse.proofs.Reading.{all_readers}
use Rattle.pardo_fuse.proofs.Naming.{times_has, outs_pdos, pdos, has_pruned, all_joined, all_cond, differ_joined}
use Rattle.exec_graph.proofs.Bools.{or_right as right}

-- ---- back to the former collection
abbrev pub former_at : Option Node → Place → Place
former_at (Some (Pdo d f)) c = place (old_in 0 f c.out) 0
former_at _ c = c

abbrev pub former : List Entry → Place → Place
former hs c = former_at (node_at hs c.node) c

pub record IsNew (P : Entry → Type 0) (hs : List Entry) (c : Place) : Type 0 where
  pub here : Entry
  pub holds : P here
  pub keeps : holds_out c.node here.node ≡ true
  pub is : new_place hs c ≡ place here.number (out_number c.node here.node)

pub search_place : (P : Entry → Type 0) (c : Place) (hs : List Entry) → AllByRecursion P hs
    → any_node (holds_out c.node) hs ≡ true → IsNew P hs c
search_place P c [] a h = absurd (false≢true h)
search_place P c (e ∷ es) a h = by (search_place P c es a.1) (holds_out c.node e.node) refl h
  where
    by : (any_node (holds_out c.node) es ≡ true → IsNew P es c) → (r : Bool)
        → holds_out c.node e.node ≡ r → (r || any_node (holds_out c.node) es) ≡ true
        → IsNew P (e ∷ es) c
    by f true q h = record {
      here = e;
      holds = a.0;
      keeps = q;
      is =
          ap (λ (r : Bool). cond r (place e.number (out_number c.node e.node)) (new_place es c)) q;
    }
    by f false q h = let i = f h in record {
      here = i.here;
      holds = i.holds;
      keeps = i.keeps;
      is =
          ap (λ (r : Bool). cond r (place e.number (out_number c.node e.node)) (new_place es c)) q
          ∙ i.is;
    }

pub not_new : (c : Place) (hs : List Entry) → any_node (holds_out c.node) hs ≡ false
    → new_place hs c ≡ c
not_new c [] h = refl
not_new c (e ∷ es) h = by (not_new c es) (holds_out c.node e.node) refl h
  where
    by : (any_node (holds_out c.node) es ≡ false → new_place es c ≡ c) → (r : Bool)
        → holds_out c.node e.node ≡ r → (r || any_node (holds_out c.node) es) ≡ false
        → new_place (e ∷ es) c ≡ c
    by f true q h = absurd (false≢true (sym h))
    by f false q h = ap (λ (r : Bool). cond r (place e.number (out_number c.node e.node))
        (new_place es c)) q ∙ f h

former_of : (c : Place) (n : ℕ) (x : Node) → holds_out c.node x ≡ true
    → former_at (Some x) (place n (out_number c.node x)) ≡ place c.node 0
former_of c n (Pdo d f) h = ap (λ (j : ℕ). place j 0) (number_back 0 f c.node h).back
former_of c n _ h = absurd (false≢true h)

pub former_back : (c : Place) (hs : List Entry) → AllDiffer hs → any_node (holds_out c.node) hs
    ≡ true → former hs (new_place hs c) ≡ place c.node 0
former_back c hs d h =
    let s : IsNew (λ e. node_at hs e.number ≡ Some e.node) hs c =
    search_place (λ e. node_at hs e.number ≡ Some e.node) c hs (each_found hs d) h in
    ap (former hs) s.is
    ∙ ap (λ (o : Option Node). former_at o (place s.here.number (out_number c.node s.here.node)))
    s.holds
    ∙ former_of c s.here.number s.here.node s.keeps

-- ---- what is left has the outputs
pub any_append : (t : Node → Bool) (xs ys : List Entry) → any_node t (xs ++ ys)
    ≡ (any_node t xs || any_node t ys)
any_append t [] ys = refl
any_append t (x ∷ xs) ys = ap (λ (r : Bool). t x.node || r) (any_append t xs ys)
    ∙ or_assoc (t x.node) (any_node t xs) (any_node t ys)
  where
    or_assoc : (a b c : Bool) → (a || (b || c)) ≡ ((a || b) || c)
    or_assoc true b c = refl
    or_assoc false b c = refl

not_alone : (b : Cut) (p n : ℕ) (x : Node) → is_pdo (node_at b.graph.nodes p) ≡ true
    → node_at b.graph.nodes n ≡ Some x → is_pdo (Some x) ≡ false → 0 < times p (n ∷ []) → ⊥
not_alone b p n x h at not t = by (eqb n p) refl
  where
    by : (r : Bool) → eqb n p ≡ r → ⊥
    by true e = false≢true (sym not ∙ ap is_pdo (sym at)
        ∙ ap (λ (k : ℕ). is_pdo (node_at b.graph.nodes k)) (eqb-true n p e) ∙ h)
    by false e = let a : hit p n ≡ 0 = ap one_if e in omega arith

left_has : (b : Cut) (p : ℕ) → AllGrown b → is_pdo (node_at b.graph.nodes p) ≡ true
    → keeps_output b p ≡ true → (n : ℕ) (x : Node) → node_at b.graph.nodes n ≡ Some x
    → 0 < times p (left_numbers b n x) → any_node (holds_out p) (entries_left b n x) ≡ true
left_has b p g h k n (Pdo c f) at t = by (leads b n c) t
  where
    by : (r : Bool) → 0 < times p (cond r (numbers (all_of b c)) [])
        → any_node (holds_out p) (cond r ((record {
          number = n;
          node =
              Pdo c (forest_reading b c);
        }) ∷ []) []) ≡ true
    by true t = rw (times_has b p k (readers b.graph.nodes c) (all_of b c) (g c) t) refl
    by false t = absurd (omega arith)
left_has b p g h k n x at t = absurd (not_alone b p n x h at refl t)

any_left : (b : Cut) (p : ℕ) → AllGrown b → is_pdo (node_at b.graph.nodes p) ≡ true
    → keeps_output b p ≡ true → (es : List Entry) → Found b es → 0 < times p (all_left b es)
    → any_node (holds_out p) (flat_map (λ e. entries_left b e.number e.node) es) ≡ true
any_left b p g h k [] fo t = absurd (omega arith)
any_left b p g h k (e ∷ es) fo t =
    any_append (holds_out p) (entries_left b e.number e.node)
    (flat_map (λ e. entries_left b e.number e.node)
    es)
    ∙ by (any_left b p g h k es fo.1) (times p (left_numbers b e.number e.node)) refl
  where
    by : (0 < times p (all_left b es) → any_node (holds_out p)
        (flat_map (λ e. entries_left b e.number
        e.node) es) ≡ true) → (n : ℕ) → n ≡ times p (left_numbers b e.number e.node)
        → (any_node (holds_out p) (entries_left b e.number e.node) || any_node (holds_out p)
        (flat_map
        (λ e. entries_left b e.number e.node) es)) ≡ true
    by f zero i = let x = sum_append (hit p) (left_numbers b e.number e.node) (all_left b es) in
        right (any_node (holds_out p) (entries_left b e.number e.node)) (any_node (holds_out p)
        (flat_map (λ e. entries_left b e.number e.node) es)) (f (omega arith))
    by f (suc n) i = rw (left_has b p g h k e.number e.node fo.0 (omega arith)) refl

-- A Pdo whose output is kept keeps it in one of the joined nodes.
pub any_joined : (b : Cut) (p : ℕ) → CanFuse b → AllGrown b → is_pdo (node_at b.graph.nodes p)
    ≡ true → keeps_output b p ≡ true → any_node (holds_out p) (joined_nodes b) ≡ true
any_joined b p can g h k =
    let a = each_once b can g p in
    let s = some_pdo (node_at b.graph.nodes p) h in
    any_left b p g h k b.graph.nodes (each_found b.graph.nodes can.ok.differ) (omega arith)

lacks : (r : Bool) → (r ≡ true → ⊥) → r ≡ false
lacks true f = absurd (f refl)
lacks false f = refl

left_lacks : (b : Cut) (p : ℕ) → AllGrown b → Found b b.graph.nodes
    → is_pdo (node_at b.graph.nodes p) ≡ false → (n : ℕ) (x : Node) → node_at b.graph.nodes n
    ≡ Some x → AllByRecursion (λ h. holds_out p h.node ≡ false) (entries_left b n x)
left_lacks b p g fo not n (Pdo c f) at =
    all_cond (λ h. holds_out p h.node ≡ false) (leads b n c) (record {
      number = n;
      node =
          Pdo c (forest_reading b c);
    })
    (λ i. lacks (has_out p (forest_reading b c)) (λ q. false≢true (sym not
    ∙ outs_pdos b p fo (readers b.graph.nodes c) (all_of b c) (g c) (pdos b c (readers
    b.graph.nodes c) (all_readers b c b.graph.nodes fo)) (has_pruned (keeps_output b) (all_of b
    c) p q))))
left_lacks b p g fo not n _ at = (refl, tt)

pub any_none : (t : Node → Bool) (es : List Entry) → AllByRecursion (λ h. t h.node ≡ false) es
    → any_node t es ≡ false
any_none t [] a = refl
any_none t (e ∷ es) a = rw a.0 (any_none t es a.1)

pub no_joined : (b : Cut) (p : ℕ) → CanFuse b → AllGrown b → is_pdo (node_at b.graph.nodes p)
    ≡ false → any_node (holds_out p) (joined_nodes b) ≡ false
no_joined b p can g not =
    let fo = each_found b.graph.nodes can.ok.differ in
    any_none (holds_out p) (joined_nodes b) (all_joined b (λ h. holds_out p h.node
    ≡ false) (left_lacks b p g fo not) b.graph.nodes fo)

-- What is a Pdo now was one.
left_pdos : (b : Cut) (n : ℕ) (x : Node) → node_at b.graph.nodes n ≡ Some x
    → AllByRecursion (λ h. is_pdo (Some h.node) ≡ true → is_pdo (node_at b.graph.nodes h.number)
    ≡ true) (entries_left b n x)
left_pdos b n (Pdo c f) at = all_cond (λ h. is_pdo (Some h.node) ≡ true
    → is_pdo (node_at b.graph.nodes h.number) ≡ true) (leads b n c) (record {
      number = n;
      node =
          Pdo c (forest_reading b c);
    }) (λ i h. ap is_pdo at)
left_pdos b n _ at = (λ h. absurd (false≢true h), tt)

pub joined_pdos : (b : Cut) (n : ℕ) (d : Place) (f : Forest) → CanFuse b
    → node_at (joined_nodes b) n ≡ Some (Pdo d f) → is_pdo (node_at b.graph.nodes n) ≡ true
joined_pdos b n d f can at =
    all_found (λ h. is_pdo (Some h.node) ≡ true → is_pdo (node_at b.graph.nodes h.number)
    ≡ true) (joined_nodes b) n (Pdo d f) at
    (all_joined b (λ h. is_pdo (Some h.node) ≡ true → is_pdo (node_at b.graph.nodes h.number)
    ≡ true) (left_pdos b) b.graph.nodes (each_found b.graph.nodes can.ok.differ)) refl

former_self : (o : Option Node) (c : Place) → ((d : Place) (f : Forest) → o ≡ Some (Pdo d f) → ⊥)
    → former_at o c ≡ c
former_self (Some (Pdo d f)) c h = absurd (h d f refl)
former_self _ c h = refl

-- Another collection than a Pdo's stands where it stood.
pub former_other : (b : Cut) (c : Place) → CanFuse b → is_pdo (node_at b.graph.nodes c.node)
    ≡ false → former (joined_nodes b) c ≡ c
former_other b c can not = former_self (node_at (joined_nodes b) c.node) c (λ d f at. false≢true
    (sym not ∙ joined_pdos b c.node d f can at))

-- A collection that is still read.
pub record IsSeen (b : Cut) (c : Place) : Type 0 where
  pub there : IsThere b.graph.nodes c
  pub kept : is_pdo (node_at b.graph.nodes c.node) ≡ true → is_kept b c ≡ true

found_by : (b : Cut) (c : Place) → CanFuse b → AllGrown b → IsSeen b c → (r : Bool)
    → is_pdo (node_at b.graph.nodes c.node) ≡ r → former (joined_nodes b) (new_place (joined_nodes
    b) c) ≡ c
found_by b c can g s true h =
    let p = pdo_is (node_at b.graph.nodes c.node) h in
    let z : c.out ≡ 0 = there_zero b c p.0 p.1 can s.there p.2 in
    let e : place c.node 0 ≡ c = place_is c c.node 0 refl (sym z) in
    former_back c (joined_nodes b) (differ_joined b b.graph.nodes can.ok.differ) (any_joined b
    c.node can g h (ap (is_kept b) e ∙ s.kept h)) ∙ e
found_by b c can g s false h = ap (former (joined_nodes b)) (not_new c (joined_nodes b) (no_joined
    b c.node can g h)) ∙ former_other b c can h

pub found_again : (b : Cut) (c : Place) → CanFuse b → AllGrown b → IsSeen b c
    → former (joined_nodes b) (new_place (joined_nodes b) c) ≡ c
found_again b c can g s = found_by b c can g s (is_pdo (node_at b.graph.nodes c.node)) refl
