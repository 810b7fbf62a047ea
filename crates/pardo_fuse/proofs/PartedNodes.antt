-- A graph whose steps have their outputs apart can be fused, and each of its nodes is well-formed.
use Rattle.std.proofs.Common.{◌≡◌, ℕ, Bool, true, false, cond, eqb, ◌||◌, ◌&&◌, List, [], ◌∷◌, ◌++◌, map, Option, Some, None, refl, sym, ap, ◌∙◌, subst, arith}
use Rattle.std.proofs.lemmas.Bool.{eqb-true, false≢true}
use Rattle.std.specs.List.{AllByRecursion}
use Rattle.flume_value.proofs.EachLemmas.{Each-weaker, Each-both}
use Rattle.graph_laws.specs.of_combine_table.declared.comb.Comb.{Comb}
use Rattle.exec_graph.specs.Forests.{Label, Forest, Bare, Grow, new_out}
use Rattle.exec_graph.specs.Meaning.{node_at, reads, place, is_out, has_out, IsThere}
use Rattle.exec_graph.specs.Readers.{among, any_node, calls_on, collects, is_read, readers, same_place, those, uses}
use Rattle.exec_graph.specs.Wellformed.{IsForestOk, IsLiftedOk, IsNodeOk, comb_at, root_comb}
use Rattle.exec_graph.specs.declared.graph.Place.{Place}
use Rattle.exec_graph.specs.declared.graph.Node.{Node}
use Rattle.exec_graph.specs.declared.graph.Node.TheVariants.{Source, Flatten, Pdo, Gbk, Barrier}
use Rattle.exec_graph.specs.declared.graph.Entry.{Entry}
use Rattle.exec_graph.specs.declared.graph.Graph.{Graph}
use Rattle.exec_graph.specs.declared.graph.Blocked.{Blocked}
use Rattle.exec_graph.proofs.Entries.{all_map}
use Rattle.exec_graph.proofs.Soundness.{IsSound-ok}
use Rattle.exec_graph.proofs.Solving.{each_found}
use Rattle.graph_laws.specs.Joining.{reread}
use Rattle.graph_laws.specs.Single.{HasSteps, IsOneStep}
use Rattle.pardo_fuse.specs.Readers.{cut_of, is_pdo, is_marked}
use Rattle.pardo_fuse.specs.Parting.{part_number, sole_output, parts, parts_of_node, part_place, parted_nodes, parted_graph, parted}
use Rattle.pardo_fuse.specs.SingleFusing.{CanFuse}
use Rattle.pardo_fuse.specs.Wellformed.{IsFusible}
use Rattle.pardo_fuse.proofs.Places.{and_left, same_is, same_self}
use Rattle.pardo_fuse.proofs.BlockedOk.{length-map, numbered_again}
use Rattle.pardo_fuse.proofs.Finding.{any_append}
use Rattle.pardo_fuse.proofs.Lifting.{Only, among_back, any_each, same_back, those-append}
use Rattle.pardo_fuse.proofs.Seeing.{or_first}
use Rattle.pardo_fuse.proofs.Settling.{among_map}
use Rattle.pardo_fuse.proofs.Parting.{EachLabel, IsRow, all_parts, first_number, label_both, labels_has, parts_each, row_of}
use Rattle.pardo_fuse.proofs.Unparting.{CanPart, HasOneStep-parted, IsSound-parted, back, back_same, is_parted, label_found, part_label, part_same, step_at_node}
use Rattle.exec_graph.proofs.Bools.{or_right as right}

-- ---- what can be fused can be taken apart

pub can_part : (b : Blocked) → IsFusible b → CanPart b.graph
can_part b fu = record {
  ok = IsSound-ok b.graph fu.ok.ok;
  below = fu.ok.ok.founded.below;
  steps = fu.unfused;
}

pub can_fuse : (b : Blocked) → IsFusible b → CanFuse (cut_of (parted b))
can_fuse b fu =
    let can : CanPart b.graph = can_part b fu in
    let a : Blocked = parted b in
    record {
      ok = IsSound-parted b.graph can;
      single = HasOneStep-parted b.graph can.ok.differ;
      marked = all_map (part_place b.graph) (IsThere b.graph.nodes) (IsThere (parted_nodes b.graph))
          (λ c t. (is_parted b.graph can c t).there) b.marks fu.ok.marked;
      pdos = λ c h. and_left (is_pdo (node_at a.graph.nodes c.node))
          (cond (is_marked a c) false true) h;
    }

-- ---- what is read

uses_part : (r : Place → Place) (c : Place) (k n : ℕ) (x : Node) → HasSteps IsOneStep x
    → uses c x ≡ true → any_node (uses (r c)) (parts_of_node k n (reread r x)) ≡ true
uses_part r c k n (Source s) a h = absurd (false≢true h)
uses_part r c k n (Flatten ins) a h =
    or_first (among (r c) (map r ins)) false (among_map r c ins h)
uses_part r c k n (Pdo d f) a h = by f (row_of f a) filled
  where
    same : c ≡ d
    same = same_is c d (and_left (same_place c d) true (pick (same_place c d) h))
      where
        pick : (t : Bool) → (t || false) ≡ true → (t && true) ≡ true
        pick true h = refl
        pick false h = absurd (false≢true h)

    filled : f ≡ Bare → ⊥
    filled e = let bad : ⊥ = let q = sym a.alone ∙ e in cc in bad

    by : (f : Forest) → IsRow 0 f → (f ≡ Bare → ⊥)
        → any_node (uses (r c)) (parts k n (r d) f) ≡ true
    by Bare w z = absurd (z refl)
    by (Grow l kids rest) w z =
        or_first (same_place (r c) (r d) || false) (any_node (uses (r c)) (parts k n (r d) rest))
        (or_first (same_place (r c) (r d)) false
        (ap (λ (x : Place). same_place (r c) (r x)) (sym same) ∙ same_self (r c)))
uses_part r c k n (Gbk d o l m) a h =
    or_first (same_place (r c) (r d)) false
    (ap (λ (x : Place). same_place (r c) (r x)) (sym (same_is c d h)) ∙ same_self (r c))
uses_part r c k n (Barrier ins o l d) a h =
    or_first (among (r c) (map r ins)) false (among_map r c ins h)

used_parts : (r : Place → Place) (c : Place) (k : ℕ) (es : List Entry)
    → AllByRecursion (λ (e : Entry). HasSteps IsOneStep e.node) es
    → any_node (uses c) es ≡ true → any_node (uses (r c)) (all_parts k r es) ≡ true
used_parts r c k [] a h = h
used_parts r c k (e ∷ es) a h =
    any_append (uses (r c)) (parts_of_node k e.number (reread r e.node)) (all_parts k r es)
    ∙ by (used_parts r c k es a.1) (uses c e.node) refl h
  where
    by : (any_node (uses c) es ≡ true → any_node (uses (r c)) (all_parts k r es) ≡ true)
        → (t : Bool) → uses c e.node ≡ t → (t || any_node (uses c) es) ≡ true
        → (any_node (uses (r c)) (parts_of_node k e.number (reread r e.node))
        || any_node (uses (r c)) (all_parts k r es)) ≡ true
    by f true q h = or_first (any_node (uses (r c)) (parts_of_node k e.number (reread r e.node)))
        (any_node (uses (r c)) (all_parts k r es)) (uses_part r c k e.number e.node a.0 q)
    by f false q h = right (any_node (uses (r c)) (parts_of_node k e.number (reread r e.node)))
        (any_node (uses (r c)) (all_parts k r es)) (f h)

pub read_part : (g : Graph) → CanPart g → (c : Place) → is_read g c ≡ true
    → is_read (parted_graph g) (part_place g c) ≡ true
read_part g can c h = by (any_node (uses c) g.nodes) refl h
  where
    by : (t : Bool) → any_node (uses c) g.nodes ≡ t → (t || among c g.outputs) ≡ true
        → is_read (parted_graph g) (part_place g c) ≡ true
    by true q h = or_first (any_node (uses (part_place g c)) (parted_nodes g))
        (among (part_place g c) (map (part_place g) g.outputs))
        (used_parts (part_place g) c g.next g.nodes can.steps q)
    by false q h = right (any_node (uses (part_place g c)) (parted_nodes g))
        (among (part_place g c) (map (part_place g) g.outputs))
        (among_map (part_place g) c g.outputs h)

-- ---- each node

sole_ok : (g : Graph) (q : ℕ) (l : Label)
    → ((j : ℕ) → l.out ≡ Some j → is_read g (place q 0) ≡ true) → IsForestOk g q (sole_output l)
sole_ok g q l h = record {
  order = numbered_again 0 (Grow l Bare Bare);
  read = λ j e. by l.out (λ i p. h i p) j e;
}
  where
    by : (o : Option ℕ) → ((i : ℕ) → o ≡ Some i → is_read g (place q 0) ≡ true) → (j : ℕ)
        → (is_out (new_out 0 o) j || (false || false)) ≡ true → is_read g (place q j) ≡ true
    by None f j e = absurd (false≢true e)
    by (Some i) f j e = subst (λ (x : ℕ). is_read g (place q x) ≡ true)
        (eqb-true 0 j (pick (eqb 0 j) e)) (f i refl)
      where
        pick : (t : Bool) → (t || (false || false)) ≡ true → t ≡ true
        pick true e = refl
        pick false e = absurd (false≢true e)

pdo_ok : (g : Graph) → CanPart g → (n : ℕ) (c : Place) (f : Forest)
    → node_at g.nodes n ≡ Some (Pdo c f) → IsForestOk g n f
    → AllByRecursion (λ (h : Entry). IsNodeOk (parted_graph g) h.number h.node)
    (parts_of_node g.next n (reread (part_place g) (Pdo c f)))
pdo_ok g can n c f at ok =
    parts_each (λ (h : Entry). IsNodeOk (parted_graph g) h.number h.node) g.next n
    (part_place g c) f
    (label_both (λ l. (j : ℕ) → l.out ≡ Some j
    → part_place g (place n j) ≡ place (part_number g.next n l.at) 0)
    (λ l. (j : ℕ) → l.out ≡ Some j → has_out j f ≡ true)
    (λ l. IsForestOk (parted_graph g) (part_number g.next n l.at) (sole_output l))
    (λ l a b. sole_ok (parted_graph g) (part_number g.next n l.at) l
    (λ j e. subst (λ (d : Place). is_read (parted_graph g) d ≡ true) (a j e)
    (read_part g can (place n j) (ok.read j (b j e)))))
    f (part_label g can n c f at) (labels_has f))

-- ---- a lifted Gbk

collects_back : (r : Place → Place) (c : Place) (x : Node) → AllByRecursion (Only r c) (reads x)
    → collects c x ≡ false → collects c (reread r x) ≡ false
collects_back r c (Source s) a h = h
collects_back r c (Flatten ins) a h = among_back r c ins a h
collects_back r c (Pdo d f) a h = h
collects_back r c (Gbk d o l k) a h = same_back r c d a.0 h
collects_back r c (Barrier ins o l d) a h = among_back r c ins a h

parts_uncollected : (c : Place) (k n : ℕ) (x : Node) → collects c x ≡ false
    → any_node (collects c) (parts_of_node k n x) ≡ false
parts_uncollected c k n (Source r) h = refl
parts_uncollected c k n (Pdo d f) h = by f
  where
    by : (f : Forest) → any_node (collects c) (parts k n d f) ≡ false
    by Bare = refl
    by (Grow l kids rest) = by rest
parts_uncollected c k n _ h = rw h refl

-- The places of nodes that are no Pdos stay what they are, and nothing else comes there.
only_part : (g : Graph) → CanPart g → (n : ℕ) (x : Node) → node_at g.nodes n ≡ Some x
    → is_pdo (Some x) ≡ false → (d : Place) → IsThere g.nodes d
    → Only (part_place g) (place n 0) d
only_part g can n x at h d t e =
    sym (is_parted g can d t).back ∙ ap (back g) e ∙ back_same g can n 0 x at h

onlys : (g : Graph) → CanPart g → (n : ℕ) (x : Node) → node_at g.nodes n ≡ Some x
    → is_pdo (Some x) ≡ false → (ds : List Place) → AllByRecursion (IsThere g.nodes) ds
    → AllByRecursion (Only (part_place g) (place n 0)) ds
onlys g can n x at h ds a = Each-weaker (IsThere g.nodes) (Only (part_place g) (place n 0))
    (λ d t. only_part g can n x at h d t) ds a

uncollected_parts : (g : Graph) → CanPart g → (n : ℕ) (x : Node) → node_at g.nodes n ≡ Some x
    → is_pdo (Some x) ≡ false → (es : List Entry)
    → AllByRecursion (λ (e : Entry). AllByRecursion (IsThere g.nodes) (reads e.node)) es
    → AllByRecursion (λ (e : Entry). collects (place n 0) e.node ≡ false) es
    → any_node (collects (place n 0)) (all_parts g.next (part_place g) es) ≡ false
uncollected_parts g can n x at h [] t a = refl
uncollected_parts g can n x at h (e ∷ es) t a =
    any_append (collects (place n 0)) (parts_of_node g.next e.number (reread (part_place g) e.node))
    (all_parts g.next (part_place g) es)
    ∙ ap (λ (b : Bool). b || any_node (collects (place n 0)) (all_parts g.next (part_place g) es))
    (parts_uncollected (place n 0) g.next e.number (reread (part_place g) e.node)
    (collects_back (part_place g) (place n 0) e.node (onlys g can n x at h (reads e.node) t.0) a.0))
    ∙ uncollected_parts g can n x at h es t.1 a.1

-- The one root of a Pdo that combines.
abbrev IsRoot : Place → ℕ → Node → Type 0
IsRoot c q x = calls_on c x ≡ true → (l : Label) × (x ≡ Pdo c (Grow l Bare Bare)) × (l.at ≡ 0)

pub apart_calls : (c d : Place) (k n : ℕ) (f : Forest) → same_place c d ≡ false
    → those (calls_on c) (parts k n d f) ≡ []
apart_calls c d k n Bare h = refl
apart_calls c d k n (Grow l kids rest) h =
    ap (λ (b : Bool). cond b (part_number k n l.at ∷ those (calls_on c) (parts k n d rest))
    (those (calls_on c) (parts k n d rest))) h ∙ apart_calls c d k n rest h

part_calls : (g : Graph) → CanPart g → (n : ℕ) (y : Node) → node_at g.nodes n ≡ Some y
    → is_pdo (Some y) ≡ false → (m : ℕ) (x : Node)
    → AllByRecursion (IsThere g.nodes) (reads x) → IsRoot (place n 0) m x
    → those (calls_on (place n 0)) (parts_of_node g.next m (reread (part_place g) x))
    ≡ cond (calls_on (place n 0) x) (m ∷ []) []
part_calls g can n y at h m (Pdo d f) t i = by (same_place (place n 0) d) refl
  where
    by : (b : Bool) → same_place (place n 0) d ≡ b
        → those (calls_on (place n 0)) (parts g.next m (part_place g d) f) ≡ cond b (m ∷ []) []
    by true e =
        let w = i e in
        let l : Label = w.0 in
        let forest : f ≡ Grow l Bare Bare = cc in
        let same : part_place g d ≡ place n 0 =
        ap (part_place g) (sym (same_is (place n 0) d e)) ∙ part_same g (place n 0) y at h in
        ap (λ (x : Forest). those (calls_on (place n 0)) (parts g.next m (part_place g d) x)) forest
        ∙ ap (λ (x : Place). cond (same_place (place n 0) x)
        (part_number g.next m l.at ∷ []) []) same
        ∙ ap (λ (b : Bool). cond b (part_number g.next m l.at ∷ []) []) (same_self (place n 0))
        ∙ ap (λ (x : ℕ). part_number g.next m x ∷ []) w.2
        ∙ ap (λ (x : ℕ). x ∷ []) (first_number g.next m)
    by false e = apart_calls (place n 0) (part_place g d) g.next m f
        (same_back (part_place g) (place n 0) d (only_part g can n y at h d t.0) e)
part_calls g can n y at h m _ t i = refl

readers_parts : (g : Graph) → CanPart g → (n : ℕ) (y : Node) → node_at g.nodes n ≡ Some y
    → is_pdo (Some y) ≡ false → (es : List Entry)
    → AllByRecursion (λ (e : Entry). AllByRecursion (IsThere g.nodes) (reads e.node)) es
    → AllByRecursion (λ (e : Entry). IsRoot (place n 0) e.number e.node) es
    → readers (all_parts g.next (part_place g) es) (place n 0) ≡ readers es (place n 0)
readers_parts g can n y at h [] t i = refl
readers_parts g can n y at h (e ∷ es) t i =
    those-append (calls_on (place n 0)) (parts_of_node g.next e.number
    (reread (part_place g) e.node))
    (all_parts g.next (part_place g) es)
    ∙ ap (λ (l : List ℕ). l ++ readers (all_parts g.next (part_place g) es) (place n 0))
    (part_calls g can n y at h e.number e.node t.0 i.0)
    ∙ by (calls_on (place n 0) e.node) (readers_parts g can n y at h es t.1 i.1)
  where
    by : (b : Bool)
        → readers (all_parts g.next (part_place g) es) (place n 0) ≡ readers es (place n 0)
        → cond b (e.number ∷ []) [] ++ readers (all_parts g.next (part_place g) es) (place n 0)
        ≡ cond b (e.number ∷ readers es (place n 0)) (readers es (place n 0))
    by true q = ap (λ (l : List ℕ). e.number ∷ l) q
    by false q = q

none_calls : (c : Place) (es : List Entry) → readers es c ≡ []
    → AllByRecursion (λ (e : Entry). calls_on c e.node ≡ false) es
none_calls c [] h = tt
none_calls c (e ∷ es) h = by (none_calls c es) (calls_on c e.node) refl h
  where
    by : (readers es c ≡ [] → AllByRecursion (λ (e : Entry). calls_on c e.node ≡ false) es)
        → (t : Bool) → calls_on c e.node ≡ t
        → cond t (e.number ∷ readers es c) (readers es c) ≡ []
        → AllByRecursion (λ (e : Entry). calls_on c e.node ≡ false) (e ∷ es)
    by f true q h = let bad : ⊥ = cc in absurd bad
    by f false q h = (q, f h)

-- Where one alone reads, whatever reads is that one.
one_calls : (c : Place) (q : ℕ) (es : List Entry) → readers es c ≡ q ∷ []
    → AllByRecursion (λ (e : Entry). calls_on c e.node ≡ true → e.number ≡ q) es
one_calls c q [] h = tt
one_calls c q (e ∷ es) h = by (one_calls c q es) (calls_on c e.node) refl h
  where
    by : (readers es c ≡ q ∷ []
        → AllByRecursion (λ (e : Entry). calls_on c e.node ≡ true → e.number ≡ q) es)
        → (t : Bool) → calls_on c e.node ≡ t
        → cond t (e.number ∷ readers es c) (readers es c) ≡ q ∷ []
        → AllByRecursion (λ (e : Entry). calls_on c e.node ≡ true → e.number ≡ q) (e ∷ es)
    by f true p h =
        let i : e.number ≡ q = cc in
        let z : readers es c ≡ [] = cc in (
          λ _. i,
          Each-weaker (λ (e : Entry). calls_on c e.node ≡ false)
              (λ (e : Entry). calls_on c e.node ≡ true → e.number ≡ q)
              (λ d n t. absurd (false≢true (sym n ∙ t))) es (none_calls c es z),
        )
    by f false p h = (λ t. absurd (false≢true (sym p ∙ t)), f h)

comb_root : (k : Comb) (f : Forest) → IsRow 0 f → root_comb f ≡ Some k
    → (l : Label) × (f ≡ Grow l Bare Bare) × (l.at ≡ 0)
comb_root k Bare r h = let bad : ⊥ = cc in absurd bad
comb_root k (Grow l kids Bare) r h = (l, ap (λ (x : Forest). Grow l x Bare) r.1, r.0)
comb_root k (Grow l kids (Grow m others rest)) r h = let bad : ⊥ = cc in absurd bad

root_by : (g : Graph) → CanPart g → (c : Place) (k : Comb) (q : ℕ)
    → comb_at (node_at g.nodes q) ≡ Some k
    → (x : Node) → node_at g.nodes q ≡ Some x → IsRoot c q x
root_by g can c k q root (Pdo d f) at h =
    let w = comb_root k f (row_of f (step_at_node g can q d f at)) (sym (ap comb_at at) ∙ root) in
    (w.0, ap (λ (x : Place). Pdo x f) (sym (same_is c d h)) ∙ ap (Pdo c) w.1, w.2)
root_by g can c k q root _ at h = absurd (false≢true h)

lifted_part : (g : Graph) → CanPart g → (n : ℕ) (c : Place) (o : ℕ) (b : Bool) (k : Comb)
    → node_at g.nodes n ≡ Some (Gbk c o b (Some k)) → IsLiftedOk g n k
    → IsLiftedOk (parted_graph g) n k
lifted_part g can n c o b k at lift =
    let y : Node = Gbk c o b (Some k) in
    let q : ℕ = lift.reader in
    let calls = one_calls (place n 0) q g.nodes lift.alone in
    let roots : AllByRecursion (λ (e : Entry). IsRoot (place n 0) e.number e.node) g.nodes =
    Each-both (λ (e : Entry). calls_on (place n 0) e.node ≡ true → e.number ≡ q)
    (λ (e : Entry). node_at g.nodes e.number ≡ Some e.node)
    (λ (e : Entry). IsRoot (place n 0) e.number e.node)
    (λ e f found t. root_by g can (place n 0) k q lift.root e.node
    (ap (node_at g.nodes) (sym (f t)) ∙ found) t) g.nodes calls
    (each_found g.nodes can.ok.differ) in
    record {
      untold = among_back (part_place g) (place n 0) g.outputs
          (onlys g can n y at refl g.outputs can.ok.told) lift.untold;
      uncollected = uncollected_parts g can n y at refl g.nodes can.ok.there
          (any_each (collects (place n 0)) g.nodes lift.uncollected);
      reader = q;
      alone = readers_parts g can n y at refl g.nodes can.ok.there roots ∙ lift.alone;
      root = by (node_at g.nodes q) refl lift.root;
    }
  where
    by : (z : Option Node) → node_at g.nodes lift.reader ≡ z → comb_at z ≡ Some k
        → comb_at (node_at (parted_nodes g) lift.reader) ≡ Some k
    by (Some (Pdo d f)) e h =
        let w = comb_root k f (row_of f (step_at_node g can lift.reader d f e)) h in
        let l : Label = w.0 in
        let found = subst (EachLabel
        (λ l. node_at (parted_nodes g) (part_number g.next lift.reader l.at)
        ≡ Some (Pdo (part_place g d) (sole_output l)))) w.1 (label_found g can lift.reader d f e) in
        ap (λ (x : ℕ). comb_at (node_at (parted_nodes g) x))
        (sym (ap (part_number g.next lift.reader) w.2 ∙ first_number g.next lift.reader))
        ∙ ap comb_at found.0 ∙ sym (ap root_comb w.1) ∙ h
    by _ e h = let bad : ⊥ = cc in absurd bad

pub node_ok : (g : Graph) → CanPart g → (n : ℕ) (x : Node) → node_at g.nodes n ≡ Some x
    → IsNodeOk g n x
    → AllByRecursion (λ (h : Entry). IsNodeOk (parted_graph g) h.number h.node)
    (parts_of_node g.next n (reread (part_place g) x))
node_ok g can n (Flatten ins) at h =
    let e = length-map (part_place g) ins in
    let x = h.0 in let y = h.1 in
    ((omega arith, omega arith), tt)
node_ok g can n (Pdo c f) at h = pdo_ok g can n c f at h
node_ok g can n (Gbk c o l (Some k)) at h = (lifted_part g can n c o l k at h, tt)
node_ok g can n _ at h = (tt, tt)
