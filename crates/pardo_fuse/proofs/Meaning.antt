-- The fused graph means what the graph means.
use Rattle.std.proofs.Common.{◌≡◌, ℕ, Bool, true, false, cond, List, [], ◌∷◌, ◌++◌, map, Option, Some, None, refl, sym, ap, ◌∙◌, subst, append-nil}
use Rattle.std.proofs.lemmas.List.Concat.{flat_map-append}
use Rattle.std.proofs.lemmas.List.Folds.{flat_map-map}
use Rattle.std.specs.List.{flat_map, AllByRecursion}
use Rattle.flume_value.specs.Bag.{put}
use Rattle.exec_graph.specs.of_flume_collection.Sets.{put_new, gather}
use Rattle.exec_graph.specs.World.{World}
use Rattle.exec_graph.specs.of_flume_collection.Collection.{Collection}
use Rattle.exec_graph.specs.of_flume_collection.Traps.{trap_le}
use Rattle.exec_graph.proofs.of_flume_collection.Bagging.{Swaps}
use Rattle.exec_graph.proofs.of_flume_collection.Orders.{bags, sets, one_bag}
use Rattle.exec_graph.specs.Forests.{Label, Forest, Bare, Grow, numbered, new_out, with_out}
use Rattle.exec_graph.specs.declared.graph.Place.{Place}
use Rattle.exec_graph.specs.declared.graph.Node.{Node}
use Rattle.exec_graph.specs.declared.graph.Node.TheVariants.{Source, Flatten, Pdo, Gbk, Barrier}
use Rattle.exec_graph.specs.declared.graph.Entry.{Entry}
use Rattle.exec_graph.specs.Meaning.{through, place, FitsForest, total, step_own, step_traps, Holds, Meets, own, traps, node_at, reads, KeepsMeaning}
use Rattle.graph_laws.specs.Joining.{reread}
use Rattle.graph_laws.specs.Kids.{number_after, kept_by}
use Rattle.exec_graph.proofs.Entries.{all_found, all_map}
use Rattle.flume_value.proofs.EachLemmas.{Each-weaker, Each-both}
use Rattle.graph_laws.proofs.Joining.{map_reread, holds_reread, own-reread, traps-reread}
use Rattle.graph_laws.proofs.Numbering.{number_back, fits_numbered, total-numbered}
use Rattle.exec_graph.proofs.Solving.{each_found}
use Rattle.pardo_fuse.specs.Readers.{Cut, is_pdo, readers, those}
use Rattle.pardo_fuse.specs.Fusing.{finished_entry, leads, with_numbers}
use Rattle.pardo_fuse.specs.SingleFusing.{CanFuse, first_label, forest_reading, fused_by, HasOneStep, IsSingle, joined_nodes, keeps_output, kept_label, entries_left, label_named, step_of}
use Rattle.pardo_fuse.proofs.Counting.{gather_same, times_those}
use Rattle.pardo_fuse.proofs.Partition.{numbers}
use Rattle.pardo_fuse.proofs.Once.{Found, AllGrown, all_of, left_numbers, all_left, each_once, any}
use Rattle.pardo_fuse.proofs.Levels.{all_grown}
use Rattle.pardo_fuse.proofs.Reading.{all_readers, given_readers, total_grown, fits_grown}
use Rattle.pardo_fuse.proofs.Naming.{outs_differ, all_joined, all_cond, differ_joined}
use Rattle.pardo_fuse.proofs.Finding.{former, former_at, former_other, found_again, IsSeen}
use Rattle.pardo_fuse.proofs.Seeing.{seen_left, seen_outputs, head_few, leads_seen}
use Rattle.pardo_fuse.proofs.Settling.{now}

abbrev values : Cut → (Place → Collection) → Place → Collection
values b m c = m (former (joined_nodes b) c)

seen_same : (b : Cut) (m : Place → Collection) → (can : CanFuse b) → AllGrown b
    → (cs : List Place) → AllByRecursion (IsSeen b) cs
    → AllByRecursion (λ c. values b m (now b c) ≡ m c) cs
seen_same b m can g cs a = Each-weaker (IsSeen b) (λ c. values b m (now b c)
    ≡ m c) (λ c s. ap m (found_again b c can g s)) cs a

-- ---- each node holds
at_other : (b : Cut) (m : Place → Collection) (n : ℕ) → CanFuse b
    → is_pdo (node_at b.graph.nodes n) ≡ false → (j : ℕ) → values b m (place n j) ≡ m (place n j)
at_other b m n can h j = ap m (former_other b (place n j) can h)

abbrev HoldsNow : World → Cut → (Place → Collection) → Entry → Type 0
HoldsNow w b m h = Holds w (values b m) h.number (reread (now b) (with_numbers h.node))

pdo_holds : (w : World) (b : Cut) (m : Place → Collection) → (can : CanFuse b) → AllGrown b
    → Meets w b.graph.nodes m → (n : ℕ) (c : Place) (x : Forest) → node_at b.graph.nodes n
    ≡ Some (Pdo c x) → leads b n c ≡ true → IsSeen b c → node_at (joined_nodes b) n
    ≡ Some (Pdo c (forest_reading b c))
    → FitsForest w (values b m) n (values b m (now b c)) (numbered 0
    (forest_reading b c))
pdo_holds w b m can g meets n c x old_at lead s at =
    let es : List Entry = b.graph.nodes in
    let fo : Found b es = each_found es can.ok.differ in
    let old : Place → Collection = λ d. m (place d.out 0) in
    let f : Forest = forest_reading b c in
    let fits : FitsForest w old n (m c) f = fits_grown w m b can fo meets n (m c) (readers es c)
    (all_of b c) (g c) (given_readers b m c (readers es c) (all_readers b c es fo)) in
    subst (λ (v : Collection). FitsForest w (values b m) n v (numbered 0 f)) (sym (ap m
    (found_again b c can g s)))
    (fits_numbered w old (values b m) n 0 (m c) f (outs_differ (keeps_output b) (all_of b c)
    (head_few b n c x can g old_at lead)) (λ j h. ap (λ (o : Option Node). m (former_at o
    (place n (number_after 0 f j)))) at ∙ ap (λ (i : ℕ). m (place i 0)) (number_back 0 f j
    h).back) fits)

left_holds : (w : World) (b : Cut) (m : Place → Collection) → (can : CanFuse b) → AllGrown b
    → Meets w b.graph.nodes m → (n : ℕ) (x : Node) → node_at b.graph.nodes n ≡ Some x
    → AllByRecursion (λ h. node_at (joined_nodes b) h.number ≡ Some h.node
    → HoldsNow w b m h) (entries_left b n x)
left_holds w b m can g meets n (Source r) at = (
  λ _. holds_reread w (values b m) m (now b) n (Source r) tt (at_other b m n can (ap is_pdo at))
      (all_found (λ e. Holds w m e.number e.node) b.graph.nodes n (Source r) at meets),
  tt,
)
left_holds w b m can g meets n (Flatten ins) at = (
  λ _. holds_reread w (values b m) m (now b) n (Flatten ins) (seen_same b m can g ins (seen_left
      b can n (Flatten ins) at refl)) (at_other b m n can (ap is_pdo at)) (all_found (λ e. Holds
      w m e.number e.node) b.graph.nodes n (Flatten ins) at meets),
  tt,
)
left_holds w b m can g meets n (Pdo c f) at =
    all_cond (λ h. node_at (joined_nodes b) h.number ≡ Some h.node
    → HoldsNow w b m h) (leads b n c) (record { number = n; node = Pdo c (forest_reading b c) })
    (λ i found. pdo_holds w b m can g meets n c f at i (leads_seen b can n c f at i) found)
left_holds w b m can g meets n (Gbk c o l k) at = (
  λ _. holds_reread w (values b m) m (now b) n (Gbk c o l k) (seen_same b m can g (c ∷ [])
      (seen_left b can n (Gbk c o l k) at refl)) (at_other b m n can (ap is_pdo at)) (all_found
      (λ e. Holds w m e.number e.node) b.graph.nodes n (Gbk c o l k) at meets),
  tt,
)
left_holds w b m can g meets n (Barrier ins o l a) at = (
  λ _. holds_reread w (values b m) m (now b) n (Barrier ins o l a)
      (seen_same b m can g ins (seen_left
      b can n (Barrier ins o l a) at refl)) (at_other b m n can (ap is_pdo at))
      (all_found (λ e. Holds
      w m e.number e.node) b.graph.nodes n (Barrier ins o l a) at meets),
  tt,
)

meets_now : (w : World) (b : Cut) (m : Place → Collection) → (can : CanFuse b) → AllGrown b
    → Meets w b.graph.nodes m → Meets w (map (finished_entry (now b)) (joined_nodes b)) (values b m)
meets_now w b m can g meets =
    let fo : Found b b.graph.nodes = each_found b.graph.nodes can.ok.differ in
    let hs : List Entry = joined_nodes b in
    all_map (finished_entry (now b)) (HoldsNow w b m) (λ e. Holds w (values b m) e.number e.node)
    (λ e a.
    a) hs
    (Each-both (λ e. node_at hs e.number ≡ Some e.node) (λ e. node_at hs e.number ≡ Some e.node
    → HoldsNow w b m e) (HoldsNow w b m) (λ e a f. f a) hs (each_found hs (differ_joined b
    b.graph.nodes can.ok.differ))
    (all_joined b (λ h. node_at hs h.number ≡ Some h.node
    → HoldsNow w b m h) (left_holds w b m can g meets) b.graph.nodes fo))

-- ---- what the nodes add up to
total-kept : {Y : Type 0} (w : World) (p : Collection → Label → List Y)
    → ((v : Collection) (keep : ℕ → Bool) (l : Label) → p v (kept_label keep l) ≡ p v l)
    → (keep : ℕ → Bool) (v : Collection) (f : Forest) → total w p v (kept_by keep f) ≡ total w p v f
total-kept w p h keep v Bare = refl
total-kept w p h keep v (Grow l kids rest) =
    let a = total-kept w p h keep (through w l v) kids in
    let b = total-kept w p h keep v rest in
    let c = h v keep l in
    cc

single_total : {Y : Type 0} (w : World) (p : Collection → Label
    → List Y) (v : Collection) (n : ℕ) (f : Forest) → IsSingle f → ((l : Label)
    → p v (label_named n l)
    ≡ p v l) → total w p v f ≡ p v (label_named n (first_label f))
single_total w p v n Bare s h = absurd s
single_total w p v n (Grow l Bare Bare) s h = append-nil (p v l) ∙ sym (h l)
single_total w p v n (Grow l Bare (Grow m kids rest)) s h = absurd s
single_total w p v n (Grow l (Grow m kids rest) others) s h = absurd s

-- A sum over nodes in which a Pdo counts by its steps.
pub record IsSum {Y : Type 0} (w : World) (part : (Place → Collection) → Node
    → List Y) (p : Collection → Label → List Y) : Type 0 where
  pub steps : (m : Place → Collection) (c : Place) (f : Forest) → part m (Pdo c f)
      ≡ total w p (m c) f
  pub moved : (k m : Place → Collection) (r : Place → Place) (x : Node)
      → AllByRecursion (λ c. k (r c) ≡ m c) (reads x) → part k (reread r x) ≡ part m x
  pub named : (v : Collection) (n : ℕ) (l : Label) → p v (label_named n l) ≡ p v l
  pub kept : (v : Collection) (keep : ℕ → Bool) (l : Label) → p v (kept_label keep l) ≡ p v l
  pub numbered : (v : Collection) (o : Option ℕ) (l : Label) → (p v (with_out o l) ≡ p v l)

abbrev part_at : {Y : Type 0} → (Node → List Y) → Option Node → List Y
part_at f None = []
part_at f (Some x) = f x

left_part : {Y : Type 0} (w : World) (part : (Place → Collection) → Node
    → List Y) (p : Collection → Label → List Y) → IsSum w part p → (b : Cut) (m : Place
    → Collection) → (can : CanFuse b) → AllGrown b → Meets w b.graph.nodes m → (n : ℕ) (x : Node)
    → node_at b.graph.nodes n ≡ Some x → flat_map (λ (h : Entry). part (values b m) (reread (now b)
    (with_numbers h.node))) (entries_left b n x) ≡ flat_map (λ q. part_at (part m) (node_at
    b.graph.nodes q)) (left_numbers b n x)
left_part w part p is b m can g meets n (Source r) at =
    ap (λ l. l ++ []) (is.moved (values b m) m (now b) (Source r) tt
    ∙ ap (part_at (part m)) (sym at))
left_part w part p is b m can g meets n (Flatten ins) at =
    ap (λ l. l ++ []) (is.moved (values b m) m (now b) (Flatten ins) (seen_same b m can g ins
    (seen_left b can n (Flatten ins) at refl)) ∙ ap (part_at (part m)) (sym at))
left_part {Y = Y} w part p is b m can g meets n (Pdo c f) at = by (leads b n c) refl
  where
    by : (r : Bool) → leads b n c ≡ r → flat_map (λ (h : Entry). part (values b m) (reread (now b)
        (with_numbers h.node))) (cond r ((record {
          number = n;
          node =
              Pdo c (forest_reading b c);
        }) ∷ []) []) ≡ flat_map (λ q. part_at (part m) (node_at b.graph.nodes
        q)) (cond r (numbers (all_of b c)) [])
    by true lead =
        let es : List Entry = b.graph.nodes in
        let fo : Found b es = each_found es can.ok.differ in
        let s : IsSeen b c = leads_seen b can n c f at lead in
        append-nil (part (values b m) (Pdo (now b c) (numbered 0 (forest_reading b c))))
        ∙ is.steps (values b m) (now b c) (numbered 0 (forest_reading b c))
        ∙ ap (λ (v : Collection). total w p v (numbered 0 (forest_reading b c)))
        (ap m (found_again b c
        can g s))
        ∙ total-numbered w p (λ v i l. is.numbered v (new_out i l.out) l) 0 (m c)
        (forest_reading b c)
        ∙ total-kept w p is.kept (keeps_output b) (m c) (all_of b c)
        ∙ total_grown w p (λ q. part_at (part m) (node_at es q)) m b can fo meets
        (λ q d h i. ap (part_at (part m)) i ∙ is.steps m d h
        ∙ single_total w p (m d) q h (all_found (λ e. HasOneStep e.node) es q (Pdo d h) i
        can.single) (is.named (m d) q) ∙ ap (λ (o : Option Node). p (m d) (label_named q (step_of
        o))) (sym i))
        (m c) (readers es c) (all_of b c) (g c) (given_readers b m c (readers es c) (all_readers b
        c es fo))
    by false lead = refl
left_part w part p is b m can g meets n (Gbk c o l k) at =
    ap (λ l. l ++ []) (is.moved (values b m) m (now b) (Gbk c o l k) (seen_same b m can g (c ∷ [])
    (seen_left b can n (Gbk c o l k) at refl)) ∙ ap (part_at (part m)) (sym at))
left_part w part p is b m can g meets n (Barrier ins x y d) at =
    ap (λ l. l ++ []) (is.moved (values b m) m (now b) (Barrier ins x y d) (seen_same b m can g ins
    (seen_left b can n (Barrier ins x y d) at refl)) ∙ ap (part_at (part m)) (sym at))

flat_joined : {Y : Type 0} (b : Cut) (F : Entry → List Y) (G : ℕ → List Y) → ((n : ℕ) (x : Node)
    → node_at b.graph.nodes n ≡ Some x → flat_map F (entries_left b n x)
    ≡ flat_map G (left_numbers b n x)) → (es : List Entry) → Found b es
    → flat_map F (flat_map (λ e. entries_left b e.number e.node) es) ≡ flat_map G (all_left b es)
flat_joined b F G h [] fo = refl
flat_joined b F G h (e ∷ es) fo =
    flat_map-append F (entries_left b e.number e.node) (flat_map
    (λ e. entries_left b e.number e.node) es)
    ∙ ap (λ l. l ++ flat_map F (flat_map (λ e. entries_left b e.number e.node) es))
    (h e.number e.node
    fo.0)
    ∙ ap (λ l. flat_map G (left_numbers b e.number e.node) ++ l) (flat_joined b F G h es fo.1)
    ∙ sym (flat_map-append G (left_numbers b e.number e.node) (all_left b es))

flat_those : {Y : Type 0} (b : Cut) (F : Node → List Y) (es : List Entry) → Found b es
    → flat_map (λ q. part_at F (node_at b.graph.nodes q)) (those any es)
    ≡ flat_map (λ e. F e.node) es
flat_those b F [] fo = refl
flat_those b F (e ∷ es) fo = let i = flat_those b F es fo.1 in let a =
    fo.0 in ap (λ (o : Option Node). part_at F o ++ flat_map (λ q. part_at F (node_at b.graph.nodes
    q)) (those any es)) a ∙ ap (λ l. F e.node ++ l) i

sum_now : {Y B : Type 0} (s : Y → B → B) → Swaps s → (w : World) (part : (Place → Collection)
    → Node → List Y) (p : Collection → Label → List Y) → IsSum w part p → (b : Cut) (m : Place
    → Collection) → (can : CanFuse b) → AllGrown b → Meets w b.graph.nodes m → (z : B)
    → gather s (flat_map (λ e. part m e.node) b.graph.nodes) z
    ≡ gather s (flat_map (λ e. part (values b m) e.node)
    (map (finished_entry (now b)) (joined_nodes b)))
    z
sum_now {Y = Y} s sw w part p is b m can g meets z =
    let es : List Entry = b.graph.nodes in
    let fo : Found b es = each_found es can.ok.differ in
    let G : ℕ → List Y = λ q. part_at (part m) (node_at es q) in
    sym (ap (λ l. gather s l z) (flat_those b (part m) es fo))
    ∙ sym (gather_same s sw G (all_left b es) (those any es) z (λ q. each_once b can g q
    ∙ sym (times_those any es q can.ok.differ)))
    ∙ sym (ap (λ l. gather s l z) (flat_map-map (λ (e : Entry). part (values b m) e.node)
    (finished_entry
    (now b)) (joined_nodes b) ∙ flat_joined b (λ h. part (values b m) (reread (now b)
    (with_numbers h.node))) G (left_part w part p is b m can g meets) es fo))

pub own_sum : (w : World) (i : ℕ) → IsSum w (λ m x. own w m i x) (step_own w i)
own_sum w i = record {
  steps = λ m c f. refl;
  moved =
      λ k m r x a. own-reread w k m r i x a;
  named = λ v n l. refl;
  kept =
      λ v keep l. refl;
  numbered = λ v o l. refl;
}

pub traps_sum : (w : World) → IsSum w (λ m x. traps w m x) (step_traps w)
traps_sum w = record {
  steps = λ m c f. refl;
  moved =
      λ k m r x a. traps-reread w k m r x a;
  named = λ v n l. refl;
  kept =
      λ v keep l. refl;
  numbered = λ v o l. refl;
}

pub KeepsMeaning-fused : (b : Cut) → CanFuse b → KeepsMeaning b.graph (fused_by b).graph
unfolding fused_by
KeepsMeaning-fused b can w m meets =
    let g : AllGrown b = all_grown b can in (
      values b m,
      meets_now w b m can g meets,
      record {
        outputs = sym (map_reread (values b m) m (now b) b.graph.outputs (seen_same b m can g
            b.graph.outputs (seen_outputs b can)));
        own = λ i. one_bag (flat_map (λ (e : Entry). own w m i e.node) b.graph.nodes) (flat_map (λ
            (e : Entry). own w (values b m) i e.node) (fused_by b).graph.nodes) (sum_now put bags w
            (λ m x. own w m i x) (step_own w i) (own_sum w i) b m can g meets []);
        traps = sum_now (put_new trap_le) sets w (λ m x. traps w m x) (step_traps w) (traps_sum w)
            b m can g meets [];
      },
    )
