-- A lifted Gbk stays one that may be lifted.
use Rattle.std.proofs.Common.{◌≡◌, ℕ, ◌+◌, Bool, true, false, cond, eqb, ◌||◌, List, [], ◌∷◌, ◌++◌, map, Option, Some, refl, sym, ap, ◌∙◌, subst, arith}
use Rattle.std.proofs.lemmas.Bool.{eqb-true, eq-eqb, false≢true}
use Rattle.std.specs.List.{flat_map, AllByRecursion}
use Rattle.exec_graph.specs.Forests.{Label, Forest, Bare, Grow, numbered}
use Rattle.graph_laws.specs.of_combine_table.declared.comb.Comb.{Comb}
use Rattle.exec_graph.specs.declared.graph.Place.{Place}
use Rattle.exec_graph.specs.declared.graph.Node.{Node}
use Rattle.exec_graph.specs.declared.graph.Node.TheVariants.{Source, Flatten, Pdo, Gbk, Barrier}
use Rattle.exec_graph.specs.declared.graph.Entry.{Entry}
use Rattle.exec_graph.specs.Meaning.{place, node_at, reads, gives_at}
use Rattle.graph_laws.specs.Joining.{reread}
use Rattle.flume_value.proofs.EachLemmas.{Each-weaker}
use Rattle.exec_graph.proofs.Entries.{all_found}
use Rattle.exec_graph.proofs.Solving.{each_found}
use Rattle.pardo_fuse.specs.Readers.{Cut, same_place, among, calls_on, collects, any_node, is_pdo, is_inner, readers, those}
use Rattle.graph_laws.specs.Kids.{kept_by}
use Rattle.pardo_fuse.specs.Fusing.{finished_entry, is_first, leads, with_numbers}
use Rattle.pardo_fuse.specs.SingleFusing.{CanFuse, first_label, forest_reading, Grown, joined_nodes, keeps_output, entries_left, step_at, step_of}
use Rattle.exec_graph.specs.Wellformed.{IsLiftedOk, comb_at, comb_of, root_comb}
use Rattle.pardo_fuse.proofs.Counting.{one_if, times, passes, times_those}
use Rattle.pardo_fuse.proofs.Places.{same_is, same_self}
use Rattle.pardo_fuse.proofs.Once.{Found, AllGrown, all_of}
use Rattle.pardo_fuse.proofs.Reading.{IsReader, all_readers}
use Rattle.pardo_fuse.proofs.Naming.{all_joined, all_cond}
use Rattle.pardo_fuse.proofs.Finding.{not_new, no_joined, IsSeen}
use Rattle.pardo_fuse.proofs.Seeing.{seen_left, seen_outputs, leads_seen}
use Rattle.pardo_fuse.proofs.Settling.{now, now_apart}
use Rattle.pardo_fuse.proofs.Using.{leader_at, graph_now}
use Rattle.exec_graph.proofs.Bools.{not_true}

-- ---- what does not read the Gbk's output does not read it now
-- r gives e for c alone.
abbrev pub Only : (Place → Place) → Place → Place → Type 0
Only r c d = r d ≡ c → d ≡ c

pub same_back : (r : Place → Place) (c d : Place) → Only r c d → same_place c d ≡ false
    → same_place c (r d) ≡ false
same_back r c d o h = not_true (same_place c (r d)) (λ i. false≢true (sym h
    ∙ ap (same_place c) (o (sym (same_is c (r d) i))) ∙ same_self c))

pub among_back : (r : Place → Place) (c : Place) (ds : List Place) → AllByRecursion (Only r c) ds
    → among c ds ≡ false → among c (map r ds) ≡ false
among_back r c [] a h = refl
among_back r c (d ∷ ds) a h = by (among_back r c ds a.1) (same_place c d) refl h
  where
    by : (among c ds ≡ false → among c (map r ds) ≡ false) → (t : Bool) → same_place c d ≡ t
        → (t || among c ds) ≡ false → (same_place c (r d) || among c (map r ds)) ≡ false
    by f true e i = absurd (false≢true (sym i))
    by f false e i = rw (same_back r c d a.0 e) (f i)

collects_back : (r : Place → Place) (c : Place) (x : Node) → AllByRecursion (Only r c) (reads x)
    → collects c x ≡ false → collects c (reread r (with_numbers x)) ≡ false
collects_back r c (Source s) a h = h
collects_back r c (Flatten ins) a h = among_back r c ins a h
collects_back r c (Pdo d f) a h = h
collects_back r c (Gbk d o l k) a h = same_back r c d a.0 h
collects_back r c (Barrier ins i l d) a h = among_back r c ins a h

pub any_each : (t : Node → Bool) (es : List Entry) → any_node t es ≡ false
    → AllByRecursion (λ e. t e.node ≡ false) es
any_each t [] h = tt
any_each t (e ∷ es) h = by (any_each t es) (t e.node) refl h
  where
    by : (any_node t es ≡ false → AllByRecursion (λ e. t e.node ≡ false) es) → (r : Bool)
        → t e.node ≡ r → (r || any_node t es) ≡ false → AllByRecursion (λ e. t e.node
        ≡ false) (e ∷ es)
    by f true q i = absurd (false≢true (sym i))
    by f false q i = (q, f i)

any_mapped : (r : Place → Place) (t : Node → Bool) (hs : List Entry)
    → AllByRecursion (λ h. t (reread r (with_numbers h.node)) ≡ false) hs
    → any_node t (map (finished_entry r) hs) ≡ false
any_mapped r t [] a = refl
any_mapped r t (h ∷ hs) a = rw a.0 (any_mapped r t hs a.1)

-- ---- the Gbk's output
pub record IsGbk (b : Cut) (n : ℕ) : Type 0 where
  pub seen : IsSeen b (place n 0)
  pub same : now b (place n 0) ≡ place n 0
  pub outer : is_inner b (place n 0) ≡ false

pub gbk : (b : Cut) (n : ℕ) (c : Place) (o : ℕ) (l : Bool) (k : Option Comb) → CanFuse b
    → AllGrown b → node_at b.graph.nodes n ≡ Some (Gbk c o l k) → IsGbk b n
gbk b n c o l k can g at =
    let not : is_pdo (node_at b.graph.nodes n) ≡ false = ap is_pdo at in
    record {
      seen = record {
        there = ap (λ (x : Option Node). gives_at x 0) at;
        kept =
            λ h. absurd (false≢true (sym not ∙ h));
      };
      same = not_new (place n 0) (joined_nodes b) (no_joined b n can g not);
      outer = not_true (is_inner b (place n 0)) (λ h. false≢true (sym not
          ∙ can.pdos (place n 0) h));
    }

only_seen : (b : Cut) (n : ℕ) (d : Place) → CanFuse b → AllGrown b → IsGbk b n → IsSeen b d
    → Only (now b) (place n 0) d
only_seen b n d can g k s e = now_apart b d (place n 0) can g s k.seen (e ∙ sym k.same)

all_only : (b : Cut) (n : ℕ) (ds : List Place) → CanFuse b → AllGrown b → IsGbk b n
    → AllByRecursion (IsSeen b) ds → AllByRecursion (Only (now b) (place n 0)) ds
all_only b n ds can g k a = Each-weaker (IsSeen b) (Only (now b) (place n 0)) (λ d s. only_seen b n
    d can g k s) ds a

left_collects : (b : Cut) (n : ℕ) → CanFuse b → AllGrown b → IsGbk b n
    → AllByRecursion (λ e. collects (place n 0) e.node ≡ false) b.graph.nodes
    → (m : ℕ) (x : Node) → node_at b.graph.nodes m ≡ Some x
    → AllByRecursion (λ h. collects (place n 0) (reread (now b) (with_numbers h.node))
    ≡ false) (entries_left b m x)
left_collects b n can g k a m (Source s) at = (refl, tt)
left_collects b n can g k a m (Flatten ins) at = (
  collects_back (now b) (place n 0) (Flatten ins) (all_only b n ins can g k (seen_left b can m
      (Flatten ins) at refl)) (all_found (λ e. collects (place n 0) e.node
      ≡ false) b.graph.nodes m (Flatten ins) at a),
  tt,
)
left_collects b n can g k a m (Pdo c f) at = all_cond (λ h. collects (place n 0) (reread (now b)
    (with_numbers h.node)) ≡ false) (leads b m c) (record {
      number = m;
      node =
          Pdo c (forest_reading b c);
    }) (λ i. refl)
left_collects b n can g k a m (Gbk d o l i) at = (
  collects_back (now b) (place n 0) (Gbk d o l i) (all_only b n (d ∷ []) can g k (seen_left b
      can m (Gbk d o l i) at refl)) (all_found (λ e. collects (place n 0) e.node
      ≡ false) b.graph.nodes m (Gbk d o l i) at a),
  tt,
)
left_collects b n can g k a m (Barrier ins i l d) at = (
  collects_back (now b) (place n 0) (Barrier ins i l d) (all_only b n ins can g k (seen_left b can m
      (Barrier ins i l d) at refl)) (all_found (λ e. collects (place n 0) e.node
      ≡ false) b.graph.nodes m (Barrier ins i l d) at a),
  tt,
)

-- ---- its one reader
abbrev those_now : Cut → Place → List Entry → List ℕ
those_now b c hs = those (λ x. calls_on c (reread (now b) (with_numbers x))) hs

those_map : (b : Cut) (c : Place) (hs : List Entry) → readers (map (finished_entry (now b)) hs) c
    ≡ those_now b c hs
those_map b c [] = refl
those_map b c (h ∷ hs) = ap (λ (l : List ℕ). cond (calls_on c (reread (now b) (with_numbers
    h.node))) (h.number ∷ l) l) (those_map b c hs)

pub those-append : (t : Node → Bool) (xs ys : List Entry) → those t (xs ++ ys)
    ≡ those t xs ++ those t ys
those-append t [] ys = refl
those-append t (x ∷ xs) ys = by (t x.node) (those-append t xs ys)
  where
    by : (r : Bool) → those t (xs ++ ys) ≡ those t xs ++ those t ys
        → cond r (x.number ∷ those t (xs ++ ys)) (those t (xs ++ ys))
        ≡ cond r (x.number ∷ those t xs) (those t xs) ++ those t ys
    by true i = ap (λ l. x.number ∷ l) i
    by false i = i

calls_same : (b : Cut) (n : ℕ) (d : Place) → CanFuse b → AllGrown b → IsGbk b n → IsSeen b d
    → (r : Bool) → same_place (place n 0) d ≡ r → same_place (place n 0) (now b d) ≡ r
calls_same b n d can g k s true e = ap (λ (x : Place). same_place (place n 0) (now b x)) (sym
    (same_is (place n 0) d e)) ∙ ap (same_place (place n 0)) k.same ∙ same_self (place n 0)
calls_same b n d can g k s false e = same_back (now b) (place n 0) d (only_seen b n d can g k s) e

-- A Pdo that reads the Gbk leads.
abbrev Leading : Cut → ℕ → Type 0
Leading b n = (m : ℕ) (f : Forest) → node_at b.graph.nodes m ≡ Some (Pdo (place n 0) f)
    → leads b m (place n 0) ≡ true

left_calls : (b : Cut) (n : ℕ) → CanFuse b → AllGrown b → IsGbk b n → Leading b n
    → (m : ℕ) (x : Node) → node_at b.graph.nodes m ≡ Some x
    → those_now b (place n 0) (entries_left b m x) ≡ cond (calls_on (place n 0) x) (m ∷ []) []
left_calls b n can g k lead m (Pdo d f) at = by (leads b m d) (same_place (place n 0) d) refl refl
  where
    by : (r s : Bool) → leads b m d ≡ r → same_place (place n 0) d ≡ s
        → those_now b (place n 0) (cond r ((record {
          number = m;
          node =
              Pdo d (forest_reading b d);
        }) ∷ []) []) ≡ cond s (m ∷ []) []
    by true s l e = ap (λ (t : Bool). cond t (m ∷ []) []) (calls_same b n d can g k (leads_seen b
        can m d f at l) s e)
    by false true l e =
        let p : place n 0 ≡ d = same_is (place n 0) d e in
        absurd (false≢true (sym l ∙ ap (leads b m) (sym p) ∙ lead m f (at
        ∙ ap (λ (x : Place). Some (Pdo x f)) (sym p))))
    by false false l e = refl
left_calls b n can g k lead m _ at = refl

readers_left : (b : Cut) (n : ℕ) → CanFuse b → AllGrown b → IsGbk b n → Leading b n
    → (es : List Entry) → Found b es
    → those_now b (place n 0) (flat_map (λ e. entries_left b e.number
    e.node) es) ≡ readers es (place n 0)
readers_left b n can g k lead [] fo = refl
readers_left b n can g k lead (e ∷ es) fo =
    those-append (λ x. calls_on (place n 0) (reread (now b) (with_numbers x)))
    (entries_left b e.number
    e.node) (flat_map (λ e. entries_left b e.number e.node) es)
    ∙ ap (λ l. l ++ those_now b (place n 0) (flat_map (λ e. entries_left b e.number e.node) es))
    (left_calls b n can g k lead e.number e.node fo.0)
    ∙ by (calls_on (place n 0) e.node) (readers_left b n can g k lead es fo.1)
  where
    by : (r : Bool) → those_now b (place n 0) (flat_map (λ e. entries_left b e.number e.node) es)
        ≡ readers es (place n 0) → cond r (e.number ∷ []) [] ++ those_now b (place n 0) (flat_map
        (λ e. entries_left b e.number e.node) es) ≡ cond r (e.number ∷ readers es
        (place n 0)) (readers
        es (place n 0))
    by true i = ap (λ l. e.number ∷ l) i
    by false i = i

alone_leads : (b : Cut) (n q : ℕ) → CanFuse b → IsGbk b n → readers b.graph.nodes (place n 0)
    ≡ q ∷ [] → Leading b n
alone_leads b n q can k a m f at =
    let t : times m (readers b.graph.nodes (place n 0)) ≡ 1 =
    times_those (calls_on (place n 0)) b.graph.nodes m can.ok.differ
    ∙ ap (λ (o : Option Node). one_if (passes (calls_on (place n 0)) o)) at
    ∙ ap one_if (same_self (place n 0)) in
    let u : times m (q ∷ []) ≡ 1 = ap (times m) (sym a) ∙ t in
    ap (λ (r : Bool). cond r false (is_first m (readers b.graph.nodes (place n 0)))) k.outer
    ∙ ap (is_first m) a ∙ by (eqb q m) refl u
  where
    by : (r : Bool) → eqb q m ≡ r → one_if r + 0 ≡ 1 → eqb m q ≡ true
    by true e u = eq-eqb m q (sym (eqb-true q m e))
    by false e u = absurd (omega arith)

-- The one root of its forest is the step of the reader.
root_fun : (k : Comb) (f : Forest) → root_comb f ≡ Some k → comb_of (first_label f).does ≡ Some k
root_fun k Bare h = let bad : ⊥ = cc in absurd bad
root_fun k (Grow l kids Bare) h = h
root_fun k (Grow l kids (Grow m others rest)) h = let bad : ⊥ = cc in absurd bad

root_grown : (b : Cut) (k : Comb) (q : ℕ) (f : Forest) → Grown b (q ∷ []) f
    → comb_of (step_at b q).does ≡ Some k → root_comb (numbered 0 (kept_by (keeps_output b) f))
    ≡ Some k
root_grown b k q Bare g h = absurd g
root_grown b k q (Grow l kids Bare) g h = ap (λ (s : Label). comb_of s.does) g.0 ∙ h
root_grown b k q (Grow l kids (Grow m others rest)) g h = absurd g.2

pub lifted_ok : (b : Cut) (n : ℕ) (k : Comb) → CanFuse b → AllGrown b → IsGbk b n
    → IsLiftedOk b.graph n k → IsLiftedOk (graph_now b) n k
lifted_ok b n k can g gb lift =
    let fo : Found b b.graph.nodes = each_found b.graph.nodes can.ok.differ in
    let q : ℕ = lift.reader in
    let lead : Leading b n = alone_leads b n q can gb lift.alone in
    let reads_it : IsReader b (place n 0) q = (subst (AllByRecursion (IsReader b (place n 0)))
    lift.alone (all_readers b (place n 0) b.graph.nodes fo)).0 in
    let fun : comb_of (step_at b q).does ≡ Some k = ap (λ (o : Option Node). comb_of (step_of
    o).does) reads_it.1 ∙ root_fun k reads_it.0 (sym (ap comb_at reads_it.1) ∙ lift.root) in
    let grown : Grown b (q ∷ []) (all_of b (place n 0)) =
    subst (λ (l : List ℕ). Grown b l (all_of b (place n 0))) lift.alone (g (place n 0)) in
    record {
      untold = among_back (now b) (place n 0) b.graph.outputs (all_only b n b.graph.outputs can g
          gb (seen_outputs b can)) lift.untold;
      uncollected = any_mapped (now b) (collects (place n 0)) (joined_nodes b) (all_joined b (λ h.
          collects (place n 0) (reread (now b) (with_numbers h.node))
          ≡ false) (left_collects b n can g gb (any_each (collects (place n 0)) b.graph.nodes
          lift.uncollected)) b.graph.nodes fo);
      reader = q;
      alone = those_map b (place n 0) (joined_nodes b)
          ∙ readers_left b n can g gb lead b.graph.nodes fo ∙ lift.alone;
      root = ap comb_at (leader_at b q (place n 0) reads_it.0 reads_it.1 (lead q reads_it.0
          reads_it.1)) ∙ root_grown b k q (all_of b (place n 0)) grown fun;
    }
