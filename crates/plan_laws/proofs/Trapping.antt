-- Where each Pdo and each Gbk is carried out once, the traps are those of the graph: a Flatten has
-- none but those of other nodes.
use Rattle.std.proofs.Common.{◌≡◌, ℕ, ◌<◌, true, ◌||◌, List, [], ◌∷◌, ◌++◌, map, Option, Some, None, zero, suc, refl, sym, ap, ◌∙◌, subst, arith, inl, inr}
use Rattle.std.proofs.lemmas.Bool.{eqb-true, false≢true}
use Rattle.std.specs.List.{flat_map, AllByRecursion as Each}
use Rattle.exec_plan.proofs.of_flume_value.EachLemmas.{Each-both, Each-weaker}
use Rattle.exec_plan.specs.of_flume_collection.declared.trap.Trap.{Trap}
use Rattle.exec_plan.specs.of_flume_collection.Sets.{gather, put_new}
use Rattle.exec_plan.specs.of_flume_collection.Traps.{trap_le, trap_set}
use Rattle.exec_plan.specs.of_exec_graph.Forests.{Forest, Bare, Grow}
use Rattle.exec_plan.specs.of_exec_graph.Meaning.{AllDiffer, FitsForest, IsRankedBy, IsSound, IsThere, Meets, all_traps, gives, has_out, is_out, node_at, place, reads, step_traps, through, total, traps}
use Rattle.exec_plan.proofs.of_exec_graph.Bools.{or_cases}
use Rattle.exec_plan.proofs.of_exec_graph.Entries.{all_found}
use Rattle.exec_plan.proofs.of_exec_graph.Solving.{each_found, ranked_at, there_found, kept_value as kept_at}
use Rattle.exec_plan.specs.Meaning.{trap_parts}
use Rattle.plan_laws.specs.declared.operations.Operation.{Operation}
use Rattle.plan_laws.specs.Operations.{DoAll, runs, times_named, works_at}
use Rattle.plan_laws.proofs.Absorbing.{Absorbs, absorbs_all, absorbs_both, absorbs_left, absorbs_part, absorbs_right, absorbs_set, one_set}
use Rattle.plan_laws.proofs.Adding.{sum_at, traps_are}
use Rattle.plan_laws.proofs.Carrying.{holds_at}
use Rattle.plan_laws.proofs.Counting.{nodes_sum, numbers_of, times_one}
use Rattle.exec_plan.specs.of_flume_collection.Collection.{Collection}
use Rattle.exec_plan.specs.of_exec_graph.World.{World}
use Rattle.exec_plan.specs.of_exec_graph.declared.graph.Place.{Place}
use Rattle.exec_plan.specs.of_exec_graph.declared.graph.Node.{Node}
use Rattle.exec_plan.specs.of_exec_graph.declared.graph.Node.TheVariants.{Source, Flatten, Pdo, Gbk, Barrier}
use Rattle.exec_plan.specs.of_exec_graph.declared.graph.Entry.{Entry}
use Rattle.exec_plan.specs.of_exec_graph.declared.graph.Graph.{Graph}

out_absorbed : (w : World) (m : Place → Collection) (n j : ℕ) (v : Collection) (f : Forest)
    (b : List Trap) → FitsForest w m n v f → has_out j f ≡ true → Absorbs b (total w (step_traps w)
    v f) → Absorbs b (m (place n j)).traps
out_absorbed w m n j v Bare b a h k = absurd (false≢true h)
out_absorbed w m n j v (Grow l kids rest) b a h k =
    let behind = absorbs_right (step_traps w v l) (total w (step_traps w) (through w l v) kids
    ++ total w (step_traps w) v rest) b k in
    elim (or_cases (is_out l.out j) (has_out j kids || has_out j rest) h) [
      | inl i ↦ subst (λ (c : Collection). Absorbs b c.traps)
          (sym (kept_at m n j l.out (through w l v) i a.0)) (absorbs_left (step_traps w v l)
          (total w (step_traps w) (through w l v) kids ++ total w (step_traps w) v rest) b k)
      | inr i ↦ elim (or_cases (has_out j kids) (has_out j rest) i) [
        | inl e ↦ out_absorbed w m n j (through w l v) kids b a.1 e
            (absorbs_left (total w (step_traps w) (through w l v) kids)
            (total w (step_traps w) v rest)
            b behind)
        | inr e ↦ out_absorbed w m n j v rest b a.2 e
            (absorbs_right (total w (step_traps w) (through w l v) kids)
            (total w (step_traps w) v rest)
            b behind)
      ]
    ]

flat_absorbed : (m : Place → Collection) (b : List Trap) (cs : List Place)
    → Each (λ c. Absorbs b (m c).traps) cs → Absorbs b (flat_map (λ c. c.traps) (map m cs))
flat_absorbed m b [] a = refl
flat_absorbed m b (c ∷ cs) a = absorbs_both (m c).traps (flat_map (λ c. c.traps) (map m cs)) b a.0
    (flat_absorbed m b cs a.1)

-- b has the traps of each Pdo and Gbk
abbrev HasWork : World → (Place → Collection) → List Entry → List Trap → Type 0
HasWork w m es b = (n : ℕ) → works_at (node_at es n) ≡ true → Absorbs b (sum_at w (trap_parts w) m
    (node_at es n))

found_absorbed : (w : World) (m : Place → Collection) (es : List Entry) (b : List Trap) (n j : ℕ)
    (x : Node) → Meets w es m → HasWork w m es b → node_at es n ≡ Some x → gives x j ≡ true
    → Each (λ c. Absorbs b (m c).traps) (reads x) → Absorbs b (m (place n j)).traps
found_absorbed w m es b n j (Source r) a k h g i = rw (eqb-true j 0 g)
    (ap (λ (c : Collection). gather (put_new trap_le) c.traps b) (holds_at w m es n (Source r) a h))
found_absorbed w m es b n j (Flatten ins) a k h g i =
    rw (eqb-true j 0 g) (ap (λ (c : Collection). gather (put_new trap_le) c.traps b)
    (holds_at w m es n (Flatten ins) a h) ∙ absorbs_set (flat_map (λ c. c.traps) (map m ins)) b
    (flat_absorbed m b ins i))
found_absorbed w m es b n j (Pdo c f) a k h g i =
    out_absorbed w m n j (m c) f b (holds_at w m es n (Pdo c f) a h) g
    (subst (λ (o : Option Node). Absorbs b (sum_at w (trap_parts w) m o)) h (k n (ap works_at h)))
found_absorbed w m es b n j (Gbk c o l e) a k h g i =
    rw (eqb-true j 0 g) (ap (λ (c : Collection). gather (put_new trap_le) c.traps b)
    (holds_at w m es n (Gbk c o l e) a h) ∙ subst (λ (o : Option Node). Absorbs b
    (sum_at w (trap_parts w) m o)) h (k n (ap works_at h)))
found_absorbed w m es b n j (Barrier ins o l e) a k h g i =
    rw (eqb-true j 0 g) (ap (λ (c : Collection). gather (put_new trap_le) c.traps b)
    (holds_at w m es n (Barrier ins o l e) a h) ∙ subst (λ (o : Option Node). Absorbs b
    (sum_at w (trap_parts w) m o)) h (k n (ap works_at h)))

coll_absorbed : (w : World) (m : Place → Collection) (es : List Entry) (b : List Trap) (r : ℕ → ℕ)
    → Meets w es m → HasWork w m es b → Each (λ e. Each (IsThere es) (reads e.node)) es → IsRankedBy
    r es → (fuel : ℕ) (c : Place) → r c.node < fuel → IsThere es c → Absorbs b (m c).traps
coll_absorbed w m es b r a k t ra zero c p i = absurd (omega arith)
coll_absorbed w m es b r a k t ra (suc fuel) c p i =
    let x = there_found es c i in
    found_absorbed w m es b c.node c.out x.0 a k x.1 x.2
    (Each-both (λ (d : Place). r d.node < r c.node) (IsThere es) (λ d. Absorbs b (m d).traps)
    (λ d u v. coll_absorbed w m es b r a k t ra fuel d (omega arith) v) (reads x.0)
    (ranked_at r es c.node x.0 ra x.1) (all_found (λ e. Each (IsThere es) (reads e.node)) es c.node
    x.0 x.1 t))

node_absorbed : (w : World) (m : Place → Collection) (es : List Entry) (b : List Trap) (n : ℕ)
    (x : Node) → HasWork w m es b → node_at es n ≡ Some x → Each (λ c. Absorbs b (m c).traps)
    (reads x) → Absorbs b (sum_at w (trap_parts w) m (Some x))
node_absorbed w m es b n (Source r) k h i = refl
node_absorbed w m es b n (Flatten ins) k h i = absorbs_set (flat_map (λ c. c.traps) (map m ins)) b
    (flat_absorbed m b ins i)
node_absorbed w m es b n (Pdo c f) k h i = subst (λ (o : Option Node). Absorbs b
    (sum_at w (trap_parts w) m o)) h (k n (ap works_at h))
node_absorbed w m es b n (Gbk c o l e) k h i = subst (λ (o : Option Node). Absorbs b
    (sum_at w (trap_parts w) m o)) h (k n (ap works_at h))
node_absorbed w m es b n (Barrier ins o l e) k h i = subst (λ (o : Option Node). Absorbs b
    (sum_at w (trap_parts w) m o)) h (k n (ap works_at h))

any_absorbed : (w : World) (m : Place → Collection) (es : List Entry) (n : ℕ) (o : Option Node)
    → AllDiffer es → node_at es n ≡ o
    → Absorbs (trap_set (flat_map (λ n. sum_at w (trap_parts w) m (node_at es n)) (numbers_of es)))
    (sum_at w (trap_parts w) m o)
any_absorbed w m es n None d h = refl
any_absorbed w m es n (Some x) d h =
    let F : ℕ → List Trap = λ n. sum_at w (trap_parts w) m (node_at es n) in
    let one : times_named n (numbers_of es) ≡ 1 = times_one n x es d h in
    subst (λ (o : Option Node). Absorbs (trap_set (flat_map F (numbers_of es)))
    (sum_at w (trap_parts w) m o)) h (absorbs_part F n (numbers_of es) (omega arith))

all_absorbed : (w : World) (m : Place → Collection) (es : List Entry) (ns : List ℕ) → AllDiffer es
    → Each (λ n. Absorbs (trap_set (flat_map (λ n. sum_at w (trap_parts w) m (node_at es n))
    (numbers_of es))) (sum_at w (trap_parts w) m (node_at es n))) ns
all_absorbed w m es [] d = tt
all_absorbed w m es (n ∷ ns) d = (
  any_absorbed w m es n (node_at es n) d refl,
  all_absorbed w m es
      ns d,
)

all_of_map : {X Y : Type 0} (f : X → Y) (P : Y → Type 0) (xs : List X) → Each (λ x. P (f x)) xs
    → Each P (map f xs)
all_of_map f P [] a = tt
all_of_map f P (x ∷ xs) a = (a.0, all_of_map f P xs a.1)

pub traps_same : (w : World) (m : Place → Collection) (g : Graph) (os : List Operation) → IsSound g
    → Meets w g.nodes m → DoAll g os → all_traps w m g.nodes
    ≡ trap_set (flat_map (λ n. sum_at w (trap_parts w) m (node_at g.nodes n)) (flat_map runs os))
traps_same w m g os ok a d =
    let es : List Entry = g.nodes in
    let F : ℕ → List Trap = λ n. sum_at w (trap_parts w) m (node_at es n) in
    let b : List Trap = trap_set (flat_map F (flat_map runs os)) in
    let k : HasWork w m es b = λ n h. let one : times_named n (flat_map runs os) ≡ 1 = d.once n h in
    absorbs_part F n (flat_map runs os) (omega arith) in
    let each : Each (λ (e : Entry). Absorbs b (F e.number)) es =
    Each-both (λ (e : Entry). node_at es e.number ≡ Some e.node) (λ (e : Entry). Each (IsThere es)
    (reads e.node)) (λ e. Absorbs b (F e.number)) (λ e h t.
    subst (λ (o : Option Node). Absorbs b (sum_at w (trap_parts w) m o)) (sym h)
    (node_absorbed w m es b e.number e.node k h (Each-weaker (IsThere es)
    (λ c. Absorbs b (m c).traps) (λ c i. coll_absorbed w m es b ok.ranked.0 a k ok.there ok.ranked.1
    (suc (ok.ranked.0 c.node)) c (omega arith) i) (reads e.node) t))) es (each_found es ok.differ)
    ok.there in
    ap (trap_set) (nodes_sum w (trap_parts w) m es (traps w m) (traps_are w m) ok.differ)
    ∙ one_set (flat_map F (numbers_of es)) (flat_map F (flat_map runs os))
    (absorbs_all F b (numbers_of es) (all_of_map (λ e. e.number) (λ n. Absorbs b (F n)) es each))
    (absorbs_all F (trap_set (flat_map F (numbers_of es))) (flat_map runs os)
    (all_absorbed w m es (flat_map runs os) ok.differ))
