-- What Pdos read without names, they read under names.
use Rattle.std.proofs.Common.{◌≡◌, ℕ, ◌<◌, Bool, true, false, cond, eqb, List, [], ◌∷◌, Some, map, refl, sym, ap, ◌∙◌, subst, arith}
use Rattle.std.proofs.lemmas.Bool.{false≢true, le-ltb}
use Rattle.std.specs.HashMap.{HashMap}
use Rattle.std.specs.List.{AllByRecursion as Each}
use Rattle.exec_graph.specs.Forests.{Forest}
use Rattle.exec_graph.specs.Meaning.{node_at, place, reads}
use Rattle.exec_graph.specs.declared.graph.Entry.{Entry}
use Rattle.exec_graph.specs.declared.graph.Graph.{Graph}
use Rattle.exec_graph.specs.declared.graph.Node.{Node}
use Rattle.exec_graph.specs.declared.graph.Node.TheVariants.{Source, Flatten, Pdo, Gbk, Barrier}
use Rattle.exec_graph.specs.declared.graph.Place.{Place}
use Rattle.exec_graph.proofs.Entries.{all_found}
use Rattle.graph_laws.specs.Joining.{reread}
use Rattle.graph_joins.specs.of_graph_names.Names.{unnamed}
use Rattle.graph_rewrites.specs.declared.rewrite.Rewrite.{Rewrite}
use Rattle.graph_rewrites.specs.Rewrites.{CanBeKid, CanBeSibling, after_kid, forest_at, input_at, kid_under, kid_under_other}
use Rattle.graph_states.specs.States.{Stands}
use Rattle.graph_states.proofs.Siblings.{state_of}
use Rattle.pardo_fuse.specs.Fusing.{finished_entry, with_numbers}
use Rattle.pardo_fuse.specs.Readers.{is_pdo}
use Rattle.pardo_fuse.specs.SingleFusing.{new_place}
use Rattle.pardo_fuse.specs.Renumbering.{renumbered_graph}
use Rattle.pardo_fuse.proofs.Finding.{former}
use Rattle.pass_rewrites.proofs.of_fuse_chain.States.{IsFine, fine_back}
use Rattle.graph_tracing.specs.Traces.{GoesUnder, IsTrace}
use Rattle.graph_tracing.specs.inner.Numbers.{KeepsAll, number_in}
use Rattle.graph_tracing.specs.inner.Waiting.{IsLeaving}
use Rattle.graph_tracing.specs.declared.trace.Trace.{Trace}
use Rattle.graph_tracing.proofs.Effects.{Calls}
use Rattle.graph_tracing.proofs.Keepers.{can_pair}

-- the Pdo n under names reads what r tells to be c
abbrev CallsBy : (Place → Place) → List Entry → ℕ → Place → Type 0
CallsBy r hs n c =
    (d : Place) × (f : Forest) × (node_at hs n ≡ Some (Pdo d f)) × (r d ≡ c)

of_node : (r : Place → Place) (x : Node) (c : Place) (f : Forest)
    → Some (reread r (with_numbers x)) ≡ Some (Pdo c f)
    → (d : Place) × (i : Forest) × (Some x ≡ Some (Pdo d i)) × (r d ≡ c)
of_node r (Source s) c f h = let bad : ⊥ = cc in absurd bad
of_node r (Flatten ins) c f h = let bad : ⊥ = cc in absurd bad
of_node r (Pdo d i) c f h = let same : r d ≡ c = cc in (d, i, refl, same)
of_node r (Gbk d o l k) c f h = let bad : ⊥ = cc in absurd bad
of_node r (Barrier ins o l a) c f h = let bad : ⊥ = cc in absurd bad

calls_by : (r : Place → Place) (hs : List Entry) (n : ℕ) (c : Place) (f : Forest)
    → node_at (map (finished_entry r) hs) n ≡ Some (Pdo c f) → CallsBy r hs n c
calls_by r [] n c f h = let bad : ⊥ = cc in absurd bad
calls_by r (e ∷ hs) n c f h = by (eqb e.number n) h (calls_by r hs n c f)
  where
    by : (b : Bool)
        → cond b (Some (finished_entry r e).node) (node_at (map (finished_entry r) hs) n)
        ≡ Some (Pdo c f)
        → (node_at (map (finished_entry r) hs) n ≡ Some (Pdo c f) → CallsBy r hs n c)
        → (d : Place) × (i : Forest)
        × (cond b (Some e.node) (node_at hs n) ≡ Some (Pdo d i)) × (r d ≡ c)
    by true j more = of_node r e.node c f j
    by false j more = more j

calls_named : (h : Graph) (n : ℕ) (c : Place) → Calls (unnamed h) n c
    → (d : Place) × Calls h n d × (new_place h.nodes d ≡ c)
calls_named h n c x =
    let a = calls_by (new_place h.nodes) h.nodes n c x.0 x.1 in (a.0, (a.1, a.2), a.3)

-- what it reads is told by where it is
told_back : (h : Graph) (n : ℕ) (d : Place) → Stands h → Calls h n d
    → former h.nodes (new_place h.nodes d) ≡ d
told_back h n d s x =
    fine_back h.nodes d s.differ
    (all_found (λ (e : Entry). Each (IsFine h.nodes) (reads e.node)) h.nodes n (Pdo d x.0) x.1
    (state_of h s).fine).0

pub pair_back : (h : Graph) (p q : ℕ) → Stands h → CanBeSibling (unnamed h) p q
    → CanBeSibling h p q
pair_back h p q s can =
    let c : Place = input_at (unnamed h) p in
    let a = calls_named h p c (forest_at (unnamed h) p, can.keeper) in
    let b = calls_named h q c (forest_at (unnamed h) q, can.other) in
    let same : a.0 ≡ b.0 =
    sym (told_back h p a.0 s a.1) ∙ ap (former h.nodes) (a.2 ∙ sym b.2)
    ∙ told_back h q b.0 s b.1 in
    can_pair h p q a.0 a.1 (subst (Calls h q) (sym same) b.1) can.differ

-- what is no Pdo under names is none without them
pub no_kid : (h : Graph) (n p k : ℕ) → is_pdo (node_at h.nodes n) ≡ false
    → CanBeKid (unnamed h) p k n → ⊥
no_kid h n p k none can =
    let a = calls_named h n (place p k) (forest_at (unnamed h) n, can.other) in
    false≢true (sym none ∙ ap is_pdo a.1.1)

-- of the lesser number is the Pdo that is read
pub kid_is_under : (g : Graph) (p k q : ℕ) → p < q → after_kid g p k q ≡ kid_under g p k q
kid_is_under g p k q less =
    ap (λ (b : Bool). cond b (kid_under_other g p k q) (kid_under g p k q))
    (le-ltb q p (omega arith))

-- ---- with other traces and tables, which are the same

pub keeps_same : {S : Type 0} (x y : HashMap ℕ ℕ S) → x ≡ y → KeepsAll (number_in y)
    → KeepsAll (number_in x)
keeps_same {S = S} x y e = subst (λ (z : HashMap ℕ ℕ S). KeepsAll (number_in z)) (sym e)

pub table_same : {S : Type 0} (x y : HashMap ℕ ℕ S) → x ≡ y → number_in x ≡ number_in y
table_same {S = S} x y e = ap (λ (z : HashMap ℕ ℕ S). number_in z) e

pub goes_between : (l l' m m' : ℕ → ℕ) (old old' new new' : Trace) → l' ≡ l → old' ≡ old
    → m' ≡ m → new' ≡ new → GoesUnder l' m old' new → GoesUnder l m' old new'
goes_between l l' m m' old old' new new' a b c d h = λ g t.
    subst (λ (f : ℕ → ℕ). IsTrace 2 g new'.rewrites (renumbered_graph f new'.graph)) (sym c)
    (subst (λ (x : Trace). IsTrace 2 g x.rewrites (renumbered_graph m x.graph)) (sym d)
    (h g
    (subst (λ (f : ℕ → ℕ). IsTrace 2 g old'.rewrites (renumbered_graph f old'.graph)) (sym a)
    (subst (λ (x : Trace). IsTrace 2 g x.rewrites (renumbered_graph l x.graph)) (sym b) t))))

pub leaves_between : (l l' m m' : ℕ → ℕ) (old old' new new' : Trace) → l' ≡ l → old' ≡ old
    → m' ≡ m → new' ≡ new → (h : Graph) (f : ℕ → ℕ) (ns left : List ℕ) (all : List Rewrite)
    → (IsLeaving l' f old' h ns all → IsLeaving m f new h left all)
    → IsLeaving l f old h ns all → IsLeaving m' f new' h left all
leaves_between l l' m m' old old' new new' a b c d h f ns left all go u =
    subst (λ (t : ℕ → ℕ). IsLeaving t f new' h left all) (sym c)
    (subst (λ (x : Trace). IsLeaving m f x h left all) (sym d)
    (go
    (subst (λ (t : ℕ → ℕ). IsLeaving t f old' h ns all) (sym a)
    (subst (λ (x : Trace). IsLeaving l f x h ns all) (sym b) u))))
