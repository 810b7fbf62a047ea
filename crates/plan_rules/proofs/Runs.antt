-- No node is carried out twice, and each that is is there.
use Rattle.std.proofs.Common.{◌≡◌, ℕ, ◌<◌, ◌≤◌, ◌⊎◌, Bool, true, false, cond, eqb, List, [], ◌∷◌, length, Option, Some, None, refl, sym, ap, ◌∙◌, arith, inl, inr, length-append}
use Rattle.std.proofs.lemmas.Bool.{eqb-true, false≢true}
use Rattle.std.specs.List.{AllByRecursion, flat_map}
use Rattle.flume_value.proofs.EachLemmas.{Each-append, Each-weaker}
use Rattle.graph_laws.specs.of_exec_graph.Meaning.{node_at, place}
use Rattle.graph_laws.specs.of_exec_graph.declared.graph.Place.{Place}
use Rattle.graph_laws.specs.of_exec_graph.declared.graph.Node.{Node}
use Rattle.graph_laws.specs.of_exec_graph.declared.graph.Node.TheVariants.{Source, Flatten, Pdo, Gbk, Barrier}
use Rattle.graph_laws.specs.of_exec_graph.declared.graph.Entry.{Entry}
use Rattle.graph_laws.specs.of_exec_graph.declared.graph.Graph.{Graph}
use Rattle.plan_laws.specs.declared.operations.Key.{Key}
use Rattle.plan_laws.specs.declared.operations.Key.TheVariants.{Mapper, Whole}
use Rattle.plan_laws.specs.declared.operations.Grouped.{Grouped}
use Rattle.plan_laws.specs.declared.operations.Operation.{Operation}
use Rattle.plan_laws.specs.declared.operations.Operation.TheVariants.{Flat, Class}
use Rattle.plan_laws.specs.Operations.{DoAll, IsFlat, IsGroupedOk, IsHonest, IsKeyOk, IsPdo, IsReducer, IsPdoOn, TakesInputs, group_runs, key_runs, reducer_runs, runs, times_named, works_at, IsIn}
use Rattle.plan_rules.specs.Fitting.{AreFit, IsAlone, FitsEntries, IsUsed, flat_runs}
use Rattle.plan_rules.proofs.Members.{Differ, differ_left, differ_once, differ_right, times-append}
use Rattle.plan_rules.proofs.Places.{number_has, numbers}

-- the node is there, and a Pdo or a Gbk
abbrev pub Works : List Entry → ℕ → Type 0
Works es n = works_at (node_at es n) ≡ true

pdo_works : (o : Option Node) → IsPdo o → works_at o ≡ true
pdo_works (Some (Pdo c f)) h = refl
pdo_works (Some (Barrier ins o l a)) h = refl
pdo_works _ h = absurd h

gbk_works : (es : List Entry) (keys : List Key) (o : Option Node) → TakesInputs es keys o
    → works_at o ≡ true
gbk_works es keys (Some (Gbk c o l k)) h = refl
gbk_works es keys _ h = absurd h

reads_works : (d : Place) (o : Option Node) → IsPdoOn d o → works_at o ≡ true
reads_works d (Some (Pdo c f)) h = refl
reads_works d _ h = absurd h

keys_work : (es : List Entry) (ks : List Key) → AllByRecursion (IsKeyOk es) ks
    → AllByRecursion (Works es) (flat_map key_runs ks)
keys_work es [] a = tt
keys_work es (Mapper n ∷ ks) a = (pdo_works (node_at es n) a.0, keys_work es ks a.1)
keys_work es (Whole c ∷ ks) a = keys_work es ks a.1

reducer_works : (es : List Entry) (n : ℕ) (r : Option ℕ) → IsReducer es n r
    → AllByRecursion (Works es) (reducer_runs r)
reducer_works es n None h = tt
reducer_works es n (Some r) h = (reads_works (place n 0) (node_at es r) h, tt)

pub groups_work : (es : List Entry) (keys : List Key) (gs : List Grouped)
    → AllByRecursion (IsGroupedOk es keys) gs
    → AllByRecursion (Works es) (flat_map group_runs gs)
groups_work es keys [] a = tt
groups_work es keys (g ∷ gs) a =
    Each-append (Works es) (group_runs g) (flat_map group_runs gs)
    (gbk_works es keys (node_at es g.gbk) a.0.0, reducer_works es g.gbk g.reducer a.0.1)
    (groups_work es keys gs a.1)

pub class_works : (es : List Entry) (keys : List Key) (gs : List Grouped) (cs : List Place)
    → IsHonest es (Class keys gs cs) → AllByRecursion (Works es) (runs (Class keys gs cs))
class_works es keys gs cs h =
    Each-append (Works es) (flat_map key_runs keys) (flat_map group_runs gs)
    (keys_work es keys h.0) (groups_work es keys gs h.1)

-- ---- each is there

abbrev pub Stands : List Entry → ℕ → Type 0
Stands es n = IsIn n (numbers es)

works_stands : (es : List Entry) (n : ℕ) (o : Option Node) → node_at es n ≡ o
    → works_at o ≡ true → Stands es n
works_stands es n None e h = absurd (false≢true h)
works_stands es n (Some x) e h = number_has es n x e

pub all_stand : (es : List Entry) (ns : List ℕ) → AllByRecursion (Works es) ns
    → AllByRecursion (Stands es) ns
all_stand es ns a =
    Each-weaker (Works es) (Stands es) (λ n h. works_stands es n (node_at es n) refl h) ns a

flat_stands : (es : List Entry) (n : ℕ) (o : Option Node) → node_at es n ≡ o → IsFlat o
    → Stands es n
flat_stands es n None e h = absurd h
flat_stands es n (Some x) e h = number_has es n x e

pub runs_stand : (es : List Entry) (os : List Operation) → AllByRecursion (IsHonest es) os
    → AllByRecursion (Stands es) (flat_map runs os)
runs_stand es [] a = tt
runs_stand es (Flat n ∷ os) a =
    (flat_stands es n (node_at es n) refl a.0, runs_stand es os a.1)
runs_stand es (Class keys gs cs ∷ os) a =
    Each-append (Stands es) (runs (Class keys gs cs)) (flat_map runs os)
    (all_stand es (runs (Class keys gs cs)) (class_works es keys gs cs a.0))
    (runs_stand es os a.1)

-- ---- no node twice

idle_by : (es : List Entry) (n k : ℕ) (b : Bool) → eqb k n ≡ b → works_at (node_at es n) ≡ false
    → Works es k → ◌≡◌ {A = ℕ} (cond b 1 0) 0
idle_by es n k true e i h =
    let s : works_at (node_at es n) ≡ true =
    ap (λ (j : ℕ). works_at (node_at es j)) (sym (eqb-true k n e)) ∙ h in
    absurd (false≢true (sym i ∙ s))
idle_by es n k false e i h = refl

idle : (es : List Entry) (n : ℕ) (ks : List ℕ) → works_at (node_at es n) ≡ false
    → AllByRecursion (Works es) ks → times_named n ks ≡ 0
idle es n [] i a = refl
idle es n (k ∷ ks) i a =
    let h = idle_by es n k (eqb k n) refl i a.0 in
    let j = idle es n ks i a.1 in omega arith

-- what neither is a Pdo nor a Gbk is carried out as a Flatten alone
idle_runs : (es : List Entry) (n : ℕ) (os : List Operation) → works_at (node_at es n) ≡ false
    → AllByRecursion (IsHonest es) os
    → times_named n (flat_map runs os) ≡ times_named n (flat_map flat_runs os)
idle_runs es n [] i a = refl
idle_runs es n (Flat k ∷ os) i a = let j = idle_runs es n os i a.1 in omega arith
idle_runs es n (Class keys gs cs ∷ os) i a =
    let j = idle_runs es n os i a.1 in
    let h = idle es n (runs (Class keys gs cs)) i (class_works es keys gs cs a.0) in
    let s = times-append n (runs (Class keys gs cs)) (flat_map runs os) in
    omega arith

once_by : (g : Graph) (os : List Operation) (n : ℕ) (b : Bool) → works_at (node_at g.nodes n) ≡ b
    → DoAll g os → AreFit g.nodes os → times_named n (flat_map runs os) ≤ 1
once_by g os n true e d f = let o : times_named n (flat_map runs os) ≡ 1 = d.once n e in omega arith
once_by g os n false e d f =
    let i = idle_runs g.nodes n os e d.sound in
    let o : times_named n (flat_map flat_runs os) ≤ 1 = f.flats n in omega arith

pub runs_differ : (g : Graph) (os : List Operation) → DoAll g os → AreFit g.nodes os
    → Differ (flat_map runs os)
runs_differ g os d f =
    differ_once (flat_map runs os)
    (λ n. once_by g os n (works_at (node_at g.nodes n)) refl d f)

pub each_differ : (os : List Operation) → Differ (flat_map runs os)
    → AllByRecursion (λ o. Differ (runs o)) os
each_differ [] d = tt
each_differ (o ∷ os) d = (
  differ_left (runs o) (flat_map runs os) d,
  each_differ os (differ_right (runs o) (flat_map runs os) d),
)

-- ---- each operation carries out a node

runs_groups : (keys : List Key) (g : Grouped) (gs : List Grouped) (cs : List Place)
    → 0 < length (runs (Class keys (g ∷ gs) cs))
runs_groups keys g gs cs =
    let a = length-append (flat_map key_runs keys) (flat_map group_runs (g ∷ gs)) in
    let b = length-append (group_runs g) (flat_map group_runs gs) in omega arith

used_runs : (es : List Entry) (keys : List Key) (k : Key) (gs : List Grouped) (cs : List Place)
    → IsUsed es gs k → 0 < length (runs (Class keys gs cs))
used_runs es keys k [] cs h = absurd (false≢true h)
used_runs es keys k (g ∷ gs) cs h = runs_groups keys g gs cs

alone_runs : (keys : List Key) (gs : List Grouped) (cs : List Place) → IsAlone keys
    → 0 < length (runs (Class keys gs cs))
alone_runs [] gs cs h = absurd h
alone_runs (Mapper n ∷ []) gs cs h = omega arith
alone_runs (Mapper n ∷ (k ∷ ks)) gs cs h = absurd h
alone_runs (Whole c ∷ ks) gs cs h = absurd h

class_runs : (es : List Entry) (keys : List Key) (gs : List Grouped) (cs : List Place)
    → 0 < length keys → IsAlone keys ⊎ AllByRecursion (IsUsed es gs) keys
    → 0 < length (runs (Class keys gs cs))
class_runs es keys gs cs s (inl a) = alone_runs keys gs cs a
class_runs es [] gs cs s (inr u) = absurd (omega arith)
class_runs es (k ∷ ks) gs cs s (inr u) = used_runs es (k ∷ ks) k gs cs u.0

operation_runs : (es : List Entry) (o : Operation) → FitsEntries es o → 0 < length (runs o)
operation_runs es (Flat n) f = omega arith
operation_runs es (Class keys gs cs) f = class_runs es keys gs cs f.some f.used

pub operations_short : (es : List Entry) (os : List Operation) → AllByRecursion (FitsEntries es) os
    → length os ≤ length (flat_map runs os)
operations_short es [] a = omega arith
operations_short es (o ∷ os) a =
    let h = operation_runs es o a.0 in
    let i = operations_short es os a.1 in
    let s = length-append (runs o) (flat_map runs os) in omega arith
