-- The channels, results and stages of operations are not more than the graph allows.
use Rattle.std.proofs.Common.{◌≡◌, ℕ, ◌+◌, ◌≤◌, ◌⊎◌, List, [], ◌∷◌, ◌++◌, length, Option, Some, None, refl, sym, subst, arith, inl, inr, length-append}
use Rattle.std.specs.List.{AllByRecursion, flat_map}
use Rattle.flume_value.proofs.EachLemmas.{Each-weaker}
use Rattle.graph_laws.specs.of_exec_graph.Meaning.{node_at, place}
use Rattle.graph_laws.specs.of_exec_graph.declared.graph.Place.{Place}
use Rattle.graph_laws.specs.of_exec_graph.declared.graph.Node.{Node}
use Rattle.graph_laws.specs.of_exec_graph.declared.graph.Node.TheVariants.{Source, Flatten, Pdo, Gbk, Barrier}
use Rattle.graph_laws.specs.of_exec_graph.declared.graph.Entry.{Entry}
use Rattle.plan_laws.specs.declared.operations.Key.{Key}
use Rattle.plan_laws.specs.declared.operations.Key.TheVariants.{Mapper, Whole}
use Rattle.plan_laws.specs.declared.operations.Grouped.{Grouped}
use Rattle.plan_laws.specs.declared.operations.Operation.TheVariants.{Class}
use Rattle.plan_laws.specs.Operations.{IsGroupedOk, IsHonest, IsTakenPlace, TakesInputs, group_gives, group_runs, key_runs, outs_at, reduced, reducer_runs, runs, IsIn}
use Rattle.plan_rules.specs.Fitting.{IsAlone, IsClassFit, IsUsed}
use Rattle.plan_rules.proofs.Collections.{collections}
use Rattle.plan_rules.proofs.Apart.{IsApart, Misses, misses_left}
use Rattle.plan_rules.proofs.Beside.{beside_short}
use Rattle.plan_rules.proofs.Keys.{all_taken, keys_parted, mappers, mappers_differ, mappers_run, mappers_stand, mappers_weigh, outs_of_number, places_differ, wholes, wholes_differ, wholes_there}
use Rattle.plan_rules.proofs.Members.{Differ, differ_right, weight, weight-append}
use Rattle.plan_rules.proofs.Places.{numbers, outs_count, there_has}
use Rattle.plan_rules.proofs.Runs.{all_stand, groups_work}
use Rattle.plan_rules.proofs.Widths.{length_map}

-- ---- groups

gbk_weighs : (es : List Entry) (keys : List Key) (o : Option Node) → TakesInputs es keys o
    → outs_count o ≡ 1
gbk_weighs es keys (Some (Gbk c o l k)) t = refl
gbk_weighs es keys _ t = absurd t

outs_weigh : (o : Option Node) → length (outs_at o) ≤ outs_count o
outs_weigh None = omega arith
outs_weigh (Some (Source r)) = omega arith
outs_weigh (Some (Flatten ins)) = omega arith
outs_weigh (Some (Pdo c f)) = omega arith
outs_weigh (Some (Gbk c o l k)) = omega arith
outs_weigh (Some (Barrier ins o l a)) = omega arith

reduced_weighs : (es : List Entry) (n : ℕ) (r : Option ℕ) → outs_of_number es n ≡ 1
    → length (reduced es n r) ≤ weight (outs_of_number es) (n ∷ reducer_runs r)
reduced_weighs es n None h = omega arith
reduced_weighs es n (Some r) h =
    let m = length_map (place r) (outs_at (node_at es r)) in
    let o = outs_weigh (node_at es r) in omega arith

-- the groups are not more than what the nodes that they carry out give, nor are their results
record Weighed (es : List Entry) (gs : List Grouped) : Type 0 where
  pub groups : length gs ≤ weight (outs_of_number es) (flat_map group_runs gs)
  pub results :
      length (flat_map (group_gives es) gs) ≤ weight (outs_of_number es) (flat_map group_runs gs)

groups_weigh : (es : List Entry) (keys : List Key) (gs : List Grouped)
    → AllByRecursion (IsGroupedOk es keys) gs → Weighed es gs
groups_weigh es keys [] a = record { groups = omega arith; results = omega arith }
groups_weigh es keys (g ∷ gs) a =
    let w = outs_of_number es in
    let i = groups_weigh es keys gs a.1 in
    let p : length gs ≤ weight w (flat_map group_runs gs) = i.groups in
    let q : length (flat_map (group_gives es) gs) ≤ weight w (flat_map group_runs gs) =
    i.results in
    let h : outs_of_number es g.gbk ≡ 1 = gbk_weighs es keys (node_at es g.gbk) a.0.0 in
    let r = reduced_weighs es g.gbk g.reducer h in
    let s = weight-append w (group_runs g) (flat_map group_runs gs) in
    let l = length-append (group_gives es g) (flat_map (group_gives es) gs) in
    record { groups = omega arith; results = omega arith }

-- ---- one operation

-- its channels, and its results
pub record Bounded (es : List Entry) (keys : List Key) (gs : List Grouped) (cs : List Place)
    : Type 0 where
  pub inputs : length keys ≤ 131072
  pub outputs : length gs + length cs ≤ 131072
  pub results : length (flat_map (group_gives es) gs ++ cs) ≤ 131072

alone_short : (keys : List Key) → IsAlone keys → length keys ≤ 1
alone_short [] h = absurd h
alone_short (Mapper n ∷ []) h = omega arith
alone_short (Mapper n ∷ (k ∷ ks)) h = absurd h
alone_short (Whole c ∷ ks) h = absurd h

-- the channels are not more than the collections
inputs_short : (es : List Entry) (keys : List Key) (gs : List Grouped) (cs : List Place)
    → AllByRecursion (λ e. node_at es e.number ≡ Some e.node) es → Differ (numbers es)
    → length (collections es) ≤ 131072 → AllByRecursion (IsGroupedOk es keys) gs
    → IsClassFit es keys gs cs → IsApart (Class keys gs cs)
    → IsAlone keys ⊎ AllByRecursion (IsUsed es gs) keys → length keys ≤ 131072
inputs_short es keys gs cs f dn m a t o (inl h) = let l = alone_short keys h in omega arith
inputs_short es keys gs cs f dn m a t o (inr h) =
    let taken = all_taken es keys gs keys a h in
    let p = keys_parted keys in
    let n = mappers_weigh es keys taken in
    let apart : AllByRecursion (λ c. Misses (mappers keys) c.node) (wholes keys) =
    Each-weaker (λ c. Misses (runs (Class keys gs cs)) c.node)
    (λ c. Misses (mappers keys) c.node)
    (λ c q. subst (λ (ns : List ℕ). Misses ns c.node) (sym (mappers_run keys))
    (misses_left (flat_map key_runs keys) (flat_map group_runs gs) c.node q))
    (wholes keys) o.0 in
    let b = beside_short es (mappers keys) (wholes keys) f dn (mappers_differ keys t.differ)
    (mappers_stand es keys taken) (wholes_differ keys t.differ) (wholes_there es keys taken)
    apart in
    omega arith

pub class_bounded : (es : List Entry) (keys : List Key) (gs : List Grouped) (cs : List Place)
    → AllByRecursion (λ e. node_at es e.number ≡ Some e.node) es → Differ (numbers es)
    → length (collections es) ≤ 131072 → IsHonest es (Class keys gs cs)
    → IsClassFit es keys gs cs → Differ (runs (Class keys gs cs))
    → IsApart (Class keys gs cs) → Bounded es keys gs cs
class_bounded es keys gs cs f dn m h t d o =
    let ns : List ℕ = flat_map group_runs gs in
    let w = groups_weigh es keys gs h.1 in
    let p : length gs ≤ weight (outs_of_number es) ns = w.groups in
    let q : length (flat_map (group_gives es) gs) ≤ weight (outs_of_number es) ns =
    w.results in
    let b = beside_short es ns cs f dn (differ_right (flat_map key_runs keys) ns d)
    (all_stand es ns (groups_work es keys gs h.1)) (places_differ cs t.passed)
    (Each-weaker (IsTakenPlace es keys) (λ c. IsIn c (collections es))
    (λ c i. there_has es c i.1) cs
    h.2) o.1 in
    let k = inputs_short es keys gs cs f dn m h.1 t o t.used in
    let a = length-append (flat_map (group_gives es) gs) cs in
    record { inputs = k; outputs = omega arith; results = omega arith }
