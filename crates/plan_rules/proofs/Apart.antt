-- What an operation reads as it is, is of no node that it carries out, or that is carried out
-- later: it is made before, and no node is carried out twice. And what passes through is of no node
-- that its groups carry out.
use Rattle.std.proofs.Common.{◌≡◌, ℕ, ◌⊎◌, Bool, true, false, List, [], ◌∷◌, ◌++◌, map, Option, Some, None, refl, sym, ap, ◌∙◌, subst, inl, inr}
use Rattle.std.proofs.lemmas.Bool.{eqb-true, false≢true}
use Rattle.std.specs.List.{AllByRecursion, flat_map}
use Rattle.flume_value.proofs.EachLemmas.{Each-append, Each-left, Each-right, Each-weaker}
use Rattle.graph_laws.specs.of_exec_graph.Meaning.{node_at, place}
use Rattle.graph_laws.specs.of_exec_graph.declared.graph.Place.{Place}
use Rattle.graph_laws.specs.of_exec_graph.declared.graph.Node.{Node}
use Rattle.graph_laws.specs.of_exec_graph.declared.graph.Node.TheVariants.{Source, Flatten, Pdo, Gbk, Barrier}
use Rattle.graph_laws.specs.of_exec_graph.declared.graph.Entry.{Entry}
use Rattle.plan_laws.specs.declared.operations.Key.{Key}
use Rattle.plan_laws.specs.declared.operations.Key.TheVariants.{Mapper, Whole}
use Rattle.plan_laws.specs.declared.operations.Grouped.{Grouped}
use Rattle.plan_laws.specs.declared.operations.Operation.{Operation}
use Rattle.plan_laws.specs.declared.operations.Operation.TheVariants.{Flat, Class}
use Rattle.plan_laws.specs.Operations.{AreReady, HasKey, IsFlat, IsHonest, IsIn, IsTakenPlace, channel_of, channels_of, gives_of, group_gives, group_runs, is_read_under, key_runs, outs_at, reading_reads, reads_of, reduced, reducer_runs, runs, source_place, source_places, works_at}
use Rattle.plan_laws.proofs.Running.{place_same}
use Rattle.plan_rules.proofs.Keys.{wholes}
use Rattle.plan_rules.proofs.Members.{Differ, differ_left, differ_right}
use Rattle.plan_rules.proofs.Runs.{class_works}

-- the number is none of these
abbrev pub Misses : List ℕ → ℕ → Type 0
Misses ns n = AllByRecursion (λ k. n ≡ k → ⊥) ns

pub misses_left : (ns ks : List ℕ) (n : ℕ) → Misses (ns ++ ks) n → Misses ns n
misses_left ns ks n a = Each-left (λ k. n ≡ k → ⊥) ns ks a

misses_right : (ns ks : List ℕ) (n : ℕ) → Misses (ns ++ ks) n → Misses ks n
misses_right ns ks n a = Each-right (λ k. n ≡ k → ⊥) ns ks a

-- of numbers that differ, those in front are none of those behind
differ_parts : (ns ks : List ℕ) → Differ (ns ++ ks) → AllByRecursion (Misses ks) ns
differ_parts [] ks d = tt
differ_parts (n ∷ ns) ks d = (misses_right ns ks n d.0, differ_parts ns ks d.1)

each_in : (P : Place → Type 0) (c : Place) (made : List Place) → IsIn c made
    → AllByRecursion P made → P c
each_in P c [] i a = absurd i
each_in P c (d ∷ ds) (inl e) a = subst P e a.0
each_in P c (d ∷ ds) (inr i) a = each_in P c ds i a.1

-- ---- what a class reads as it is

wholes_made : (es : List Entry) (made : List Place) (keys : List Key)
    → AllByRecursion (λ c. IsIn c made) (flat_map reading_reads (channels_of es keys))
    → AllByRecursion (λ c. IsIn c made) (wholes keys)
wholes_made es made [] a = tt
wholes_made es made (Mapper n ∷ ks) a =
    wholes_made es made ks
    (Each-right (λ c. IsIn c made) (reading_reads (channel_of es (Mapper n)))
    (flat_map reading_reads (channels_of es ks)) a)
wholes_made es made (Whole c ∷ ks) a = (a.0, wholes_made es made ks a.1)

-- what holds of the nodes of mappers, and of what is read as it is, holds of what a channel has
key_node : (P : ℕ → Type 0) (keys : List Key) (c : Place)
    → AllByRecursion P (flat_map key_runs keys) → AllByRecursion (λ d. P d.node) (wholes keys)
    → HasKey keys c → P c.node
key_node P [] c a b h = absurd h
key_node P (Mapper n ∷ ks) c a b (inl h) = subst P (eqb-true n c.node h) a.0
key_node P (Mapper n ∷ ks) c a b (inr h) = key_node P ks c a.1 b h
key_node P (Whole d ∷ ks) c a b (inl h) =
    subst (λ (x : Place). P x.node) (place_same d c h) b.0
key_node P (Whole d ∷ ks) c a b (inr h) = key_node P ks c a b.1 h

pass_nodes : (P : ℕ → Type 0) (es : List Entry) (keys : List Key) (cs : List Place)
    → AllByRecursion P (flat_map key_runs keys) → AllByRecursion (λ d. P d.node) (wholes keys)
    → AllByRecursion (IsTakenPlace es keys) cs → AllByRecursion (λ c. P c.node) cs
pass_nodes P es keys cs a b t =
    Each-weaker (IsTakenPlace es keys) (λ c. P c.node) (λ c h. key_node P keys c a b h.0) cs t

-- ---- what groups give

outs_nodes : (P : ℕ → Type 0) (n : ℕ) (js : List ℕ) → P n
    → AllByRecursion (λ c. P c.node) (map (place n) js)
outs_nodes P n [] p = tt
outs_nodes P n (j ∷ js) p = (p, outs_nodes P n js p)

reduced_nodes : (P : ℕ → Type 0) (es : List Entry) (n : ℕ) (r : Option ℕ) → P n
    → AllByRecursion P (reducer_runs r) → AllByRecursion (λ c. P c.node) (reduced es n r)
reduced_nodes P es n None p a = (p, tt)
reduced_nodes P es n (Some r) p a = outs_nodes P r (outs_at (node_at es r)) a.0

group_nodes : (P : ℕ → Type 0) (es : List Entry) (gs : List Grouped)
    → AllByRecursion P (flat_map group_runs gs)
    → AllByRecursion (λ c. P c.node) (flat_map (group_gives es) gs)
group_nodes P es [] a = tt
group_nodes P es (g ∷ gs) a =
    let here = Each-left P (group_runs g) (flat_map group_runs gs) a in
    Each-append (λ c. P c.node) (group_gives es g) (flat_map (group_gives es) gs)
    (reduced_nodes P es g.gbk g.reducer here.0 here.1)
    (group_nodes P es gs (Each-right P (group_runs g) (flat_map group_runs gs) a))

-- ---- one operation

-- what it reads as it is, is of no node that it carries out, and what passes through is of none
-- that its groups do
abbrev pub IsApart : Operation → Type 0
IsApart (Flat n) = Unit {0}
IsApart (Class keys gs cs) =
    AllByRecursion (λ c. Misses (runs (Class keys gs cs)) c.node) (wholes keys)
    × AllByRecursion (λ c. Misses (flat_map group_runs gs) c.node) cs

-- collections of none of these nodes
abbrev Fresh : List ℕ → List Place → Type 0
Fresh ns made = AllByRecursion (λ c. Misses ns c.node) made

wholes_fresh : (es : List Entry) (made : List Place) (keys : List Key) (ns : List ℕ)
    → AllByRecursion (λ c. IsIn c made) (flat_map reading_reads (channels_of es keys))
    → Fresh ns made → Fresh ns (wholes keys)
wholes_fresh es made keys ns r f =
    Each-weaker (λ c. IsIn c made) (λ c. Misses ns c.node)
    (λ c i. each_in (λ d. Misses ns d.node) c made i f) (wholes keys) (wholes_made es made keys r)

one_apart : (es : List Entry) (made : List Place) (o : Operation)
    → AllByRecursion (λ c. IsIn c made) (reads_of es o) → IsHonest es o → Differ (runs o)
    → Fresh (runs o) made → IsApart o
one_apart es made (Flat n) r h d f = tt
one_apart es made (Class keys gs cs) r h d f =
    let ms : List ℕ = flat_map key_runs keys in
    let ns : List ℕ = flat_map group_runs gs in
    let w : Fresh (ms ++ ns) (wholes keys) = wholes_fresh es made keys (ms ++ ns) r f in (
      w,
      pass_nodes (Misses ns) es keys cs (differ_parts ms ns d)
          (Each-weaker (λ c. Misses (ms ++ ns) c.node) (λ c. Misses ns c.node)
          (λ c q. misses_right ms ns c.node q) (wholes keys) w) h.2,
    )

-- what an operation gives is of nodes that it carries out, or was made before
gives_fresh : (es : List Entry) (made : List Place) (o : Operation) (later : List ℕ)
    → AllByRecursion (λ c. IsIn c made) (reads_of es o) → IsHonest es o
    → AllByRecursion (Misses later) (runs o) → Fresh later made → Fresh later (gives_of es o)
gives_fresh es made (Flat n) later r h a f = (a.0, tt)
gives_fresh es made (Class keys gs cs) later r h a f =
    let ms : List ℕ = flat_map key_runs keys in
    let ns : List ℕ = flat_map group_runs gs in
    Each-append (λ c. Misses later c.node) (flat_map (group_gives es) gs) cs
    (group_nodes (Misses later) es gs (Each-right (Misses later) ms ns a))
    (pass_nodes (Misses later) es keys cs (Each-left (Misses later) ms ns a)
    (wholes_fresh es made keys later r f) h.2)

-- ---- all operations

all_apart : (es : List Entry) (made : List Place) (os : List Operation) → AreReady es made os
    → AllByRecursion (IsHonest es) os → Differ (flat_map runs os)
    → Fresh (flat_map runs os) made → AllByRecursion IsApart os
all_apart es made [] r h d f = tt
all_apart es made (o ∷ os) r h d f =
    let ns : List ℕ = runs o in
    let ks : List ℕ = flat_map runs os in
    let here : Fresh ns made =
    Each-weaker (λ c. Misses (ns ++ ks) c.node) (λ c. Misses ns c.node)
    (λ c q. misses_left ns ks c.node q) made f in
    let later : Fresh ks made =
    Each-weaker (λ c. Misses (ns ++ ks) c.node) (λ c. Misses ks c.node)
    (λ c q. misses_right ns ks c.node q) made f in (
      one_apart es made o r.0 h.0 (differ_left ns ks d) here,
      all_apart es (gives_of es o ++ made) os r.1 h.1 (differ_right ns ks d)
          (Each-append (λ c. Misses ks c.node) (gives_of es o) made
          (gives_fresh es made o ks r.0 h.0 (differ_parts ns ks d) later) later),
    )

-- ---- sources, which no operation carries out

abbrev is_source : Option Node → Bool
is_source (Some (Source r)) = true
is_source _ = false

work_is_none : (o : Option Node) → works_at o ≡ true → is_source o ≡ false
work_is_none (Some (Source r)) h = absurd (false≢true h)
work_is_none _ h = refl

flat_is_none : (o : Option Node) → IsFlat o → is_source o ≡ false
flat_is_none (Some (Source r)) h = absurd h
flat_is_none _ h = refl

runs_are_none : (es : List Entry) (os : List Operation) → AllByRecursion (IsHonest es) os
    → AllByRecursion (λ k. is_source (node_at es k) ≡ false) (flat_map runs os)
runs_are_none es [] h = tt
runs_are_none es (Flat n ∷ os) h =
    (flat_is_none (node_at es n) h.0, runs_are_none es os h.1)
runs_are_none es (Class keys gs cs ∷ os) h =
    Each-append (λ k. is_source (node_at es k) ≡ false) (runs (Class keys gs cs))
    (flat_map runs os)
    (Each-weaker (λ k. works_at (node_at es k) ≡ true) (λ k. is_source (node_at es k) ≡ false)
    (λ k w. work_is_none (node_at es k) w) (runs (Class keys gs cs))
    (class_works es keys gs cs h.0))
    (runs_are_none es os h.1)

source_misses : (es : List Entry) (n : ℕ) (x : Node) (ns : List ℕ) → node_at es n ≡ Some x
    → is_source (Some x) ≡ true
    → AllByRecursion (λ k. is_source (node_at es k) ≡ false) ns → Misses ns n
source_misses es n x ns at s a =
    Each-weaker (λ k. is_source (node_at es k) ≡ false) (λ k. n ≡ k → ⊥)
    (λ k h e. false≢true (sym h ∙ ap (λ (j : ℕ). is_source (node_at es j)) (sym e)
    ∙ ap is_source at ∙ s)) ns a

one_source : (es : List Entry) (n : ℕ) (x : Node) (ns : List ℕ) → node_at es n ≡ Some x
    → AllByRecursion (λ k. is_source (node_at es k) ≡ false) ns → Fresh ns (source_place n x)
one_source es n (Source r) ns at a = (source_misses es n (Source r) ns at refl a, tt)
one_source es n (Flatten ins) ns at a = tt
one_source es n (Pdo c f) ns at a = tt
one_source es n (Gbk c o l k) ns at a = tt
one_source es n (Barrier ins o l d) ns at a = tt

sources_fresh : (all es : List Entry) (ns : List ℕ)
    → AllByRecursion (λ e. node_at all e.number ≡ Some e.node) es
    → AllByRecursion (λ k. is_source (node_at all k) ≡ false) ns → Fresh ns (source_places es)
sources_fresh all [] ns f a = tt
sources_fresh all (e ∷ es) ns f a =
    Each-append (λ c. Misses ns c.node) (source_place e.number e.node) (source_places es)
    (one_source all e.number e.node ns f.0 a) (sources_fresh all es ns f.1 a)

-- where each operation reads what is made before, and no node is carried out twice
pub operations_apart : (es : List Entry) (os : List Operation)
    → AllByRecursion (λ e. node_at es e.number ≡ Some e.node) es
    → AllByRecursion (IsHonest es) os → AreReady es (source_places es) os
    → Differ (flat_map runs os) → AllByRecursion IsApart os
operations_apart es os f h r d =
    all_apart es (source_places es) os r h d
    (sources_fresh es es (flat_map runs os) f (runs_are_none es os h))
