-- The plan of operations that carry out a graph says of each collection what the graph says.
use Rattle.std.proofs.Common.{◌≡◌, ℕ, ◌+◌, ◌⊎◌, Bool, true, false, cond, eqb, List, [], ◌∷◌, ◌++◌, map, length, Option, Some, None, suc, refl, sym, ap, ◌∙◌, subst, arith, inl, inr}
use Rattle.std.proofs.lemmas.Bool.{eqb-true, eq-eqb, false≢true}
use Rattle.std.specs.Prelude.{option_map}
use Rattle.std.specs.List.{flat_map, AllByRecursion as Each, slice_get}
use Rattle.exec_plan.proofs.of_flume_value.BoolLemmas.{both_true}
use Rattle.exec_plan.proofs.of_flume_value.EachLemmas.{Each-left, Each-right, Each-weaker}
use Rattle.exec_plan.specs.of_flume_collection.Collection.{Collection, together}
use Rattle.exec_plan.specs.of_exec_graph.World.{World}
use Rattle.exec_plan.specs.of_exec_graph.Objects.{act_result}
use Rattle.exec_plan.specs.of_exec_graph.declared.graph.Node.{Node}
use Rattle.exec_plan.specs.of_exec_graph.declared.graph.Node.TheVariants.{Source, Flatten, Pdo, Gbk, Barrier}
use Rattle.exec_plan.specs.of_exec_graph.Meaning.{place, or_nothing}
use Rattle.exec_plan.specs.of_exec_graph.Readers.{same_place}
use Rattle.exec_plan.specs.of_exec_graph.declared.graph.Place.{Place}
use Rattle.exec_plan.specs.of_exec_graph.declared.graph.Entry.{Entry}
use Rattle.exec_plan.specs.declared.plan.PlanPlace.{PlanPlace}
use Rattle.exec_plan.specs.declared.plan.PlanPlace.TheVariants as at
use Rattle.exec_plan.specs.Channels.{Fed, fed, channel_gives}
use Rattle.exec_plan.specs.Meaning.{Parts, channels_sum, results, stages_run, stage_sum, with_results}
use Rattle.exec_plan.proofs.Running.{IsBelow, more_below, run_below, with_below}
use Rattle.plan_laws.specs.declared.operations.Operation.{Operation}
use Rattle.plan_laws.specs.declared.operations.Operation.TheVariants.{Flat, Class}
use Rattle.plan_laws.specs.Operations.{AreReady, IsIn, Reading, channels_of, class_outs, flat_inputs, flat_stage, gives_of, made_after, channel_named, placed_results, places_of, reading_reads, reads_of, with_object, stage_of, stages_of, channel_valued}
use Rattle.exec_plan.specs.of_exec_graph.Meaning.{node_at}

-- ---- what an operation gives, and adds up to, where m says what the graph's collections are
abbrev pub flat_value : World → Option Node → List Collection → Collection
flat_value w (Some (Barrier ins o l a)) cs = act_result w o a cs
flat_value w o cs = together cs

abbrev pub flat_part : {Y : Type 0} → World → Parts Y → Option Node → List Collection → List Y
flat_part w p (Some (Barrier ins o l a)) cs = p.groups o l (act_result w o a cs)
flat_part w p o cs = p.flat (together cs)

abbrev pub carried : World → (Place → Collection) → List Entry → Operation → List Collection
carried w m es (Flat n) =
    flat_value w (node_at es n) (map m (flat_inputs (node_at es n))) ∷ []
carried w m es (Class keys groups passes) =
    flat_map (channel_gives w (map (channel_valued m) (channels_of es keys)))
    (class_outs es keys groups passes)

abbrev pub carried_sum : {Y : Type 0} → World → Parts Y → (Place → Collection) → List Entry
    → Operation → List Y
carried_sum w p m es (Flat n) =
    flat_part w p (node_at es n) (map m (flat_inputs (node_at es n)))
carried_sum w p m es (Class keys groups passes) =
    channels_sum w p (map (channel_valued m) (channels_of es keys))
    (class_outs es keys groups passes)

-- its results are what it is to give
abbrev pub Carries : World → (Place → Collection) → List Entry → Operation → Type 0
Carries w m es o = carried w m es o ≡ map m (gives_of es o)

-- ---- a stage whose collections stand elsewhere
object_named : (m : Place → Collection) (t : PlanPlace → Collection) (f : Place → PlanPlace)
    (o : Option Place) → Each (λ c. t (f c) ≡ m c) (with_object o)
    → option_map t (option_map f o) ≡ option_map m o
object_named m t f None a = refl
object_named m t f (Some c) a = ap (λ (v : Collection). Some v) a.0

fed_named : (m : Place → Collection) (t : PlanPlace → Collection) (f : Place → PlanPlace)
    (rs : List Reading) → Each (λ c. t (f c) ≡ m c) (flat_map reading_reads rs)
    → map (fed t) (map (channel_named f) rs) ≡ map (channel_valued m) rs
fed_named m t f [] a = refl
fed_named m t f (r ∷ rs) a =
    let P : Place → Type 0 = λ c. t (f c) ≡ m c in
    let more : List Place = flat_map reading_reads rs in
    let reads : t (f r.reads) ≡ m r.reads = a.0 in
    let object : option_map t (option_map f r.beside) ≡ option_map m r.beside =
    object_named m t f r.beside (Each-left P (with_object r.beside) more a.1) in
    let rest : map (fed t) (map (channel_named f) rs) ≡ map (channel_valued m) rs =
    fed_named m t f rs (Each-right P (with_object r.beside) more a.1) in
    λ i. (let x : Fed = record { value = reads i; beside = object i; does = r.does } in
    x ∷ rest i)

pub values_named : (m : Place → Collection) (t : PlanPlace → Collection) (f : Place → PlanPlace)
    (cs : List Place) → Each (λ c. t (f c) ≡ m c) cs → map t (map f cs) ≡ map m cs
values_named m t f [] a = refl
values_named m t f (c ∷ cs) a =
    ap (λ (v : Collection). v ∷ map t (map f cs)) a.0
    ∙ ap (λ (l : List Collection). m c ∷ l) (values_named m t f cs a.1)

flat_results : (w : World) (t : PlanPlace → Collection) (o : Option Node) (takes : List PlanPlace)
    → results w t (flat_stage o takes) ≡ flat_value w o (map t takes) ∷ []
flat_results w t None takes = refl
flat_results w t (Some (Source r)) takes = refl
flat_results w t (Some (Flatten ins)) takes = refl
flat_results w t (Some (Pdo c f)) takes = refl
flat_results w t (Some (Gbk c o l k)) takes = refl
flat_results w t (Some (Barrier ins o l a)) takes = refl

flat_summed : {Y : Type 0} (w : World) (p : Parts Y) (t : PlanPlace → Collection)
    (o : Option Node) (takes : List PlanPlace)
    → stage_sum w p t (flat_stage o takes) ≡ flat_part w p o (map t takes)
flat_summed w p t None takes = refl
flat_summed w p t (Some (Source r)) takes = refl
flat_summed w p t (Some (Flatten ins)) takes = refl
flat_summed w p t (Some (Pdo c f)) takes = refl
flat_summed w p t (Some (Gbk c o l k)) takes = refl
flat_summed w p t (Some (Barrier ins o l a)) takes = refl

results_named : (w : World) (m : Place → Collection) (t : PlanPlace → Collection)
    (f : Place → PlanPlace) (es : List Entry) (o : Operation)
    → Each (λ c. t (f c) ≡ m c) (reads_of es o)
    → results w t (stage_of es f o) ≡ carried w m es o
results_named w m t f es (Flat n) a =
    flat_results w t (node_at es n) (map f (flat_inputs (node_at es n)))
    ∙ ap (λ (cs : List Collection). flat_value w (node_at es n) cs ∷ [])
    (values_named m t f (flat_inputs (node_at es n)) a)
results_named w m t f es (Class keys groups passes) a =
    ap (λ (cs : List Fed). flat_map (channel_gives w cs) (class_outs es keys groups passes))
    (fed_named m t f (channels_of es keys) a)

sum_named : {Y : Type 0} (w : World) (p : Parts Y) (m : Place → Collection)
    (t : PlanPlace → Collection) (f : Place → PlanPlace) (es : List Entry) (o : Operation)
    → Each (λ c. t (f c) ≡ m c) (reads_of es o)
    → stage_sum w p t (stage_of es f o) ≡ carried_sum w p m es o
sum_named w p m t f es (Flat n) a =
    flat_summed w p t (node_at es n) (map f (flat_inputs (node_at es n)))
    ∙ ap (flat_part w p (node_at es n)) (values_named m t f (flat_inputs (node_at es n)) a)
sum_named w p m t f es (Class keys groups passes) a =
    ap (λ (cs : List Fed). channels_sum w p cs (class_outs es keys groups passes))
    (fed_named m t f (channels_of es keys) a)

-- ---- one stage more
-- t and f say of the collection c, in stages below k, what m says of it
pub record Tells (m : Place → Collection) (t : PlanPlace → Collection) (f : Place → PlanPlace)
    (k : ℕ) (c : Place) : Type 0 where
  pub same : t (f c) ≡ m c
  pub below : IsBelow k (f c)

pub place_same : (d c : Place) → same_place d c ≡ true → d ≡ c
place_same d c h =
    let p = both_true (eqb d.node c.node) (eqb d.out c.out) h in
    ap (λ (n : ℕ). place n d.out) (eqb-true d.node c.node p.0)
    ∙ ap (λ (n : ℕ). place c.node n) (eqb-true d.out c.out p.1)

pub same_self : (d c : Place) → d ≡ c → same_place d c ≡ true
same_self d c h = rw (
  eq-eqb d.node c.node (ap (λ (x : Place). x.node) h),
  eq-eqb d.out c.out
      (ap (λ (x : Place). x.out) h),
) refl

at_place : (t : PlanPlace → Collection) (cs : List Collection) (k i : ℕ) (v : Collection)
    → slice_get cs i ≡ Some v → with_results k cs t (at.Result k i) ≡ v
at_place t cs k i v h = rw (eq-eqb k k refl) (ap or_nothing h)

-- what is given is found in the new table
placed_by : (m : Place → Collection) (t : PlanPlace → Collection) (f : Place → PlanPlace)
    (cs : List Collection) (k i : ℕ) (d : Place) (ds : List Place) (c : Place) (b : Bool)
    → same_place d c ≡ b → slice_get cs i ≡ Some (m d)
    → (b ≡ false → Tells m (with_results k cs t) (placed_results k (suc i) ds f) (suc k) c)
    → Tells m (with_results k cs t)
    (λ x. cond (same_place d x) (at.Result k i) (placed_results k (suc i) ds f x)) (suc k) c
placed_by m t f cs k i d ds c true e h r = record {
  same = rw e (at_place t cs k i (m d) h ∙ ap m (place_same d c e));
  below = rw e (omega arith);
}
placed_by m t f cs k i d ds c false e h r =
    let q = r refl in
    record { same = rw e q.same; below = rw e q.below }

-- cs has from place i on what m says of ds
abbrev HasFrom : (Place → Collection) → List Collection → ℕ → List Place → Type 0
HasFrom m cs i [] = Unit {0}
HasFrom m cs i (d ∷ ds) = (slice_get cs i ≡ Some (m d)) × HasFrom m cs (suc i) ds

pub without_first : {Q : Type 0} (d : Place) (ds : List Place) (c : Place) → same_place d c ≡ false
    → IsIn c (d ∷ ds) ⊎ Q → IsIn c ds ⊎ Q
without_first d ds c e (inl (inl h)) = absurd (false≢true (sym e ∙ same_self d c h))
without_first d ds c e (inl (inr h)) = inl h
without_first d ds c e (inr q) = inr q

placed_tells : (m : Place → Collection) (t : PlanPlace → Collection) (f : Place → PlanPlace)
    (cs : List Collection) (k i : ℕ) (ds : List Place) (c : Place) → HasFrom m cs i ds
    → IsIn c ds ⊎ Tells m t f k c
    → Tells m (with_results k cs t) (placed_results k i ds f) (suc k) c
placed_tells m t f cs k i [] c h (inl p) = absurd p
placed_tells m t f cs k i [] c h (inr p) = record {
  same = with_below t cs k (f c) p.below ∙ p.same;
  below = more_below k (f c) p.below;
}
placed_tells m t f cs k i (d ∷ ds) c h p =
    placed_by m t f cs k i d ds c (same_place d c) refl h.0
    (λ e. placed_tells m t f cs k (suc i) ds c h.1 (without_first d ds c e p))

from_shift : (m : Place → Collection) (v : Collection) (cs : List Collection) (i : ℕ)
    (ds : List Place) → HasFrom m cs i ds → HasFrom m (v ∷ cs) (suc i) ds
from_shift m v cs i [] h = tt
from_shift m v cs i (d ∷ ds) h = (h.0, from_shift m v cs (suc i) ds h.1)

has_all : (m : Place → Collection) (ds : List Place) → HasFrom m (map m ds) 0 ds
has_all m [] = tt
has_all m (d ∷ ds) = (refl, from_shift m (m d) (map m ds) 0 ds (has_all m ds))

pub in_append : {X : Type 0} (c : X) (xs ys : List X) → IsIn c (xs ++ ys) → IsIn c xs ⊎ IsIn c ys
in_append c [] ys h = inr h
in_append c (x ∷ xs) ys (inl h) = inl (inl h)
in_append c (x ∷ xs) ys (inr h) =
    elim (in_append c xs ys h) [ inl p ↦ inl (inr p) | inr p ↦ inr p ]

-- of each collection that is made, the table says what m says
abbrev pub TellsAll : (Place → Collection) → (PlanPlace → Collection) → (Place → PlanPlace) → ℕ
    → List Place → Type 0
TellsAll m t f k made = (c : Place) → IsIn c made → Tells m t f k c

pub all_in : (P : Place → Type 0) (made : List Place) → ((c : Place) → IsIn c made → P c)
    → (cs : List Place) → Each (λ c. IsIn c made) cs → Each P cs
all_in P made h cs a = Each-weaker (λ c. IsIn c made) P h cs a

one_more : (w : World) (es : List Entry) (m : Place → Collection) (t : PlanPlace → Collection)
    (f : Place → PlanPlace) (k : ℕ) (made : List Place) (o : Operation) → TellsAll m t f k made
    → Carries w m es o → Each (λ c. IsIn c made) (reads_of es o)
    → TellsAll m (with_results k (results w t (stage_of es f o)) t)
    (placed_results k 0 (gives_of es o) f) (suc k) (gives_of es o ++ made)
one_more w es m t f k made o a h r c p =
    let same : results w t (stage_of es f o) ≡ map m (gives_of es o) =
    results_named w m t f es o (all_in (λ c. t (f c) ≡ m c) made (λ c i. (a c i).same)
    (reads_of es o) r) ∙ h in
    let q : IsIn c (gives_of es o) ⊎ Tells m t f k c =
    elim (in_append c (gives_of es o) made p) [ inl i ↦ inl i | inr i ↦ inr (a c i) ] in
    placed_tells m t f (results w t (stage_of es f o)) k 0 (gives_of es o) c
    (subst (λ (cs : List Collection). HasFrom m cs 0 (gives_of es o)) (sym same)
    (has_all m (gives_of es o))) q

-- ---- all stages
pub run_tells : (w : World) (es : List Entry) (m : Place → Collection)
    (t : PlanPlace → Collection) (f : Place → PlanPlace) (k : ℕ) (made : List Place)
    (os : List Operation) → TellsAll m t f k made → Each (Carries w m es) os
    → AreReady es made os
    → TellsAll m (stages_run w k (stages_of es k f os) t) (places_of es k f os) (k + length os)
    (made_after es made os)
run_tells w es m t f k made [] a h r =
    subst (λ (n : ℕ). TellsAll m t f n made) (let e : k ≡ k + 0 = omega arith in e) a
run_tells w es m t f k made (o ∷ os) a h r =
    let now : PlanPlace → Collection = with_results k (results w t (stage_of es f o)) t in
    let names : Place → PlanPlace = placed_results k 0 (gives_of es o) f in
    subst (λ (n : ℕ). TellsAll m (stages_run w (suc k) (stages_of es (suc k) names os) now)
    (places_of es (suc k) names os) n (made_after es (gives_of es o ++ made) os))
    (let e : suc k + length os ≡ k + length (o ∷ os) = omega arith in e)
    (run_tells w es m now names (suc k) (gives_of es o ++ made) os
    (one_more w es m t f k made o a h.0 r.0) h.1 r.1)

-- what the stages add up to is what the operations do
pub run_sums : {Y : Type 0} (w : World) (es : List Entry) (p : Parts Y) (m : Place → Collection)
    (t : PlanPlace → Collection) (f : Place → PlanPlace) (k : ℕ) (made : List Place)
    (os : List Operation) → TellsAll m t f k made → Each (Carries w m es) os
    → AreReady es made os
    → flat_map (stage_sum w p (stages_run w k (stages_of es k f os) t)) (stages_of es k f os)
    ≡ flat_map (carried_sum w p m es) os
run_sums w es p m t f k made [] a h r = refl
run_sums w es p m t f k made (o ∷ os) a h r =
    let now : PlanPlace → Collection = with_results k (results w t (stage_of es f o)) t in
    let names : Place → PlanPlace = placed_results k 0 (gives_of es o) f in
    let final : PlanPlace → Collection = stages_run w k (stages_of es k f (o ∷ os)) t in
    let here : stage_sum w p final (stage_of es f o) ≡ carried_sum w p m es o =
    sum_named w p m final f es o
    (Each-weaker (λ c. IsIn c made) (λ c. final (f c) ≡ m c)
    (λ c i. let q = a c i in
    run_below w k (stages_of es k f (o ∷ os)) t (f c) q.below ∙ q.same) (reads_of es o) r.0) in
    let rest : flat_map (stage_sum w p final) (stages_of es (suc k) names os)
    ≡ flat_map (carried_sum w p m es) os =
    run_sums w es p m now names (suc k) (gives_of es o ++ made) os
    (one_more w es m t f k made o a h.0 r.0) h.1 r.1 in
    ap (λ l. l ++ flat_map (stage_sum w p final) (stages_of es (suc k) names os)) here
    ∙ ap (λ l. carried_sum w p m es o ++ l) rest
