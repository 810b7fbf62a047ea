-- What is formed fits: channels differ and are used, and no Flatten is carried out twice.
use Rattle.std.proofs.Common.{◌≡◌, ◌<◌, ◌≤◌, ℕ, Bool, true, false, cond, ◌||◌, List, [], ◌∷◌, map, length, Option, Some, None, zero, suc, refl, sym, ap, ◌∙◌, subst, arith, inl, inr}
use Rattle.std.specs.List.{flat_map, AllByRecursion as Each}
use Rattle.flume_value.proofs.EachLemmas.{Each-append, Each-both, Each-map, Each-weaker}
use Rattle.exec_graph.specs.Forests.{Forest}
use Rattle.exec_graph.specs.Meaning.{AllDiffer, IsSound, IsThere, node_at, place}
use Rattle.exec_graph.specs.Readers.{same_place}
use Rattle.exec_graph.specs.Wellformed.{IsBlockedOk, is_object, is_object_at}
use Rattle.exec_graph.specs.declared.graph.Act.{Act}
use Rattle.exec_graph.specs.declared.graph.Act.TheVariants.{SideInput, Operate, Singleton}
use Rattle.exec_graph.specs.declared.graph.Place.{Place}
use Rattle.exec_graph.specs.declared.graph.Node.{Node}
use Rattle.exec_graph.specs.declared.graph.Node.TheVariants.{Source, Flatten, Pdo, Gbk, Barrier}
use Rattle.exec_graph.specs.declared.graph.Entry.{Entry}
use Rattle.exec_graph.specs.declared.graph.Blocked.{Blocked}
use Rattle.exec_graph.proofs.Solving.{each_found}
use Rattle.exec_graph.proofs.Soundness.{IsSound-ok}
use Rattle.plan_laws.specs.declared.operations.Key.TheVariants.{Mapper, Whole}
use Rattle.plan_laws.specs.declared.operations.Operation.{Operation}
use Rattle.plan_laws.specs.declared.operations.Operation.TheVariants.{Flat, Class}
use Rattle.plan_laws.specs.declared.operations.Key.{Key}
use Rattle.plan_laws.specs.Operations.{IsFlat, IsHonest, runs, times_named, works_at}
use Rattle.plan_rules.specs.Fitting.{AreFit, FitsEntries, IsUsed, flat_runs, same_key}
use Rattle.plan_roles.specs.Mappers.{is_mapper, is_reducer, is_stage, maps_at, places_given, passes, reducer_of}
use Rattle.plan_roles.specs.Roles.{passes_of}
use Rattle.form_laws.specs.declared.ranked.Ranked.{Ranked}
use Rattle.form_laws.specs.Classes.{IsGbk, IsGbkAt, keys_taken, class_members}
use Rattle.form_laws.specs.Formed.{AreFormed, ordered_operations}
use Rattle.form_laws.specs.Operations.{all_alone, ranked_alone, alone_of, class_keys, class_operation, class_ranked, gbk_with_reducer, key_passes, barrier_does, operations, passes_at, trivial}
use Rattle.form_laws.proofs.Basics.{absent, times_append}
use Rattle.form_laws.proofs.Classing.{AreParts, classes_part, member_gbk}
use Rattle.form_laws.proofs.Counting.{all_runs, all_true, no_mapper_keys, one_time, reads_it, reducers_none, runs_once}
use Rattle.form_laws.proofs.Forming.{ordered_keep, parts_do_all}
use Rattle.form_laws.proofs.Keying.{reducers}
use Rattle.form_laws.proofs.Ordering.{runs_of}
use Rattle.form_laws.proofs.Progress.{all_alone_so}
use Rattle.form_laws.proofs.Settling.{among_all, formed_ordered}
use Rattle.form_laws.proofs.Standing.{at_passes, outs_there, passes_there, uses_ok}
use Rattle.form_laws.proofs.Apartness.{class_some, class_used, keys_distinct, outputs_distinct, to_distinct, uses_distinct}
use Rattle.form_laws.proofs.Reducing.{all_reduced}

-- ---- what passes through is no object
pdo_outs : (b : Blocked) (n : ℕ) (d : Place) (f : Forest) (cs : List Place)
    → node_at b.graph.nodes n ≡ Some (Pdo d f)
    → Each (λ c. (c.node ≡ n) × IsThere b.graph.nodes c) cs
    → Each (λ c. is_object_at b.graph.nodes c ≡ false) cs
pdo_outs b n d f cs h a =
    Each-weaker (λ c. (c.node ≡ n) × IsThere b.graph.nodes c)
    (λ c. is_object_at b.graph.nodes c ≡ false)
    (λ c i. ap (λ (m : ℕ). is_object (node_at b.graph.nodes m)) i.0 ∙ ap is_object h) cs a

no_objects : (b : Blocked) (n : ℕ) (o : Option Node) → node_at b.graph.nodes n ≡ o
    → Each (λ c. is_object_at b.graph.nodes c ≡ false) (passes_at b n o)
no_objects b n o h =
    at_passes (Each (λ c. is_object_at b.graph.nodes c ≡ false)) b n o tt
    (λ d f i. pdo_outs b n d f (passes_of b n f) (h ∙ i)
    (passes_there b n (Some (Pdo d f)) (h ∙ i)))

passes_no : (b : Blocked) (ks : List Key)
    → Each (λ c. is_object_at b.graph.nodes c ≡ false) (flat_map (key_passes b) ks)
passes_no b [] = tt
passes_no b (Whole c ∷ ks) = passes_no b ks
passes_no b (Mapper n ∷ ks) =
    Each-append (λ c. is_object_at b.graph.nodes c ≡ false)
    (passes_at b n (node_at b.graph.nodes n)) (flat_map (key_passes b) ks)
    (no_objects b n (node_at b.graph.nodes n) refl) (passes_no b ks)

-- ---- operations
class_fit : (b : Blocked) (ns : List ℕ) → IsBlockedOk b → Each (IsGbk b) ns → 0 < length ns
    → FitsEntries b.graph.nodes (class_operation b ns)
class_fit b ns ok a h = record {
  some = class_some b ns ok.ok a h;
  differ = to_distinct same_key (class_keys b ns) (uses_distinct (flat_map (keys_taken b) ns));
  used =
      inr (uses_ok (IsUsed b.graph.nodes (map (gbk_with_reducer b) ns)) (flat_map (keys_taken b) ns)
      (class_used b ns));
  passed = to_distinct same_place (flat_map (key_passes b) (class_keys b ns))
      (keys_distinct b (class_keys b ns) (IsSound-ok b.graph ok.ok)
      (uses_distinct (flat_map (keys_taken b) ns)));
  collections = passes_no b (class_keys b ns);
  reduced = all_reduced b ns ok;
}

trivial_fit : (b : Blocked) (n : ℕ) (d : Place) (f : Forest) → IsSound b.graph
    → node_at b.graph.nodes n ≡ Some (Pdo d f) → FitsEntries b.graph.nodes (trivial n f)
trivial_fit b n d f ok h = record {
  some = omega arith;
  differ = to_distinct same_key (Mapper n ∷ []) (tt, tt);
  used = inl tt;
  passed = to_distinct same_place (places_given n f) (outputs_distinct b n d f ok h);
  collections = pdo_outs b n d f (places_given n f) h (outs_there b.graph.nodes n d f h);
  reduced = tt;
}

barrier_fit : (b : Blocked) (n : ℕ) (ins : List Place) (o : ℕ) (l : Bool) (a : Act)
    → node_at b.graph.nodes n ≡ Some (Barrier ins o l a)
    → FitsEntries b.graph.nodes (barrier_does n a)
barrier_fit b n ins o l (SideInput f) h = record {
  some = omega arith;
  differ = to_distinct same_key (Mapper n ∷ []) (tt, tt);
  used = inl tt;
  passed = to_distinct same_place (place n 0 ∷ []) (tt, tt);
  collections = (ap is_object h, tt);
  reduced = tt;
}
barrier_fit b n ins o l (Operate f) h = tt
barrier_fit b n ins o l (Singleton k) h = tt

abbrev Fits : Blocked → Ranked → Type 0
Fits b y = FitsEntries b.graph.nodes y.does

flat_fits : (b : Blocked) (n : ℕ) (s : Bool)
    → Each (Fits b) (cond s (ranked_alone b n (Flat n) ∷ []) [])
flat_fits b n true = (tt, tt)
flat_fits b n false = tt

pdo_fits : (b : Blocked) (n : ℕ) (d : Place) (f : Forest) (s : Bool) → IsSound b.graph
    → node_at b.graph.nodes n ≡ Some (Pdo d f)
    → Each (Fits b) (cond s [] (ranked_alone b n (trivial n f) ∷ []))
pdo_fits b n d f true ok h = tt
pdo_fits b n d f false ok h = (trivial_fit b n d f ok h, tt)

node_fits : (b : Blocked) (n : ℕ) (x : Node) → IsSound b.graph
    → node_at b.graph.nodes n ≡ Some x → Each (Fits b) (alone_of b n x)
node_fits b n (Source r) ok h = tt
node_fits b n (Gbk c o l k) ok h = tt
node_fits b n (Barrier ins o l a) ok h = (barrier_fit b n ins o l a h, tt)
node_fits b n (Flatten ins) ok h = flat_fits b n (is_stage b n)
node_fits b n (Pdo d f) ok h = pdo_fits b n d f (is_mapper b n || is_reducer b n) ok h

all_fit : (b : Blocked) (cs : List (List ℕ)) → IsBlockedOk b → Each (Each (IsGbk b)) cs
    → Each (λ c. 0 < length c) cs → Each (Fits b) (operations b cs)
all_fit b cs ok a h =
    let es : List Entry = b.graph.nodes in
    let sound : IsSound b.graph = IsSound-ok b.graph ok.ok in
    Each-append (Fits b) (map (class_ranked b) cs) (all_alone b es)
    (Each-map (Fits b) (class_ranked b) cs
    (Each-both (Each (IsGbk b)) (λ c. 0 < length c) (λ ns. Fits b (class_ranked b ns))
    (λ ns g l. class_fit b ns ok g l) cs a h))
    (all_alone_so b (Fits b) es
    (Each-weaker (λ e. node_at es e.number ≡ Some e.node)
    (λ e. Each (Fits b) (alone_of b e.number e.node))
    (λ e g. node_fits b e.number e.node sound g) es (each_found es sound.differ)))

-- ---- no Flatten is carried out twice
fewer : (n : ℕ) (o : Operation) → times_named n (flat_runs o) ≤ times_named n (runs o)
fewer n (Flat m) = omega arith
fewer n (Class keys groups passes) = omega arith

fewer_all : (n : ℕ) (os : List Operation)
    → times_named n (flat_map flat_runs os) ≤ times_named n (flat_map runs os)
fewer_all n [] = omega arith
fewer_all n (o ∷ os) =
    let a = times_append n (flat_runs o) (flat_map flat_runs os) in
    let c = times_append n (runs o) (flat_map runs os) in
    let f = fewer n o in
    let i = fewer_all n os in
    omega arith

flat_few : (b : Blocked) (n : ℕ) (s : Bool)
    → times_named n (runs_of (cond s (ranked_alone b n (Flat n) ∷ []) [])) ≤ 1
flat_few b n true = let o = one_time n in omega arith
flat_few b n false = omega arith

runs_few : (b : Blocked) (cs : List (List ℕ)) → AreParts b cs → (n : ℕ) (ins : List Place)
    → AllDiffer b.graph.nodes → node_at b.graph.nodes n ≡ Some (Flatten ins)
    → times_named n (runs_of (operations b cs)) ≤ 1
runs_few b cs p n ins d h =
    let all = all_runs b cs n (Flatten ins) d h in
    let ks = no_mapper_keys b n cs (ap (maps_at b n) h) in
    let gs : times_named n (class_members cs) ≡ 0 =
    none (times_named n (class_members cs)) (λ t. subst IsGbkAt h (member_gbk b cs p.gbks n t)) in
    let rs : times_named n (reducers b (class_members cs)) ≡ 0 =
    reducers_none b n (class_members cs) (all_true (λ g. reducer_of b g ≡ Some n → ⊥)
    (λ g e. reads_it b n g (Flatten ins) d h e) (class_members cs)) in
    let fs = flat_few b n (is_stage b n) in
    omega arith
  where
    none : (k : ℕ) → (0 < k → ⊥) → k ≡ 0
    none zero f = refl
    none (suc k) f = absurd (f (omega arith))

flats_each : (es : List Entry) (os : List Operation) → Each (IsHonest es) os
    → Each (λ n. IsFlat (node_at es n)) (flat_map flat_runs os)
flats_each es [] a = tt
flats_each es (Flat n ∷ os) a = (a.0, flats_each es os a.1)
flats_each es (Class keys groups passes ∷ os) a = flats_each es os a.1

flats_by : (b : Blocked) (cs : List (List ℕ)) → AreParts b cs → (n : ℕ) (o : Option Node)
    → IsSound b.graph → node_at b.graph.nodes n ≡ o
    → times_named n (flat_map flat_runs (ordered_operations b cs)) ≤ 1
flats_by b cs p n (Some (Flatten ins)) ok h =
    let r = runs_few b cs p n ins ok.differ h in
    let e = (formed_ordered b cs p ok).runs n in
    let f = fewer_all n (ordered_operations b cs) in
    omega arith
flats_by b cs p n None ok h =
    let z =
    absent (λ m. IsFlat (node_at b.graph.nodes m)) n (flat_map flat_runs (ordered_operations b cs))
    (flats_each b.graph.nodes (ordered_operations b cs) (parts_do_all b cs p ok).sound)
    (λ i. subst IsFlat h i) in
    omega arith
flats_by b cs p n (Some (Source r)) ok h =
    let z =
    absent (λ m. IsFlat (node_at b.graph.nodes m)) n (flat_map flat_runs (ordered_operations b cs))
    (flats_each b.graph.nodes (ordered_operations b cs) (parts_do_all b cs p ok).sound)
    (λ i. subst IsFlat h i) in
    omega arith
flats_by b cs p n (Some (Pdo c f)) ok h =
    let z =
    absent (λ m. IsFlat (node_at b.graph.nodes m)) n (flat_map flat_runs (ordered_operations b cs))
    (flats_each b.graph.nodes (ordered_operations b cs) (parts_do_all b cs p ok).sound)
    (λ i. subst IsFlat h i) in
    omega arith
flats_by b cs p n (Some (Gbk c o l k)) ok h =
    let z =
    absent (λ m. IsFlat (node_at b.graph.nodes m)) n (flat_map flat_runs (ordered_operations b cs))
    (flats_each b.graph.nodes (ordered_operations b cs) (parts_do_all b cs p ok).sound)
    (λ i. subst IsFlat h i) in
    omega arith
flats_by b cs p n (Some (Barrier ins o l a)) ok h =
    let r = runs_once b cs p ok.differ n (ap works_at h) in
    let e = (formed_ordered b cs p ok).runs n in
    let f = fewer_all n (ordered_operations b cs) in
    omega arith

-- ---- the law
pub formed_fit : (b : Blocked) (os : List Operation) → IsBlockedOk b → AreFormed b os
    → AreFit b.graph.nodes os
formed_fit b os ok f =
    let es : List Entry = b.graph.nodes in
    let cs : List (List ℕ) = f.classes in
    let p = classes_part b cs ok.ok.objects f.classed in
    let sound : IsSound b.graph = IsSound-ok b.graph ok.ok in
    subst (AreFit es) (sym f.ordered) (record {
      fit = ordered_keep (FitsEntries es) es _ _ (operations b cs)
          (λ y i. among_all (Fits b) (operations b cs) y
          (all_fit b cs ok f.classed.gbks f.classed.some) i);
      flats = λ n. flats_by b cs p n (node_at es n) sound refl;
    })
