-- The channels of a class are not more than the collections of the graph: that of a mapper stands
-- for an output of its node, and what is read as it is for itself.
use Rattle.std.proofs.Common.{◌≡◌, ℕ, ◌+◌, ◌≤◌, true, false, List, [], ◌∷◌, length, Option, Some, None, refl, sym, ap, ◌∙◌, subst, arith}
use Rattle.std.proofs.lemmas.Bool.{eqb-true, eq-eqb, false≢true}
use Rattle.std.proofs.lemmas.Map.Keys.{IsDistinct-head, IsDistinct-tail}
use Rattle.std.specs.List.{AllByRecursion, IsDistinct, flat_map, list_any}
use Rattle.graph_laws.specs.of_exec_graph.Meaning.{IsThere, node_at}
use Rattle.graph_laws.specs.of_exec_graph.Readers.{same_place}
use Rattle.graph_laws.specs.of_exec_graph.declared.graph.Place.{Place}
use Rattle.graph_laws.specs.of_exec_graph.declared.graph.Node.{Node}
use Rattle.graph_laws.specs.of_exec_graph.declared.graph.Node.TheVariants.{Source, Flatten, Pdo, Gbk, Barrier}
use Rattle.graph_laws.specs.of_exec_graph.declared.graph.Entry.{Entry}
use Rattle.graph_laws.proofs.of_exec_graph.Bools.{or_else}
use Rattle.graph_laws.proofs.of_exec_graph.Solving.{there_found}
use Rattle.plan_laws.specs.declared.operations.Key.{Key}
use Rattle.plan_laws.specs.declared.operations.Key.TheVariants.{Mapper, Whole}
use Rattle.plan_laws.specs.declared.operations.Grouped.{Grouped}
use Rattle.plan_laws.specs.Operations.{IsGroupedOk, IsTakenPlace, TakesInputs, is_read_under, read_through, key_runs, IsIn}
use Rattle.plan_laws.proofs.Running.{place_same, same_self}
use Rattle.plan_rules.specs.Fitting.{IsUsed, gbk_inputs, same_key, takes_key}
use Rattle.plan_rules.proofs.Collections.{collections, node_outs}
use Rattle.plan_rules.proofs.Members.{Differ, weight}
use Rattle.plan_rules.proofs.Places.{given_has, number_has, numbers, outs_count, there_has}

-- ---- mappers, and collections as they are

abbrev pub mappers : List Key → List ℕ
mappers [] = []
mappers (Mapper n ∷ ks) = n ∷ mappers ks
mappers (Whole c ∷ ks) = mappers ks

abbrev pub wholes : List Key → List Place
wholes [] = []
wholes (Mapper n ∷ ks) = wholes ks
wholes (Whole c ∷ ks) = c ∷ wholes ks

pub keys_parted : (ks : List Key) → length ks ≡ length (mappers ks) + length (wholes ks)
keys_parted [] = refl
keys_parted (Mapper n ∷ ks) = let i = keys_parted ks in omega arith
keys_parted (Whole c ∷ ks) = let i = keys_parted ks in omega arith

other_mappers : (n : ℕ) (ks : List Key) → AllByRecursion (λ k. same_key (Mapper n) k ≡ false) ks
    → AllByRecursion (λ k. n ≡ k → ⊥) (mappers ks)
other_mappers n [] a = tt
other_mappers n (Mapper k ∷ ks) a =
    (λ e. false≢true (sym a.0 ∙ eq-eqb n k e), other_mappers n ks a.1)
other_mappers n (Whole c ∷ ks) a = other_mappers n ks a.1

other_wholes : (c : Place) (ks : List Key) → AllByRecursion (λ k. same_key (Whole c) k ≡ false) ks
    → AllByRecursion (λ d. c ≡ d → ⊥) (wholes ks)
other_wholes c [] a = tt
other_wholes c (Mapper k ∷ ks) a = other_wholes c ks a.1
other_wholes c (Whole d ∷ ks) a =
    (λ e. false≢true (sym a.0 ∙ same_self c d e), other_wholes c ks a.1)

pub mappers_differ : (ks : List Key) → IsDistinct same_key ks → Differ (mappers ks)
mappers_differ [] d = tt
mappers_differ (Mapper n ∷ ks) d = (
  other_mappers n ks (IsDistinct-head same_key (Mapper n) ks d),
  mappers_differ ks (IsDistinct-tail same_key (Mapper n) ks d),
)
mappers_differ (Whole c ∷ ks) d = mappers_differ ks (IsDistinct-tail same_key (Whole c) ks d)

pub wholes_differ : (ks : List Key) → IsDistinct same_key ks → Differ (wholes ks)
wholes_differ [] d = tt
wholes_differ (Mapper n ∷ ks) d = wholes_differ ks (IsDistinct-tail same_key (Mapper n) ks d)
wholes_differ (Whole c ∷ ks) d = (
  other_wholes c ks (IsDistinct-head same_key (Whole c) ks d),
  wholes_differ ks (IsDistinct-tail same_key (Whole c) ks d),
)

-- collections that are told apart differ
other_places : (c : Place) (cs : List Place) → AllByRecursion (λ d. same_place c d ≡ false) cs
    → AllByRecursion (λ d. c ≡ d → ⊥) cs
other_places c [] a = tt
other_places c (d ∷ ds) a =
    (λ e. false≢true (sym a.0 ∙ same_self c d e), other_places c ds a.1)

pub places_differ : (cs : List Place) → IsDistinct same_place cs → Differ cs
places_differ [] d = tt
places_differ (c ∷ cs) d = (
  other_places c cs (IsDistinct-head same_place c cs d),
  places_differ cs (IsDistinct-tail same_place c cs d),
)

-- ---- a channel that a group takes of

pub record Taken (es : List Entry) (k : Key) : Type 0 where
  pub at : Place
  pub has : is_read_under k at ≡ true
  pub there : IsThere es at

input_taken : (es : List Entry) (keys : List Key) (k : Key) (cs : List Place)
    → AllByRecursion (IsTakenPlace es keys) cs → list_any (is_read_under k) cs ≡ true → Taken es k
input_taken es keys k [] a h = absurd (false≢true h)
input_taken es keys k (c ∷ cs) a h =
    or_else (Taken es k) (is_read_under k c) (list_any (is_read_under k) cs) h
    (λ i. record { at = c; has = i; there = a.0.1 })
    (λ i. input_taken es keys k cs a.1 i)

gbk_taken : (es : List Entry) (keys : List Key) (k : Key) (o : Option Node)
    → TakesInputs es keys o → list_any (is_read_under k) (gbk_inputs es o) ≡ true → Taken es k
gbk_taken es keys k None t h = absurd t
gbk_taken es keys k (Some (Source r)) t h = absurd t
gbk_taken es keys k (Some (Flatten ins)) t h = absurd t
gbk_taken es keys k (Some (Pdo c f)) t h = absurd t
gbk_taken es keys k (Some (Gbk c o l m)) t h = input_taken es keys k (read_through es c) t h
gbk_taken es keys k (Some (Barrier ins o l a)) t h = absurd t

key_taken : (es : List Entry) (keys : List Key) (k : Key) (gs : List Grouped)
    → AllByRecursion (IsGroupedOk es keys) gs → IsUsed es gs k → Taken es k
key_taken es keys k [] a h = absurd (false≢true h)
key_taken es keys k (g ∷ gs) a h =
    or_else (Taken es k) (takes_key es k g) (list_any (takes_key es k) gs) h
    (λ i. gbk_taken es keys k (node_at es g.gbk) a.0.0 i)
    (λ i. key_taken es keys k gs a.1 i)

abbrev pub outs_of_number : List Entry → ℕ → ℕ
outs_of_number es n = outs_count (node_at es n)

has_some : {X : Type 0} (x : X) (xs : List X) → IsIn x xs → 1 ≤ length xs
has_some x [] h = absurd h
has_some x (y ∷ ys) h = omega arith

record Weighs (es : List Entry) (n : ℕ) : Type 0 where
  pub stands : IsIn n (numbers es)
  pub some : 1 ≤ outs_of_number es n

mapper_weighs : (es : List Entry) (n : ℕ) → Taken es (Mapper n) → Weighs es n
mapper_weighs es n t =
    let e : t.at.node ≡ n = sym (eqb-true n t.at.node t.has) in
    let f = there_found es t.at t.there in
    let h : node_at es n ≡ Some f.0 = ap (node_at es) (sym e) ∙ f.1 in
    let c : outs_of_number es n ≡ length (node_outs f.0) = ap outs_count h in
    let s = has_some t.at.out (node_outs f.0) (given_has f.0 t.at.out f.2) in
    record { stands = number_has es n f.0 h; some = omega arith }

whole_there : (es : List Entry) (c : Place) → Taken es (Whole c) → IsIn c (collections es)
whole_there es c t =
    subst (λ (d : Place). IsIn d (collections es)) (sym (place_same c t.at t.has))
    (there_has es t.at t.there)

abbrev pub AreTaken : List Entry → List Key → Type 0
AreTaken es ks = AllByRecursion (Taken es) ks

pub mappers_stand : (es : List Entry) (ks : List Key) → AreTaken es ks
    → AllByRecursion (λ n. IsIn n (numbers es)) (mappers ks)
mappers_stand es [] a = tt
mappers_stand es (Mapper n ∷ ks) a =
    ((mapper_weighs es n a.0).stands, mappers_stand es ks a.1)
mappers_stand es (Whole c ∷ ks) a = mappers_stand es ks a.1

pub mappers_weigh : (es : List Entry) (ks : List Key) → AreTaken es ks
    → length (mappers ks) ≤ weight (outs_of_number es) (mappers ks)
mappers_weigh es [] a = omega arith
mappers_weigh es (Mapper n ∷ ks) a =
    let s : 1 ≤ outs_of_number es n = (mapper_weighs es n a.0).some in
    let i = mappers_weigh es ks a.1 in omega arith
mappers_weigh es (Whole c ∷ ks) a = mappers_weigh es ks a.1

pub wholes_there : (es : List Entry) (ks : List Key) → AreTaken es ks
    → AllByRecursion (λ c. IsIn c (collections es)) (wholes ks)
wholes_there es [] a = tt
wholes_there es (Mapper n ∷ ks) a = wholes_there es ks a.1
wholes_there es (Whole c ∷ ks) a = (whole_there es c a.0, wholes_there es ks a.1)

pub all_taken : (es : List Entry) (keys : List Key) (gs : List Grouped) (ks : List Key)
    → AllByRecursion (IsGroupedOk es keys) gs → AllByRecursion (IsUsed es gs) ks → AreTaken es ks
all_taken es keys gs [] a u = tt
all_taken es keys gs (k ∷ ks) a u = (key_taken es keys k gs a u.0, all_taken es keys gs ks a u.1)

pub mappers_run : (ks : List Key) → mappers ks ≡ flat_map key_runs ks
mappers_run [] = refl
mappers_run (Mapper n ∷ ks) = ap (λ ns. n ∷ ns) (mappers_run ks)
mappers_run (Whole c ∷ ks) = mappers_run ks
