-- In the plan of operations each stage reads objects where it is to read them.
use Rattle.std.proofs.Common.{◌≡◌, ℕ, ◌+◌, ◌-◌, ◌⊎◌, Bool, true, false, cond, eqb, List, [], ◌∷◌, ◌++◌, map, length, length-append, append_assoc, Option, Some, None, suc, refl, sym, ap, ◌∙◌, arith, inl, inr}
use Rattle.std.specs.List.{AllByRecursion as Each, flat_map, list_all, slice_get}
use Rattle.std.proofs.lemmas.Bool.{eqb-true}
use Rattle.flume_value.proofs.BoolLemmas.{and_both}
use Rattle.flume_value.proofs.EachLemmas.{Each-append, Each-left, Each-right, Each-weaker}
use Rattle.graph_laws.specs.of_exec_graph.Meaning.{node_at, place}
use Rattle.graph_laws.specs.of_exec_graph.Readers.{same_place}
use Rattle.graph_laws.specs.of_exec_graph.Objects.{gives_object, takes_such}
use Rattle.graph_laws.specs.of_exec_graph.Wellformed.{has_objects, is_object, is_object_at}
use Rattle.graph_laws.specs.of_exec_graph.declared.graph.Act.{Act}
use Rattle.graph_laws.specs.of_exec_graph.declared.graph.Act.TheVariants.{SideInput, Operate as Operates, Singleton}
use Rattle.graph_laws.specs.of_exec_graph.declared.graph.Place.{Place}
use Rattle.graph_laws.specs.of_exec_graph.declared.graph.Node.{Node}
use Rattle.graph_laws.specs.of_exec_graph.declared.graph.Node.TheVariants.{Source, Flatten, Pdo, Gbk, Barrier}
use Rattle.graph_laws.specs.of_exec_graph.declared.graph.Entry.{Entry}
use Rattle.plan_making.specs.of_exec_plan.declared.plan.PlanPlace.{PlanPlace}
use Rattle.plan_making.specs.of_exec_plan.declared.plan.PlanPlace.TheVariants as at
use Rattle.plan_making.specs.of_exec_plan.declared.plan.InChannel.{InChannel}
use Rattle.plan_making.specs.of_exec_plan.declared.plan.Stage.{Stage}
use Rattle.plan_making.specs.of_exec_plan.Wellformed.{has_object, stage_has_objects as stage_has, is_object_place as is_place, is_operate}
use Rattle.plan_laws.specs.declared.operations.Key.{Key}
use Rattle.plan_laws.specs.declared.operations.Key.TheVariants.{Mapper, Whole}
use Rattle.plan_laws.specs.declared.operations.Grouped.{Grouped}
use Rattle.plan_laws.specs.declared.operations.Operation.{Operation}
use Rattle.plan_laws.specs.declared.operations.Operation.TheVariants.{Flat, Class}
use Rattle.plan_laws.specs.Operations.{AreReady, IsFlat, IsGroupedOk, IsHonest, IsIn, IsKeyOk, IsOperate, IsPdo, IsReducer, IsSide, Reading, IsPdoOn, TakesInputs, channels_of, flat_inputs, flat_stage, gives_of, group_gives, channel_named, outs_at, pdo_channel, placed_results, reading_reads, reads_of, reduced, side_channel, stage_of, stages_of}
use Rattle.plan_laws.proofs.Running.{in_append, place_same, without_first}
use Rattle.plan_rules.specs.Fitting.{FitsEntries}

-- ---- what passes through is no object
abbrev pub PassesCollections : List Entry → Operation → Type 0
PassesCollections es (Flat n) = Unit {0}
PassesCollections es (Class keys gs cs) = Each (λ c. is_object_at es c ≡ false) cs

pub passes_fit : (es : List Entry) (o : Operation) → FitsEntries es o → PassesCollections es o
passes_fit es (Flat n) f = tt
passes_fit es (Class keys gs cs) f = f.collections

-- ---- the results of a stage are objects where the collections are
-- whether the operation gives objects
abbrev gives_objects : List Entry → Operation → Bool
gives_objects es (Flat n) = is_object (node_at es n)
gives_objects es (Class keys gs cs) = false

act_object : (a : Act) → IsOperate a → gives_object a ≡ true
act_object (SideInput f) h = absurd h
act_object (Operates f) h = refl
act_object (Singleton k) h = refl

flat_object : (o : Option Node) (takes : List PlanPlace) → IsFlat o
    → is_operate (Some (flat_stage o takes)) ≡ is_object o
flat_object (Some (Flatten ins)) takes h = refl
flat_object (Some (Barrier ins o l a)) takes h = sym (act_object a h)
flat_object _ takes h = absurd h

stage_object : (es : List Entry) (f : Place → PlanPlace) (o : Operation) → IsHonest es o
    → is_operate (Some (stage_of es f o)) ≡ gives_objects es o
stage_object es f (Flat n) h = flat_object (node_at es n) (map f (flat_inputs (node_at es n))) h
stage_object es f (Class keys gs cs) h = refl

map_outs : (es : List Entry) (r : ℕ) (js : List ℕ) (b : Bool) → is_object (node_at es r) ≡ b
    → Each (λ c. is_object_at es c ≡ b) (map (place r) js)
map_outs es r [] b h = tt
map_outs es r (j ∷ js) b h = (h, map_outs es r js b h)

reads_object : (d : Place) (o : Option Node) → IsPdoOn d o → is_object o ≡ false
reads_object d (Some (Pdo c f)) h = refl
reads_object d _ h = absurd h

takes_object : (es : List Entry) (keys : List Key) (o : Option Node) → TakesInputs es keys o
    → is_object o ≡ false
takes_object es keys (Some (Gbk c o l k)) h = refl
takes_object es keys _ h = absurd h

reduced_objects : (es : List Entry) (n : ℕ) (r : Option ℕ) → is_object (node_at es n) ≡ false
    → IsReducer es n r → Each (λ c. is_object_at es c ≡ false) (reduced es n r)
reduced_objects es n None g h = (g, tt)
reduced_objects es n (Some r) g h =
    map_outs es r (outs_at (node_at es r)) false (reads_object (place n 0) (node_at es r) h)

groups_objects : (es : List Entry) (keys : List Key) (gs : List Grouped)
    → Each (IsGroupedOk es keys) gs
    → Each (λ c. is_object_at es c ≡ false) (flat_map (group_gives es) gs)
groups_objects es keys [] h = tt
groups_objects es keys (g ∷ gs) h =
    Each-append (λ c. is_object_at es c ≡ false) (group_gives es g) (flat_map (group_gives es) gs)
    (reduced_objects es g.gbk g.reducer (takes_object es keys (node_at es g.gbk) h.0.0) h.0.1)
    (groups_objects es keys gs h.1)

given_objects : (es : List Entry) (o : Operation) → IsHonest es o → PassesCollections es o
    → Each (λ c. is_object_at es c ≡ gives_objects es o) (gives_of es o)
given_objects es (Flat n) h p = (refl, tt)
given_objects es (Class keys gs cs) h p =
    Each-append (λ c. is_object_at es c ≡ false) (flat_map (group_gives es) gs) cs
    (groups_objects es keys gs h.1) p

-- ---- where collections are named
abbrev pub ObjectsAt : List ℕ → List Stage → List Entry → (Place → PlanPlace) → List Place → Type 0
ObjectsAt objects all es f made =
    (c : Place) → IsIn c made → is_place objects all (f c) ≡ is_object_at es c

result_by : (all : List Stage) (k : ℕ) (s : Stage) (b : Bool) → eqb k 0 ≡ b
    → slice_get all (k - 1) ≡ Some s → (k ≡ 0 → ⊥)
    → cond b false (is_operate (slice_get all (k - 1))) ≡ is_operate (Some s)
result_by all k s true i h n = absurd (n (eqb-true k 0 i))
result_by all k s false i h n = ap is_operate h

placed_object : (objects : List ℕ) (all : List Stage) (es : List Entry) (f : Place → PlanPlace)
    (k i : ℕ) (ds : List Place) (b : Bool) (c : Place)
    → ((j : ℕ) → is_place objects all (at.Result k j) ≡ b)
    → Each (λ d. is_object_at es d ≡ b) ds
    → IsIn c ds ⊎ (is_place objects all (f c) ≡ is_object_at es c)
    → is_place objects all (placed_results k i ds f c) ≡ is_object_at es c
placed_object objects all es f k i [] b c r a (inl h) = absurd h
placed_object objects all es f k i [] b c r a (inr h) = h
placed_object objects all es f k i (d ∷ ds) b c r a h = by (same_place d c) refl
    (λ e. placed_object objects all es f k (suc i) ds b c r a.1 (without_first d ds c e h))
  where
    by : (t : Bool) → same_place d c ≡ t
        → (same_place d c ≡ false
        → is_place objects all (placed_results k (suc i) ds f c) ≡ is_object_at es c)
        → is_place objects all (cond t (at.Result k i) (placed_results k (suc i) ds f c))
        ≡ is_object_at es c
    by true e g = r i ∙ sym a.0 ∙ ap (is_object_at es) (place_same d c e)
    by false e g = g e

-- ---- what a stage reads
flags_named : (objects : List ℕ) (all : List Stage) (es : List Entry) (f : Place → PlanPlace)
    (cs : List Place) → Each (λ c. is_place objects all (f c) ≡ is_object_at es c) cs
    → map (is_place objects all) (map f cs) ≡ map (is_object_at es) cs
flags_named objects all es f [] a = refl
flags_named objects all es f (c ∷ cs) a =
    let i = flags_named objects all es f cs a.1 in
    let j : is_place objects all (f c) ≡ is_object_at es c = a.0 in cc

flat_has : (objects : List ℕ) (all : List Stage) (es : List Entry) (f : Place → PlanPlace)
    (o : Option Node) → IsFlat o
    → ((x : Node) → o ≡ Some x → has_objects es x ≡ true)
    → Each (λ c. is_place objects all (f c) ≡ is_object_at es c) (flat_inputs o)
    → stage_has objects all (flat_stage o (map f (flat_inputs o))) ≡ true
flat_has objects all es f None h g a = absurd h
flat_has objects all es f (Some (Source s)) h g a = absurd h
flat_has objects all es f (Some (Flatten ins)) h g a = refl
flat_has objects all es f (Some (Pdo c t)) h g a = absurd h
flat_has objects all es f (Some (Gbk c o l k)) h g a = absurd h
flat_has objects all es f (Some (Barrier ins o l d)) h g a =
    and_both (gives_object d) (takes_such d (map (is_place objects all) (map f ins)))
    (act_object d h)
    (ap (takes_such d) (flags_named objects all es f ins a) ∙ g (Barrier ins o l d) refl)

side_object : (objects : List ℕ) (all : List Stage) (es : List Entry) (f : Place → PlanPlace)
    (n o : ℕ) (l : Bool) (a : Act) (ins : List Place) → IsSide a ins
    → takes_such a (map (is_object_at es) ins) ≡ true
    → Each (λ c. is_place objects all (f c) ≡ is_object_at es c)
    (reading_reads (side_channel n o l a ins))
    → has_object objects all (channel_named f (side_channel n o l a ins)).beside ≡ true
side_object objects all es f n o l (SideInput h) [] i g e = absurd i
side_object objects all es f n o l (SideInput h) (c ∷ []) i g e = absurd i
side_object objects all es f n o l (SideInput h) (c ∷ (d ∷ [])) i g e = e.1.0 ∙ g
side_object objects all es f n o l (SideInput h) (c ∷ (d ∷ (x ∷ xs))) i g e = absurd i
side_object objects all es f n o l (Operates h) ins i g e = absurd i
side_object objects all es f n o l (Singleton k) ins i g e = absurd i

pdo_object : (objects : List ℕ) (all : List Stage) (es : List Entry) (f : Place → PlanPlace)
    (n : ℕ) (o : Option Node) → IsPdo o → ((x : Node) → o ≡ Some x → has_objects es x ≡ true)
    → Each (λ c. is_place objects all (f c) ≡ is_object_at es c) (reading_reads (pdo_channel n o))
    → has_object objects all (channel_named f (pdo_channel n o)).beside ≡ true
pdo_object objects all es f n None h g a = absurd h
pdo_object objects all es f n (Some (Source s)) h g a = absurd h
pdo_object objects all es f n (Some (Flatten ins)) h g a = absurd h
pdo_object objects all es f n (Some (Pdo c t)) h g a = refl
pdo_object objects all es f n (Some (Gbk c o l k)) h g a = absurd h
pdo_object objects all es f n (Some (Barrier ins o l d)) h g a =
    side_object objects all es f n o l d ins h (g (Barrier ins o l d) refl) a

channels_have : (objects : List ℕ) (all : List Stage) (es : List Entry) (f : Place → PlanPlace)
    (ks : List Key) → Each (IsKeyOk es) ks
    → ((n : ℕ) (x : Node) → node_at es n ≡ Some x → has_objects es x ≡ true)
    → Each (λ c. is_place objects all (f c) ≡ is_object_at es c)
    (flat_map reading_reads (channels_of es ks))
    → list_all (λ (c : InChannel). has_object objects all c.beside)
    (map (channel_named f) (channels_of es ks)) ≡ true
channels_have objects all es f [] ok g a = refl
channels_have objects all es f (Whole c ∷ ks) ok g a =
    channels_have objects all es f ks ok.1 g a.1
channels_have objects all es f (Mapper n ∷ ks) ok g a =
    let P : Place → Type 0 = λ c. is_place objects all (f c) ≡ is_object_at es c in
    let r : Reading = pdo_channel n (node_at es n) in
    let more : List Place = flat_map reading_reads (channels_of es ks) in
    and_both (has_object objects all (channel_named f r).beside)
    (list_all (λ (c : InChannel). has_object objects all c.beside)
    (map (channel_named f) (channels_of es ks)))
    (pdo_object objects all es f n (node_at es n) ok.0 (λ x e. g n x e)
    (Each-left P (reading_reads r) more a))
    (channels_have objects all es f ks ok.1 g (Each-right P (reading_reads r) more a))

stage_reads_objects : (objects : List ℕ) (all : List Stage) (es : List Entry)
    (f : Place → PlanPlace) (o : Operation) → IsHonest es o
    → ((n : ℕ) (x : Node) → node_at es n ≡ Some x → has_objects es x ≡ true)
    → Each (λ c. is_place objects all (f c) ≡ is_object_at es c) (reads_of es o)
    → stage_has objects all (stage_of es f o) ≡ true
stage_reads_objects objects all es f (Flat n) h g a =
    flat_has objects all es f (node_at es n) h (λ x e. g n x e) a
stage_reads_objects objects all es f (Class keys gs cs) h g a =
    channels_have objects all es f keys h.0 g a

-- ---- all stages
here_stage : (before : List Stage) (s : Stage) (more : List Stage)
    → slice_get (before ++ s ∷ more) (length before) ≡ Some s
here_stage [] s more = refl
here_stage (x ∷ xs) s more = here_stage xs s more

pub all_have : (objects : List ℕ) (all : List Stage) (es : List Entry) (before : List Stage) (k : ℕ)
    (f : Place → PlanPlace) (made : List Place) (os : List Operation)
    → ((n : ℕ) (x : Node) → node_at es n ≡ Some x → has_objects es x ≡ true)
    → k ≡ suc (length before) → all ≡ before ++ stages_of es k f os
    → ObjectsAt objects all es f made → Each (IsHonest es) os → Each (PassesCollections es) os
    → AreReady es made os
    → Each (λ s. stage_has objects all s ≡ true) (stages_of es k f os)
all_have objects all es before k f made [] g e same m h p r = tt
all_have objects all es before k f made (o ∷ os) g e same m h p r =
    let st : Stage = stage_of es f o in
    let names : Place → PlanPlace = placed_results k 0 (gives_of es o) f in
    let more : List Stage = stages_of es (suc k) names os in
    let less : k - 1 ≡ length before = omega arith in
    let found : slice_get all (k - 1) ≡ Some st =
    ap (slice_get all) less ∙ ap (λ (l : List Stage). slice_get l (length before)) same
    ∙ here_stage before st more in
    let result : (j : ℕ) → is_place objects all (at.Result k j) ≡ gives_objects es o =
    λ j. result_by all k st (eqb k 0) refl found (λ z. omega arith) ∙ stage_object es f o h.0 in
    let next : ObjectsAt objects all es names (gives_of es o ++ made) =
    λ c i. placed_object objects all es f k 0 (gives_of es o) (gives_objects es o) c result
    (given_objects es o h.0 p.0)
    (elim (in_append c (gives_of es o) made i) [ inl j ↦ inl j | inr j ↦ inr (m c j) ]) in
    let long = length-append before (st ∷ []) in (
      stage_reads_objects objects all es f o h.0 g
          (Each-weaker (λ c. IsIn c made) (λ c. is_place objects all (f c) ≡ is_object_at es c)
          m (reads_of es o) r.0),
      all_have objects all es (before ++ st ∷ []) (suc k) names (gives_of es o ++ made) os g
          (omega arith) (same ∙ sym (append_assoc before (st ∷ []) more)) next h.1 p.1 r.1,
    )
