-- An operation that stands for nodes of a graph carries out what the graph means.
use Rattle.std.proofs.Common.{◌≡◌, ℕ, ◌+◌, Bool, true, false, cond, ◌||◌, List, [], ◌∷◌, ◌++◌, map, Option, Some, None, suc, refl, sym, ap, ◌∙◌, subst, inl, inr}
use Rattle.std.proofs.lemmas.Bool.{eqb-true, eq-eqb, false≢true}
use Rattle.std.proofs.lemmas.List.Concat.{flat_map-append}
use Rattle.std.proofs.lemmas.List.{map-append}
use Rattle.std.specs.List.{flat_map, AllByRecursion as Each, slice_get}
use Rattle.exec_plan.proofs.of_flume_value.EachLemmas.{Each-append, Each-weaker}
use Rattle.exec_plan.specs.of_flume_collection.Collection.{Collection, together, by_key}
use Rattle.exec_plan.specs.of_exec_graph.World.{World}
use Rattle.exec_plan.specs.of_exec_graph.Calls.{called}
use Rattle.exec_plan.specs.of_exec_graph.Objects.{act_result, side_input}
use Rattle.exec_plan.specs.of_exec_graph.declared.graph.Act.{Act}
use Rattle.exec_plan.specs.of_exec_graph.declared.graph.Act.TheVariants.{SideInput, Operate as Operates, Singleton}
use Rattle.exec_plan.specs.of_exec_graph.declared.step.Does.TheVariants as does
use Rattle.exec_plan.proofs.of_exec_graph.Barriers.{barrier_side_input}
use Rattle.exec_plan.proofs.of_exec_graph.StepFacts.{called_is}
use Rattle.exec_plan.specs.of_flume_collection.Calls.{Called, passed}
use Rattle.exec_plan.specs.of_flume_value.declared.value.Value.{Value}
use Rattle.exec_plan.specs.of_exec_graph.Forests.{Label, Forest, Bare, Grow}
use Rattle.exec_plan.specs.of_exec_graph.Meaning.{through, place, IsGivenToKept, FitsForest, Holds, Meets, node_at, reads, is_out, has_out, gives_at, IsThere, first, out_of, or_nothing}
use Rattle.exec_plan.specs.of_exec_graph.declared.graph.Place.{Place}
use Rattle.exec_plan.specs.of_exec_graph.declared.graph.Node.{Node}
use Rattle.exec_plan.specs.of_exec_graph.declared.graph.Node.TheVariants.{Source, Flatten, Pdo, Gbk, Barrier}
use Rattle.exec_plan.specs.of_exec_graph.declared.graph.Entry.{Entry}
use Rattle.exec_plan.proofs.of_exec_graph.Entries.{all_found}
use Rattle.exec_plan.proofs.of_exec_graph.Bools.{or_left, or_right}
use Rattle.exec_plan.proofs.of_exec_graph.Solving.{out_lacks, kept_value as kept_at}
use Rattle.exec_plan.specs.declared.plan.OutChannel.{OutChannel}
use Rattle.exec_plan.specs.declared.plan.OutChannel.TheVariants.{Group, Pass}
use Rattle.exec_plan.specs.Channels.{Fed, value_on, world_in, kept_out, outs_of, output_numbers_of, output_of, channel_out, taken, groups, channel_gives}
use Rattle.exec_plan.specs.Wellformed.{results_given}
use Rattle.plan_laws.specs.declared.operations.Key.{Key}
use Rattle.plan_laws.specs.declared.operations.Key.TheVariants.{Mapper, Whole}
use Rattle.plan_laws.specs.declared.operations.Grouped.{Grouped}
use Rattle.plan_laws.specs.declared.operations.Operation.{Operation}
use Rattle.plan_laws.specs.declared.operations.Operation.TheVariants.{Flat, Class}
use Rattle.plan_laws.specs.Operations.{HasKey, IsFlat, IsGroupedOk, IsHonest, IsKeyOk, IsPdo, IsReducer, IsSide, IsTakenPlace, one_call, side_channel, IsPdoOn, TakesInputs, channel_of, channels_of, flat_inputs, forest_in, group_at, group_gives, group_channel, is_read_under, inputs_at, read_through, key_out, numbered_out, numbered_outs, out_in, outs_at, pass_of, pdo_channel, position, reduced, reducer_forest, take_of, channel_valued}
use Rattle.plan_laws.proofs.Running.{Carries, flat_value, place_same}

-- the input channels with what they read
abbrev pub feeds : (Place → Collection) → List Entry → List Key → List Fed
feeds m es keys = map (channel_valued m) (channels_of es keys)

-- ---- the outputs of a forest
either_found : (a b : Option Collection) (x y : Bool) (u : Collection) → (x || y) ≡ true
    → (x ≡ true → a ≡ Some u) → (x ≡ false → a ≡ None) → (y ≡ true → b ≡ Some u) → first a b
    ≡ Some u
either_found a b true y u h f n g = ap (λ (o : Option Collection). first o b) (f refl)
either_found a b false y u h f n g = ap (λ (o : Option Collection). first o b) (n refl) ∙ g h

found_by : (w : World) (m : Place → Collection) (n j : ℕ) (v : Collection) (l : Label)
    (o : Option Collection) (b : Bool) → is_out l.out j ≡ b
    → IsGivenToKept m n l.out (through w l v)
    → (b ≡ false → o ≡ Some (m (place n j))) → cond b (Some (through w l v)) o
    ≡ Some (m (place n j))
found_by w m n j v l o true h k r = ap (λ (c : Collection). Some c)
    (sym (kept_at m n j l.out (through w l v) h k))
found_by w m n j v l o false h k r = r refl

pub without : (a b : Bool) → (a || b) ≡ true → a ≡ false → b ≡ true
without a b h e = (rw e at h)

-- an output that the forest keeps is what m says of it
out_is : (w : World) (m : Place → Collection) (n : ℕ) (v : Collection) (f : Forest) (j : ℕ)
    → FitsForest w m n v f → has_out j f ≡ true → out_of w v f j ≡ Some (m (place n j))
out_is w m n v Bare j a h = absurd (false≢true h)
out_is w m n v (Grow l kids rest) j a h =
    found_by w m n j v l (first (out_of w (through w l v) kids j) (out_of w v rest j))
    (is_out l.out j) refl a.0 (λ e.
    either_found (out_of w (through w l v) kids j) (out_of w v rest j) (has_out j kids)
    (has_out j rest) (m (place n j)) (without (is_out l.out j) (has_out j kids || has_out j rest) h
    e)
    (λ i. out_is w m n (through w l v) kids j a.1 i) (λ i. out_lacks w (through w l v) kids j i)
    (λ i. out_is w m n v rest j a.2 i))

-- each number of the list is an output
outs_kept : (o : Option ℕ) (P : ℕ → Type 0) → ((j : ℕ) → is_out o j ≡ true → P j)
    → Each P (kept_out o)
outs_kept None P h = tt
outs_kept (Some j) P h = (h j (eq-eqb j j refl), tt)

pub outs_has : (f : Forest) → Each (λ j. has_out j f ≡ true) (outs_of f)
outs_has Bare = tt
outs_has (Grow l kids rest) =
    let P : ℕ → Type 0 = λ j. has_out j (Grow l kids rest) ≡ true in
    Each-append P (kept_out l.out) (outs_of kids ++ outs_of rest)
    (outs_kept l.out P (λ j h. or_left (is_out l.out j) (has_out j kids || has_out j rest) h))
    (Each-append P (outs_of kids) (outs_of rest)
    (Each-weaker (λ j. has_out j kids ≡ true) P (λ j h. or_right (is_out l.out j) (has_out j kids
    || has_out j rest) (or_left (has_out j kids) (has_out j rest) h)) (outs_of kids)
    (outs_has kids))
    (Each-weaker (λ j. has_out j rest ≡ true) P (λ j h. or_right (is_out l.out j) (has_out j kids
    || has_out j rest) (or_right (has_out j kids) (has_out j rest) h)) (outs_of rest)
    (outs_has rest)))

outs_same : (w : World) (m : Place → Collection) (n : ℕ) (v : Collection) (f : Forest) (js : List ℕ)
    → FitsForest w m n v f → Each (λ j. has_out j f ≡ true) js → map (output_of w v (Some f)) js
    ≡ map m (map (place n) js)
outs_same w m n v f [] a h = refl
outs_same w m n v f (j ∷ js) a h =
    let i : map (output_of w v (Some f)) js ≡ map m (map (place n) js) = outs_same w m n v f js a
    h.1 in
    let e : output_of w v (Some f) j ≡ m (place n j) = ap or_nothing (out_is w m n v f j a h.0) in
    cc

-- ---- a step beside an object
pub side_is : (w : World) (o : ℕ) (l : Bool) (f : ℕ) (c d : Collection)
    → through (world_in w (Some d))
    (record { origin = o; last = l; does = does.Call f; at = 0; out = Some 0 })
    (value_on c (Some d)) ≡ side_input w o f c d
side_is w o l f c d =
    let u : World = world_in w (Some d) in
    let same : called u (does.Call f) ≡ u.called f = λ i x. called_is (does.Call f) u x i in
    ap (λ (g : Value → Called). passed o 0 g (value_on c (Some d))) same

side_through : (w : World) (o : ℕ) (l : Bool) (f : ℕ) (c d : Collection)
    → output_of (world_in w (Some d)) (value_on c (Some d)) (Some (one_call o l f)) 0
    ≡ side_input w o f c d
side_through w o l f c d = side_is w o l f c d

-- ---- what a channel takes
pub holds_at : (w : World) (m : Place → Collection) (es : List Entry) (n : ℕ) (x : Node)
    → Meets w es m → node_at es n ≡ Some x → Holds w m n x
holds_at w m es n x a h = all_found (λ e. Holds w m e.number e.node) es n x h a

place_is : (c : Place) (n : ℕ) → n ≡ c.node → place n c.out ≡ c
place_is c n h = ap (λ (k : ℕ). place k c.out) h

-- what an input channel gives to an output
abbrev pub fed_out : World → Fed → ℕ → Collection
fed_out w r j = output_of (world_in w r.beside) (value_on r.value r.beside) r.does j

side_out : (w : World) (m : Place → Collection) (n o : ℕ) (l : Bool) (a : Act) (ins : List Place)
    (j : ℕ) → IsSide a ins → m (place n 0) ≡ act_result w o a (map m ins) → j ≡ 0
    → fed_out w (channel_valued m (side_channel n o l a ins)) j ≡ m (place n j)
side_out w m n o l (SideInput f) [] j i h e = absurd i
side_out w m n o l (SideInput f) (c ∷ []) j i h e = absurd i
side_out w m n o l (SideInput f) (c ∷ (d ∷ [])) j i h e =
    let r : Fed = channel_valued m (side_channel n o l (SideInput f) (c ∷ (d ∷ []))) in
    ap (fed_out w r) e ∙ side_through w o l f (m c) (m d)
    ∙ sym (h ∙ barrier_side_input w o f (m c) (m d)) ∙ ap (λ (k : ℕ). m (place n k)) (sym e)
side_out w m n o l (SideInput f) (c ∷ (d ∷ (x ∷ xs))) j i h e = absurd i
side_out w m n o l (Operates f) ins j i h e = absurd i
side_out w m n o l (Singleton k) ins j i h e = absurd i

mapper_out : (w : World) (m : Place → Collection) (es : List Entry) (n : ℕ) (c : Place)
    (o : Option Node) → Meets w es m → node_at es n ≡ o → IsPdo o → gives_at o c.out ≡ true
    → fed_out w (channel_valued m (pdo_channel n o)) c.out ≡ m (place n c.out)
mapper_out w m es n c None a h p t = absurd p
mapper_out w m es n c (Some (Source r)) a h p t = absurd p
mapper_out w m es n c (Some (Flatten ins)) a h p t = absurd p
mapper_out w m es n c (Some (Gbk d x l k)) a h p t = absurd p
mapper_out w m es n c (Some (Barrier ins x l d)) a h p t =
    side_out w m n x l d ins c.out p (holds_at w m es n (Barrier ins x l d) a h)
    (eqb-true c.out 0 t)
mapper_out w m es n c (Some (Pdo d f)) a h p t = ap or_nothing (out_is w m n (m d) f c.out
    (holds_at w m es n (Pdo d f) a h) t)

key_value : (w : World) (m : Place → Collection) (es : List Entry) (k : Key) (c : Place)
    → Meets w es m → IsKeyOk es k → IsThere es c → is_read_under k c ≡ true
    → fed_out w (channel_valued m (channel_of es k)) (key_out k c) ≡ m c
key_value w m es (Mapper n) c a ok t h =
    let e : n ≡ c.node = eqb-true n c.node h in
    mapper_out w m es n c (node_at es n) a refl ok (ap (λ (x : ℕ). gives_at (node_at es x) c.out) e
    ∙ t) ∙ ap m (place_is c n e)
key_value w m es (Whole d) c a ok t h = ap m (place_same d c h)

taken_by : (w : World) (m : Place → Collection) (es : List Entry) (k : Key) (ks : List Key)
    (c : Place) (b : Bool) → is_read_under k c ≡ b → Meets w es m → IsKeyOk es k → IsThere es c
    → (b ≡ false → channel_out w (slice_get (feeds m es ks) (position ks c)) (out_in ks c) ≡ m c)
    → channel_out w (slice_get (channel_valued m (channel_of es k) ∷ feeds m es ks)
    (cond b 0 (suc (position ks c)))) (cond b (key_out k c) (out_in ks c)) ≡ m c
taken_by w m es k ks c true h a ok t r = key_value w m es k c a ok t h
taken_by w m es k ks c false h a ok t r = r refl

pub behind : (k : Key) (ks : List Key) (c : Place) → is_read_under k c ≡ false → HasKey (k ∷ ks) c
    → HasKey ks c
behind k ks c e (inl h) = absurd (false≢true (sym e ∙ h))
behind k ks c e (inr h) = h

taken_is : (w : World) (m : Place → Collection) (es : List Entry) (keys : List Key) (c : Place)
    → Meets w es m → Each (IsKeyOk es) keys → IsThere es c → HasKey keys c
    → taken w (feeds m es keys) (take_of keys c) ≡ m c
taken_is w m es [] c a ok t h = absurd h
taken_is w m es (k ∷ ks) c a ok t h = taken_by w m es k ks c (is_read_under k c) refl a ok.0 t
    (λ e. taken_is w m es ks c a ok.1 t (behind k ks c e h))

takes_are : (w : World) (m : Place → Collection) (es : List Entry) (keys : List Key)
    (cs : List Place) → Meets w es m → Each (IsKeyOk es) keys → Each (IsTakenPlace es keys) cs
    → map (taken w (feeds m es keys)) (map (take_of keys) cs) ≡ map m cs
takes_are w m es keys [] a ok h = refl
takes_are w m es keys (c ∷ cs) a ok h =
    let i : map (taken w (feeds m es keys)) (map (take_of keys) cs) ≡ map m cs = takes_are w m es
    keys cs a ok h.1 in
    let e : taken w (feeds m es keys) (take_of keys c) ≡ m c = taken_is w m es keys c a ok h.0.1
    h.0.0 in
    cc

-- ---- a grouping channel
-- the sum of one collection is the collection
abbrev pub IsPlain : (Place → Collection) → Type 0
IsPlain m = (c : Place) → together (m c ∷ []) ≡ m c

inputs_sum : (w : World) (m : Place → Collection) (es : List Entry) (c : Place) (o : Option Node)
    → IsPlain m → Meets w es m → node_at es c.node ≡ o → gives_at o c.out ≡ true
    → together (map m (inputs_at c o)) ≡ m c
inputs_sum w m es c None p a h t = p c
inputs_sum w m es c (Some (Source r)) p a h t = p c
inputs_sum w m es c (Some (Flatten ins)) p a h t =
    sym (holds_at w m es c.node (Flatten ins) a h) ∙ ap (λ (j : ℕ). m (place c.node j))
    (sym (eqb-true c.out 0 t))
inputs_sum w m es c (Some (Pdo d f)) p a h t = p c
inputs_sum w m es c (Some (Gbk d x l k)) p a h t = p c
inputs_sum w m es c (Some (Barrier ins x l d)) p a h t = p c

reducer_at : (w : World) (m : Place → Collection) (es : List Entry) (n r : ℕ) (o : Option Node)
    → Meets w es m → node_at es r ≡ o → IsPdoOn (place n 0) o → map (output_of w (m (place n 0))
    (forest_in o)) (output_numbers_of (forest_in o)) ≡ map m (map (place r) (outs_at o))
reducer_at w m es n r None a h p = absurd p
reducer_at w m es n r (Some (Source s)) a h p = absurd p
reducer_at w m es n r (Some (Flatten ins)) a h p = absurd p
reducer_at w m es n r (Some (Gbk d x l k)) a h p = absurd p
reducer_at w m es n r (Some (Barrier ins x l d)) a h p = absurd p
reducer_at w m es n r (Some (Pdo d f)) a h p =
    outs_same w m r (m (place n 0)) f (outs_of f) (subst (λ (c : Place). FitsForest w m r (m c) f) p
    (holds_at w m es r (Pdo d f) a h)) (outs_has f)

reduced_is : (w : World) (m : Place → Collection) (es : List Entry) (n : ℕ) (r : Option ℕ)
    → Meets w es m → IsReducer es n r → map (output_of w (m (place n 0)) (reducer_forest es r))
    (output_numbers_of (reducer_forest es r)) ≡ map m (reduced es n r)
reduced_is w m es n None a h = refl
reduced_is w m es n (Some r) a h = reducer_at w m es n r (node_at es r) a refl h

-- what the Gbk reads is there
abbrev pub InputThere : List Entry → Option Node → Type 0
InputThere es (Some (Gbk c o l k)) = IsThere es c
InputThere es o = Unit {0}

pub group_at_is : (w : World) (m : Place → Collection) (es : List Entry) (keys : List Key) (n : ℕ)
    (r : Option ℕ) (o : Option Node) → IsPlain m → Meets w es m → Each (IsKeyOk es) keys
    → node_at es n ≡ o → InputThere es o → TakesInputs es keys o → groups w (feeds m es keys)
    (group_at es keys r o) ≡ m (place n 0)
group_at_is w m es keys n r None p a ok h t i = absurd i
group_at_is w m es keys n r (Some (Source s)) p a ok h t i = absurd i
group_at_is w m es keys n r (Some (Flatten ins)) p a ok h t i = absurd i
group_at_is w m es keys n r (Some (Pdo d f)) p a ok h t i = absurd i
group_at_is w m es keys n r (Some (Gbk c x l k)) p a ok h t i =
    ap (λ (cs : List Collection). by_key (together cs))
    (takes_are w m es keys (read_through es c) a ok
    i)
    ∙ ap (by_key) (inputs_sum w m es c (node_at es c.node) p a refl t)
    ∙ sym (holds_at w m es n (Gbk c x l k) a h)
group_at_is w m es keys n r (Some (Barrier ins x l d)) p a ok h t i = absurd i

pub group_does : (es : List Entry) (keys : List Key) (r : Option ℕ) (o : Option Node) → TakesInputs
    es keys o → (group_at es keys r o).does ≡ reducer_forest es r
group_does es keys r None i = absurd i
group_does es keys r (Some (Source s)) i = absurd i
group_does es keys r (Some (Flatten ins)) i = absurd i
group_does es keys r (Some (Pdo d f)) i = absurd i
group_does es keys r (Some (Gbk c x l k)) i = refl
group_does es keys r (Some (Barrier ins x l d)) i = absurd i

-- each node reads what is there
pub there_at : (es : List Entry) (n : ℕ) (o : Option Node) → node_at es n ≡ o
    → Each (λ e. Each (IsThere es) (reads e.node)) es → InputThere es o
there_at es n None h a = tt
there_at es n (Some (Source s)) h a = tt
there_at es n (Some (Flatten ins)) h a = tt
there_at es n (Some (Pdo d f)) h a = tt
there_at es n (Some (Gbk c x l k)) h a = (all_found (λ e. Each (IsThere es) (reads e.node)) es n
    (Gbk c x l k) h a).0
there_at es n (Some (Barrier ins x l d)) h a = tt

group_is : (w : World) (m : Place → Collection) (es : List Entry) (keys : List Key) (g : Grouped)
    → IsPlain m → Meets w es m → Each (IsKeyOk es) keys
    → Each (λ e. Each (IsThere es) (reads e.node)) es → IsGroupedOk es keys g
    → channel_gives w (feeds m es keys) (group_channel es keys g) ≡ map m (group_gives es g)
group_is w m es keys g p a ok t i =
    ap (λ (f : Option Forest). map
    (output_of w (groups w (feeds m es keys) (group_at es keys g.reducer (node_at es g.gbk))) f)
    (output_numbers_of f)) (group_does es keys g.reducer (node_at es g.gbk) i.0)
    ∙ ap (λ (v : Collection). map (output_of w v (reducer_forest es g.reducer))
    (output_numbers_of (reducer_forest es g.reducer))) (group_at_is w m es keys g.gbk g.reducer
    (node_at es g.gbk)
    p a ok refl (there_at es g.gbk (node_at es g.gbk) refl t) i.0)
    ∙ reduced_is w m es g.gbk g.reducer a i.1

groups_are : (w : World) (m : Place → Collection) (es : List Entry) (keys : List Key)
    (gs : List Grouped) → IsPlain m → Meets w es m → Each (IsKeyOk es) keys
    → Each (λ e. Each (IsThere es) (reads e.node)) es → Each (IsGroupedOk es keys) gs
    → flat_map (channel_gives w (feeds m es keys)) (map (group_channel es keys) gs)
    ≡ map m (flat_map (group_gives es) gs)
groups_are w m es keys [] p a ok t i = refl
groups_are w m es keys (g ∷ gs) p a ok t i =
    let x : flat_map (channel_gives w (feeds m es keys)) (map (group_channel es keys) gs)
    ≡ map m (flat_map (group_gives es) gs) = groups_are w m es keys gs p a ok t i.1 in
    let y : channel_gives w (feeds m es keys) (group_channel es keys g) ≡ map m (group_gives es g) =
    group_is w m
    es keys g p a ok t i.0 in
    rw map-append (rw x (rw y refl))

passes_are : (w : World) (m : Place → Collection) (es : List Entry) (keys : List Key)
    (cs : List Place) → Meets w es m → Each (IsKeyOk es) keys → Each (IsTakenPlace es keys) cs
    → flat_map (channel_gives w (feeds m es keys)) (map (pass_of keys) cs) ≡ map m cs
passes_are w m es keys [] a ok h = refl
passes_are w m es keys (c ∷ cs) a ok h =
    let i : flat_map (channel_gives w (feeds m es keys)) (map (pass_of keys) cs) ≡ map m cs =
    passes_are w m
    es keys cs a ok h.1 in
    let e : taken w (feeds m es keys) (take_of keys c) ≡ m c = taken_is w m es keys c a ok h.0.1
    h.0.0 in
    cc

-- the numbers of the results say nothing of what they are
given_numbered : (w : World) (ins : List Fed) (n : ℕ) (o : OutChannel) → channel_gives w ins
    (numbered_out n o) ≡ channel_gives w ins o
given_numbered w ins n (Group g) = refl
given_numbered w ins n (Pass k i) = refl

all_numbered : (w : World) (ins : List Fed) (n : ℕ) (os : List OutChannel)
    → flat_map (channel_gives w ins)
    (numbered_outs n os) ≡ flat_map (channel_gives w ins) os
all_numbered w ins n [] = refl
all_numbered w ins n (o ∷ os) =
    let i = all_numbered w ins (n + results_given o) os in
    let e = given_numbered w ins n o in
    cc

flat_is : (w : World) (m : Place → Collection) (es : List Entry) (n : ℕ) (o : Option Node)
    → Meets w es m → node_at es n ≡ o → IsFlat o
    → flat_value w o (map m (flat_inputs o)) ∷ [] ≡ m (place n 0) ∷ []
flat_is w m es n None a h i = absurd i
flat_is w m es n (Some (Source s)) a h i = absurd i
flat_is w m es n (Some (Pdo d f)) a h i = absurd i
flat_is w m es n (Some (Gbk c x l k)) a h i = absurd i
flat_is w m es n (Some (Barrier ins x l d)) a h i = ap (λ (c : Collection). c ∷ [])
    (sym (holds_at w m es n (Barrier ins x l d) a h))
flat_is w m es n (Some (Flatten ins)) a h i = ap (λ (c : Collection). c ∷ [])
    (sym (holds_at w m es n (Flatten ins) a h))

-- each operation that stands for nodes of the graph carries them out
pub sound_carries : (w : World) (m : Place → Collection) (es : List Entry) (o : Operation)
    → IsPlain m → Meets w es m → Each (λ e. Each (IsThere es) (reads e.node)) es → IsHonest es o
    → Carries w m es o
sound_carries w m es (Flat n) p a t i = flat_is w m es n (node_at es n) a refl i
sound_carries w m es (Class keys gs cs) p a t i =
    all_numbered w (feeds m es keys) 0 (map (group_channel es keys) gs ++ map (pass_of keys) cs)
    ∙ flat_map-append (channel_gives w (feeds m es keys)) (map (group_channel es keys) gs)
    (map (pass_of keys) cs)
    ∙ ap (λ (l : List Collection). l ++ flat_map (channel_gives w (feeds m es keys))
    (map (pass_of keys) cs)) (groups_are w m es keys gs p a i.0 t i.1)
    ∙ ap (λ (l : List Collection). map m (flat_map (group_gives es) gs) ++ l)
    (passes_are w m es keys cs a i.0 i.2)
    ∙ sym (map-append m (flat_map (group_gives es) gs) cs)
