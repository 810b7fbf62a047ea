-- What is taken exists: outputs are numbered from 0 on.
use Rattle.std.proofs.Common.{◌≡◌, ℕ, ◌<◌, Bool, true, false, cond, List, [], ◌∷◌, map, Option, Some, None, suc, refl, sym, ap, ◌∙◌, subst, arith}
use Rattle.std.proofs.lemmas.Bool.{eqb-true}
use Rattle.std.specs.List.{AllByRecursion, slice_get}
use Rattle.graph_laws.specs.of_exec_graph.Forests.{Forest, next_after, numbered}
use Rattle.graph_laws.specs.of_exec_graph.Meaning.{IsThere, gives_at, has_out, node_at}
use Rattle.graph_laws.specs.of_exec_graph.declared.graph.Place.{Place}
use Rattle.graph_laws.specs.of_exec_graph.declared.graph.Act.{Act}
use Rattle.graph_laws.specs.of_exec_graph.declared.graph.Act.TheVariants.{SideInput, Operate as Operates, Singleton}
use Rattle.graph_laws.specs.of_exec_graph.declared.graph.Node.{Node}
use Rattle.graph_laws.specs.of_exec_graph.declared.graph.Node.TheVariants.{Source, Flatten, Pdo, Gbk, Barrier}
use Rattle.graph_laws.specs.of_exec_graph.declared.graph.Entry.{Entry}
use Rattle.graph_laws.proofs.of_exec_graph.Entries.{all_found}
use Rattle.graph_laws.proofs.of_exec_graph.Numbered.{numbered_within}
use Rattle.plan_making.specs.of_exec_plan.declared.plan.PlanPlace.{PlanPlace}
use Rattle.plan_making.specs.of_exec_plan.declared.plan.InChannel.{InChannel}
use Rattle.plan_making.specs.of_exec_plan.Wellformed.{Exists, IsNumbered, outputs_told, count_of_outputs, outputs_count_at}
use Rattle.plan_laws.specs.declared.operations.Key.{Key}
use Rattle.plan_laws.specs.declared.operations.Key.TheVariants.{Mapper, Whole}
use Rattle.plan_laws.specs.Operations.{IsSide, side_channel, HasKey, IsKeyOk, IsPdo, IsTakenPlace, channel_of, forest_in, is_read_under, key_out, channel_named, out_in, pdo_channel, position, reducer_forest, take_of}
use Rattle.plan_laws.proofs.Carrying.{behind}
use Rattle.plan_making.proofs.Widths.{kept_after}

-- the outputs of each Pdo are numbered
abbrev pub IsNodeNumbered : Node → Type 0
IsNodeNumbered (Source r) = Unit {0}
IsNodeNumbered (Flatten ins) = Unit {0}
IsNodeNumbered (Pdo c f) = numbered 0 f ≡ f
IsNodeNumbered (Gbk c o l k) = Unit {0}
IsNodeNumbered (Barrier ins o l a) = Unit {0}

abbrev pub AreNumbered : List Entry → Type 0
AreNumbered es = AllByRecursion (λ e. IsNodeNumbered e.node) es

pub out_below : (j : ℕ) (f : Forest) → numbered 0 f ≡ f → has_out j f ≡ true → j < outputs_told f
out_below j f e h =
    let w = numbered_within 0 f j (subst (λ (x : Forest). has_out j x ≡ true) (sym e) h) in
    let high : j < next_after 0 f = w.high in
    let k = kept_after f in omega arith

side_below : (n j o : ℕ) (l : Bool) (a : Act) (ins : List Place) → IsSide a ins → j ≡ 0
    → j < count_of_outputs (side_channel n o l a ins).does
side_below n j o l (SideInput f) [] i e = absurd i
side_below n j o l (SideInput f) (c ∷ []) i e = absurd i
side_below n j o l (SideInput f) (c ∷ (d ∷ [])) i e = omega arith
side_below n j o l (SideInput f) (c ∷ (d ∷ (x ∷ xs))) i e = absurd i
side_below n j o l (Operates f) ins i e = absurd i
side_below n j o l (Singleton k) ins i e = absurd i

side_numbered : (n o : ℕ) (l : Bool) (a : Act) (ins : List Place)
    → IsNumbered (side_channel n o l a ins).does
side_numbered n o l (SideInput f) [] = tt
side_numbered n o l (SideInput f) (c ∷ []) = tt
side_numbered n o l (SideInput f) (c ∷ (d ∷ [])) = refl
side_numbered n o l (SideInput f) (c ∷ (d ∷ (x ∷ xs))) = tt
side_numbered n o l (Operates f) ins = tt
side_numbered n o l (Singleton k) ins = tt

mapper_below : (es : List Entry) (n : ℕ) (c : Place) (o : Option Node) → AreNumbered es
    → node_at es n ≡ o → IsPdo o → gives_at o c.out ≡ true
    → c.out < count_of_outputs (pdo_channel n o).does
mapper_below es n c None a h p t = absurd p
mapper_below es n c (Some (Source s)) a h p t = absurd p
mapper_below es n c (Some (Flatten ins)) a h p t = absurd p
mapper_below es n c (Some (Gbk d x l k)) a h p t = absurd p
mapper_below es n c (Some (Barrier ins i l d)) a h p t =
    side_below n c.out i l d ins p (eqb-true c.out 0 t)
mapper_below es n c (Some (Pdo d f)) a h p t =
    out_below c.out f (all_found (λ e. IsNodeNumbered e.node) es n (Pdo d f) h a) t

key_below : (es : List Entry) (k : Key) (c : Place) → AreNumbered es → IsKeyOk es k → IsThere es c
    → is_read_under k c ≡ true → key_out k c < count_of_outputs (channel_of es k).does
key_below es (Mapper n) c a ok t h =
    let e : n ≡ c.node = eqb-true n c.node h in
    mapper_below es n c (node_at es n) a refl ok
    (ap (λ (x : ℕ). gives_at (node_at es x) c.out) e ∙ t)
key_below es (Whole d) c a ok t h = omega arith

-- the input channels, where f names what they read
abbrev pub inputs : List Entry → (Place → PlanPlace) → List Key → List InChannel
inputs es f keys = map (channel_named f) (map (channel_of es) keys)

exists_by : (es : List Entry) (f : Place → PlanPlace) (k : Key) (ks : List Key) (c : Place)
    (b : Bool) → is_read_under k c ≡ b
    → (b ≡ true → key_out k c < count_of_outputs (channel_of es k).does)
    → (b ≡ false → out_in ks c < outputs_count_at (slice_get (inputs es f ks) (position ks c)))
    → cond b (key_out k c) (out_in ks c)
    < outputs_count_at (slice_get (channel_named f (channel_of es k) ∷ inputs es f ks)
    (cond b 0 (suc (position ks c))))
exists_by es f k ks c true e h g = h refl
exists_by es f k ks c false e h g = g refl

exists_key : (es : List Entry) (f : Place → PlanPlace) (keys : List Key) (c : Place)
    → AreNumbered es → AllByRecursion (IsKeyOk es) keys → IsThere es c → HasKey keys c
    → out_in keys c < outputs_count_at (slice_get (inputs es f keys) (position keys c))
exists_key es f [] c a ok t h = absurd h
exists_key es f (k ∷ ks) c a ok t h =
    exists_by es f k ks c (is_read_under k c) refl (λ e. key_below es k c a ok.0 t e)
    (λ e. exists_key es f ks c a ok.1 t (behind k ks c e h))

pub take_exists : (es : List Entry) (f : Place → PlanPlace) (keys : List Key) (c : Place)
    → AreNumbered es → AllByRecursion (IsKeyOk es) keys → IsTakenPlace es keys c
    → Exists (inputs es f keys) (take_of keys c)
take_exists es f keys c a ok h = exists_key es f keys c a ok h.1 h.0

pub takes_exist : (es : List Entry) (f : Place → PlanPlace) (keys : List Key) (cs : List Place)
    → AreNumbered es → AllByRecursion (IsKeyOk es) keys → AllByRecursion (IsTakenPlace es keys) cs
    → AllByRecursion (Exists (inputs es f keys)) (map (take_of keys) cs)
takes_exist es f keys [] a ok h = tt
takes_exist es f keys (c ∷ cs) a ok h =
    (take_exists es f keys c a ok h.0, takes_exist es f keys cs a ok h.1)

-- ---- the forests of channels

forest_numbered : (es : List Entry) (r : ℕ) (o : Option Node) → AreNumbered es → node_at es r ≡ o
    → IsNumbered (forest_in o)
forest_numbered es r None a h = tt
forest_numbered es r (Some (Source s)) a h = tt
forest_numbered es r (Some (Flatten ins)) a h = tt
forest_numbered es r (Some (Gbk d x l k)) a h = tt
forest_numbered es r (Some (Barrier ins i l d)) a h = tt
forest_numbered es r (Some (Pdo d f)) a h =
    all_found (λ e. IsNodeNumbered e.node) es r (Pdo d f) h a

pub reducer_numbered : (es : List Entry) (r : Option ℕ) → AreNumbered es
    → IsNumbered (reducer_forest es r)
reducer_numbered es None a = tt
reducer_numbered es (Some r) a = forest_numbered es r (node_at es r) a refl

pdo_numbered : (es : List Entry) (n : ℕ) (o : Option Node) → AreNumbered es → node_at es n ≡ o
    → IsNumbered (pdo_channel n o).does
pdo_numbered es n None a h = tt
pdo_numbered es n (Some (Source s)) a h = tt
pdo_numbered es n (Some (Flatten ins)) a h = tt
pdo_numbered es n (Some (Gbk d x l k)) a h = tt
pdo_numbered es n (Some (Barrier ins i l d)) a h = side_numbered n i l d ins
pdo_numbered es n (Some (Pdo d f)) a h =
    all_found (λ e. IsNodeNumbered e.node) es n (Pdo d f) h a

pub inputs_numbered : (es : List Entry) (f : Place → PlanPlace) (keys : List Key) → AreNumbered es
    → AllByRecursion (λ c. IsNumbered c.does) (inputs es f keys)
inputs_numbered es f [] a = tt
inputs_numbered es f (Whole c ∷ ks) a = (tt, inputs_numbered es f ks a)
inputs_numbered es f (Mapper n ∷ ks) a =
    (pdo_numbered es n (node_at es n) a refl, inputs_numbered es f ks a)
