-- What operations add up to is what their nodes do.
use Rattle.std.proofs.Common.{◌≡◌, ℕ, Bool, ◌+◌, List, [], ◌∷◌, ◌++◌, map, Option, Some, None, append-nil, refl, sym, ap, ◌∙◌}
use Rattle.std.proofs.lemmas.List.Concat.{flat_map-append}
use Rattle.std.specs.List.{flat_map, AllByRecursion as Each}
use Rattle.exec_plan.specs.of_flume_collection.Collection.{Collection, together, by_key}
use Rattle.exec_plan.specs.of_exec_graph.World.{World}
use Rattle.exec_plan.specs.of_exec_graph.Objects.{act_result}
use Rattle.exec_plan.specs.of_exec_graph.declared.graph.Act.{Act}
use Rattle.exec_plan.specs.of_exec_graph.declared.graph.Act.TheVariants.{SideInput, Operate as Operates, Singleton}
use Rattle.exec_plan.specs.of_exec_graph.declared.step.Does.TheVariants as does
use Rattle.exec_plan.proofs.of_exec_graph.Barriers.{barrier_side_input}
use Rattle.exec_plan.specs.Channels.{value_on, world_in}
use Rattle.exec_plan.specs.of_exec_graph.Forests.{Forest}
use Rattle.exec_plan.specs.of_exec_graph.Meaning.{through, place, Meets, node_at, reads, IsThere, total, own, traps}
use Rattle.exec_plan.specs.of_exec_graph.declared.graph.Place.{Place}
use Rattle.exec_plan.specs.of_exec_graph.declared.graph.Node.{Node}
use Rattle.exec_plan.specs.of_exec_graph.declared.graph.Node.TheVariants.{Source, Flatten, Pdo, Gbk, Barrier}
use Rattle.exec_plan.specs.of_exec_graph.declared.graph.Entry.{Entry}
use Rattle.exec_plan.specs.declared.plan.Grouping.{Grouping}
use Rattle.exec_plan.specs.declared.plan.OutChannel.{OutChannel}
use Rattle.exec_plan.specs.declared.plan.OutChannel.TheVariants.{Group, Pass}
use Rattle.exec_plan.specs.Channels.{Fed, groups}
use Rattle.exec_plan.specs.Meaning.{Parts, in_sum, out_sum, own_parts, total_of, trap_parts}
use Rattle.exec_plan.specs.Wellformed.{results_given}
use Rattle.plan_laws.specs.declared.operations.Key.{Key}
use Rattle.plan_laws.specs.declared.operations.Key.TheVariants.{Mapper, Whole}
use Rattle.plan_laws.specs.declared.operations.Grouped.{Grouped}
use Rattle.plan_laws.specs.declared.operations.Operation.{Operation}
use Rattle.plan_laws.specs.declared.operations.Operation.TheVariants.{Flat, Class}
use Rattle.plan_laws.specs.Operations.{IsSide, side_channel, IsFlat, IsGroupedOk, IsHonest, IsKeyOk, IsPdo, IsReducer, IsPdoOn, TakesInputs, flat_inputs, forest_in, group_at, group_channel, group_runs, key_runs, numbered_outs, pass_of, pdo_channel, reducer_forest, reducer_runs, runs, channel_valued}
use Rattle.plan_laws.proofs.Running.{carried_sum, flat_part}
use Rattle.plan_laws.proofs.Carrying.{side_is, IsPlain, feeds, group_at_is, group_does, holds_at, there_at}

-- ---- what an operation does is what its nodes do
abbrev pub node_sum : {Y : Type 0} → World → Parts Y → (Place → Collection) → Node → List Y
node_sum w p m (Source r) = []
node_sum w p m (Flatten ins) = p.flat (together (map m ins))
node_sum w p m (Pdo c f) = total w p.steps (m c) f
node_sum w p m (Gbk c o l k) = p.groups o l (by_key (m c))
node_sum w p m (Barrier ins o l a) = p.groups o l (act_result w o a (map m ins))

abbrev pub sum_at : {Y : Type 0} → World → Parts Y → (Place → Collection) → Option Node → List Y
sum_at w p m None = []
sum_at w p m (Some x) = node_sum w p m x

pub own_is : (w : World) (m : Place → Collection) (i : ℕ) (x : Node) → own w m i x ≡ node_sum w
    (own_parts w i) m x
own_is w m i (Source r) = refl
own_is w m i (Flatten ins) = refl
own_is w m i (Pdo c f) = refl
own_is w m i (Gbk c o l k) = refl
own_is w m i (Barrier ins o l a) = refl

pub traps_are : (w : World) (m : Place → Collection) (x : Node) → traps w m x ≡ node_sum w
    (trap_parts w) m x
traps_are w m (Source r) = refl
traps_are w m (Flatten ins) = refl
traps_are w m (Pdo c f) = refl
traps_are w m (Gbk c o l k) = refl
traps_are w m (Barrier ins o l a) = refl

side_sum : {Y : Type 0} (w : World) (p : Parts Y) (m : Place → Collection) (n o : ℕ) (l : Bool)
    (a : Act) (ins : List Place) → IsSide a ins
    → in_sum w p (channel_valued m (side_channel n o l a ins))
    ≡ p.groups o l (act_result w o a (map m ins))
side_sum w p m n o l (SideInput f) [] h = absurd h
side_sum w p m n o l (SideInput f) (c ∷ []) h = absurd h
side_sum w p m n o l (SideInput f) (c ∷ (d ∷ [])) h =
    let given : Collection = through (world_in w (Some (m d)))
    (record { origin = o; last = l; does = does.Call f; at = 0; out = Some 0 })
    (value_on (m c) (Some (m d))) in
    append-nil (p.groups o l given)
    ∙ ap (p.groups o l) (side_is w o l f (m c) (m d) ∙ sym (barrier_side_input w o f (m c) (m d)))
side_sum w p m n o l (SideInput f) (c ∷ (d ∷ (x ∷ xs))) h = absurd h
side_sum w p m n o l (Operates f) ins h = absurd h
side_sum w p m n o l (Singleton k) ins h = absurd h

pdo_sum : {Y : Type 0} (w : World) (p : Parts Y) (m : Place → Collection) (n : ℕ) (o : Option Node)
    → IsPdo o → in_sum w p (channel_valued m (pdo_channel n o)) ≡ sum_at w p m o
pdo_sum w p m n None h = absurd h
pdo_sum w p m n (Some (Source r)) h = absurd h
pdo_sum w p m n (Some (Flatten ins)) h = absurd h
pdo_sum w p m n (Some (Gbk c o l k)) h = absurd h
pdo_sum w p m n (Some (Barrier ins o l a)) h = side_sum w p m n o l a ins h
pdo_sum w p m n (Some (Pdo c f)) h = refl

keys_sum : {Y : Type 0} (w : World) (p : Parts Y) (m : Place → Collection) (es : List Entry)
    (ks : List Key) → Each (IsKeyOk es) ks → flat_map (in_sum w p) (feeds m es ks)
    ≡ flat_map (λ n. sum_at w p m (node_at es n)) (flat_map key_runs ks)
keys_sum w p m es [] h = refl
keys_sum w p m es (Whole c ∷ ks) h = keys_sum w p m es ks h.1
keys_sum w p m es (Mapper n ∷ ks) h =
    let a = pdo_sum w p m n (node_at es n) h.0 in
    let b = keys_sum w p m es ks h.1 in
    cc

reducer_sum : {Y : Type 0} (w : World) (p : Parts Y) (m : Place → Collection) (es : List Entry)
    (n r : ℕ) (o : Option Node) → IsPdoOn (place n 0) o → total_of w p.steps (m (place n 0))
    (forest_in o) ≡ sum_at w p m o
reducer_sum w p m es n r None h = absurd h
reducer_sum w p m es n r (Some (Source s)) h = absurd h
reducer_sum w p m es n r (Some (Flatten ins)) h = absurd h
reducer_sum w p m es n r (Some (Gbk c o l k)) h = absurd h
reducer_sum w p m es n r (Some (Barrier ins o l a)) h = absurd h
reducer_sum w p m es n r (Some (Pdo c f)) h = ap (λ (d : Place). total w p.steps (m d) f) (sym h)

reduced_sum : {Y : Type 0} (w : World) (p : Parts Y) (m : Place → Collection) (es : List Entry)
    (n : ℕ) (r : Option ℕ) → IsReducer es n r
    → total_of w p.steps (m (place n 0)) (reducer_forest es r)
    ≡ flat_map (λ n. sum_at w p m (node_at es n)) (reducer_runs r)
reduced_sum w p m es n None h = refl
reduced_sum w p m es n (Some r) h = reducer_sum w p m es n r (node_at es r) h
    ∙ sym (append-nil (sum_at w p m (node_at es r)))

grouping_sum : {Y : Type 0} (w : World) (p : Parts Y) (m : Place → Collection) (es : List Entry)
    (keys : List Key) (n : ℕ) (r : Option ℕ) (o : Option Node) → Meets w es m → node_at es n ≡ o
    → TakesInputs es keys o → p.groups (group_at es keys r o).origin (group_at es keys r o).last
    (m (place n 0)) ≡ sum_at w p m o
grouping_sum w p m es keys n r None a e h = absurd h
grouping_sum w p m es keys n r (Some (Source s)) a e h = absurd h
grouping_sum w p m es keys n r (Some (Flatten ins)) a e h = absurd h
grouping_sum w p m es keys n r (Some (Pdo c f)) a e h = absurd h
grouping_sum w p m es keys n r (Some (Gbk c o l k)) a e h = ap (p.groups o l)
    (holds_at w m es n (Gbk c o l k) a e)
grouping_sum w p m es keys n r (Some (Barrier ins o l d)) a e h = absurd h

group_sum : {Y : Type 0} (w : World) (p : Parts Y) (m : Place → Collection) (es : List Entry)
    (keys : List Key) (g : Grouped) → IsPlain m → Meets w es m → Each (IsKeyOk es) keys
    → Each (λ e. Each (IsThere es) (reads e.node)) es → IsGroupedOk es keys g → out_sum w p
    (feeds m es keys) (group_channel es keys g) ≡ flat_map (λ n. sum_at w p m (node_at es n))
    (group_runs g)
group_sum w p m es keys g pl a ok t i =
    let x : Grouping = group_at es keys g.reducer (node_at es g.gbk) in
    let v : groups w (feeds m es keys) x ≡ m (place g.gbk 0) = group_at_is w m es keys g.gbk
    g.reducer (node_at es g.gbk) pl a ok refl (there_at es g.gbk (node_at es g.gbk) refl t) i.0 in
    let d : x.does ≡ reducer_forest es g.reducer = group_does es keys g.reducer (node_at es g.gbk)
    i.0 in
    ap (λ (c : Collection). p.groups x.origin x.last c ++ total_of w p.steps c x.does) v
    ∙ ap (λ (f : Option Forest). p.groups x.origin x.last (m (place g.gbk 0)) ++ total_of w p.steps
    (m (place g.gbk 0)) f) d
    ∙ ap (λ l. l ++ total_of w p.steps (m (place g.gbk 0)) (reducer_forest es g.reducer))
    (grouping_sum w p m es keys g.gbk g.reducer (node_at es g.gbk) a refl i.0)
    ∙ ap (λ l. sum_at w p m (node_at es g.gbk) ++ l) (reduced_sum w p m es g.gbk g.reducer i.1)

groups_sum : {Y : Type 0} (w : World) (p : Parts Y) (m : Place → Collection) (es : List Entry)
    (keys : List Key) (gs : List Grouped) → IsPlain m → Meets w es m → Each (IsKeyOk es) keys
    → Each (λ e. Each (IsThere es) (reads e.node)) es → Each (IsGroupedOk es keys) gs
    → flat_map (out_sum w p (feeds m es keys)) (map (group_channel es keys) gs)
    ≡ flat_map (λ n. sum_at w p m (node_at es n)) (flat_map group_runs gs)
groups_sum w p m es keys [] pl a ok t i = refl
groups_sum w p m es keys (g ∷ gs) pl a ok t i =
    ap (λ l. l ++ flat_map (out_sum w p (feeds m es keys)) (map (group_channel es keys) gs))
    (group_sum w p m es keys g pl a ok t i.0)
    ∙ ap (λ l. flat_map (λ n. sum_at w p m (node_at es n)) (group_runs g) ++ l)
    (groups_sum w p m es keys gs pl a ok t i.1)
    ∙ sym (flat_map-append (λ n. sum_at w p m (node_at es n)) (group_runs g)
    (flat_map group_runs gs))

passes_sum : {Y : Type 0} (w : World) (p : Parts Y) (ins : List Fed) (keys : List Key)
    (cs : List Place) → flat_map (out_sum w p ins) (map (pass_of keys) cs) ≡ []
passes_sum w p ins keys [] = refl
passes_sum w p ins keys (c ∷ cs) = passes_sum w p ins keys cs

sum_numbered : {Y : Type 0} (w : World) (p : Parts Y) (ins : List Fed) (n : ℕ)
    (os : List OutChannel) → flat_map (out_sum w p ins) (numbered_outs n os)
    ≡ flat_map (out_sum w p ins) os
sum_numbered w p ins n [] = refl
sum_numbered w p ins n (Pass k i ∷ os) = sum_numbered w p ins (n + 1) os
sum_numbered w p ins n (Group g ∷ os) = ap (λ l. out_sum w p ins (Group g) ++ l)
    (sum_numbered w p ins (n + results_given (Group g)) os)

flat_sum : {Y : Type 0} (w : World) (p : Parts Y) (m : Place → Collection) (o : Option Node)
    → IsFlat o → flat_part w p o (map m (flat_inputs o)) ≡ sum_at w p m o
flat_sum w p m None i = absurd i
flat_sum w p m (Some (Source s)) i = absurd i
flat_sum w p m (Some (Pdo d f)) i = absurd i
flat_sum w p m (Some (Gbk c x l k)) i = absurd i
flat_sum w p m (Some (Barrier ins x l a)) i = refl
flat_sum w p m (Some (Flatten ins)) i = refl

operation_sum : {Y : Type 0} (w : World) (p : Parts Y) (m : Place → Collection)
    (es : List Entry) (o : Operation) → IsPlain m → Meets w es m
    → Each (λ e. Each (IsThere es) (reads e.node)) es → IsHonest es o → carried_sum w p m es o
    ≡ flat_map (λ n. sum_at w p m (node_at es n)) (runs o)
operation_sum w p m es (Flat n) pl a t i = flat_sum w p m (node_at es n) i
    ∙ sym (append-nil (sum_at w p m (node_at es n)))
operation_sum {Y = Y} w p m es (Class keys gs cs) pl a t i =
    let ins : List Fed = feeds m es keys in
    let F : ℕ → List Y = λ n. sum_at w p m (node_at es n) in
    let outs : flat_map (out_sum w p ins) (numbered_outs 0 (map (group_channel es keys) gs
    ++ map (pass_of keys) cs)) ≡ flat_map F (flat_map group_runs gs) =
    sum_numbered w p ins 0 (map (group_channel es keys) gs ++ map (pass_of keys) cs)
    ∙ flat_map-append (out_sum w p ins) (map (group_channel es keys) gs) (map (pass_of keys) cs)
    ∙ ap (λ l. flat_map (out_sum w p ins) (map (group_channel es keys) gs) ++ l)
    (passes_sum w p ins keys
    cs)
    ∙ append-nil (flat_map (out_sum w p ins) (map (group_channel es keys) gs))
    ∙ groups_sum w p m es keys gs pl a i.0 t i.1 in
    ap (λ l. l ++ flat_map (out_sum w p ins) (numbered_outs 0 (map (group_channel es keys) gs
    ++ map (pass_of keys) cs))) (keys_sum w p m es keys i.0)
    ∙ ap (λ l. flat_map F (flat_map key_runs keys) ++ l) outs
    ∙ sym (flat_map-append F (flat_map key_runs keys) (flat_map group_runs gs))

pub operations_sum : {Y : Type 0} (w : World) (p : Parts Y) (m : Place → Collection)
    (es : List Entry) (os : List Operation) → IsPlain m → Meets w es m
    → Each (λ e. Each (IsThere es) (reads e.node)) es → Each (IsHonest es) os
    → flat_map (carried_sum w p m es) os ≡ flat_map (λ n. sum_at w p m (node_at es n))
    (flat_map runs os)
operations_sum w p m es [] pl a t i = refl
operations_sum w p m es (o ∷ os) pl a t i =
    ap (λ l. l ++ flat_map (carried_sum w p m es) os) (operation_sum w p m es o pl a t i.0)
    ∙ ap (λ l. flat_map (λ n. sum_at w p m (node_at es n)) (runs o) ++ l) (operations_sum w p m es
    os pl a t i.1)
    ∙ sym (flat_map-append (λ n. sum_at w p m (node_at es n)) (runs o) (flat_map runs os))
