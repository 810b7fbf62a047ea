-- The types of a graph's collections fit the stage of an operation.
use Rattle.std.proofs.Common.{◌≡◌, ℕ, ◌+◌, List, [], ◌∷◌, ◌++◌, map, length, Option, Some, None, zero, suc, refl, sym, ap, ◌∙◌, subst, arith, append_assoc}
use Rattle.std.specs.List.{AllByRecursion, flat_map, slice_get}
use Rattle.flume_types.specs.declared.types.Ty.{Ty}
use Rattle.graph_laws.specs.of_exec_graph.Forests.{numbered}
use Rattle.graph_laws.specs.of_exec_graph.Meaning.{IsThere, node_at, place, reads}
use Rattle.graph_laws.specs.of_exec_graph.Typing.{ActTyped, ForestTyped, Signatures}
use Rattle.graph_laws.specs.of_exec_graph.declared.graph.Place.{Place}
use Rattle.graph_laws.specs.of_exec_graph.declared.graph.Node.{Node}
use Rattle.graph_laws.specs.of_exec_graph.declared.graph.Node.TheVariants.{Source, Flatten, Pdo, Gbk, Barrier}
use Rattle.graph_laws.specs.of_exec_graph.declared.graph.Entry.{Entry}
use Rattle.graph_laws.proofs.of_exec_graph.Entries.{all_found}
use Rattle.plan_making.specs.of_exec_plan.declared.plan.PlanPlace.{PlanPlace}
use Rattle.plan_making.specs.of_exec_plan.declared.plan.PlanPlace.TheVariants as at
use Rattle.plan_making.specs.of_exec_plan.Channels.{outs_of}
use Rattle.plan_making.specs.of_exec_plan.Typing.{ChannelTyped, GroupTyped, OutChannelTyped, StageTyped, stage_types}
use Rattle.plan_making.specs.of_exec_plan.Wellformed.{results_given}
use Rattle.graph_laws.proofs.TypedForests.{typed_moved}
use Rattle.plan_laws.specs.declared.operations.Key.{Key}
use Rattle.plan_laws.specs.declared.operations.Grouped.{Grouped}
use Rattle.plan_laws.specs.declared.operations.Operation.{Operation}
use Rattle.plan_laws.specs.declared.operations.Operation.TheVariants.{Flat, Class}
use Rattle.plan_laws.specs.Operations.{flat_stage, IsFlat, IsGroupedOk, IsHonest, IsReducer, IsTakenPlace, IsPdoOn, TakesInputs, flat_inputs, forest_in, gives_of, group_at, group_gives, group_channel, numbered_outs, outs_at, pass_of, reads_of, reduced, reducer_forest, stage_of}
use Rattle.plan_rules.proofs.Counted.{out_stands}
use Rattle.plan_rules.proofs.Taking.{AreNumbered, IsNodeNumbered}
use Rattle.plan_rules.proofs.TypedChannels.{AreNamed, AreTyped, all_inputs_typed, channel_types, taken_typed, takes_typed, typed_at}
use Rattle.plan_rules.proofs.Widths.{group_width}

-- ---- results

-- t says of the results of stage k from number i on what types says of these collections
abbrev pub GivesTypes : (Place → Ty) → (PlanPlace → Ty) → ℕ → ℕ → List Place → Type 0
GivesTypes types t k i [] = Unit {0}
GivesTypes types t k i (c ∷ cs) =
    (t (at.Result k i) ≡ types c) × GivesTypes types t k (suc i) cs

given_at : (types : Place → Ty) (t : PlanPlace → Ty) (k i j : ℕ) (cs : List Place) (c : Place)
    → GivesTypes types t k i cs → slice_get cs j ≡ Some c → t (at.Result k (i + j)) ≡ types c
given_at types t k i j [] c h e = let bad : ⊥ = cc in absurd bad
given_at types t k i zero (d ∷ ds) c h e =
    let same : d ≡ c = cc in
    let z : i + 0 ≡ i = omega arith in
    ap (λ (n : ℕ). t (at.Result k n)) z ∙ h.0 ∙ ap types same
given_at types t k i (suc j) (d ∷ ds) c h e =
    let n : i + suc j ≡ suc i + j = omega arith in
    ap (λ (m : ℕ). t (at.Result k m)) n ∙ given_at types t k (suc i) j ds c h.1 e

given_first : (types : Place → Ty) (t : PlanPlace → Ty) (k i : ℕ) (xs ys : List Place)
    → GivesTypes types t k i (xs ++ ys) → GivesTypes types t k i xs
given_first types t k i [] ys h = tt
given_first types t k i (x ∷ xs) ys h = (h.0, given_first types t k (suc i) xs ys h.1)

given_later : (types : Place → Ty) (t : PlanPlace → Ty) (k i : ℕ) (xs ys : List Place)
    → GivesTypes types t k i (xs ++ ys) → GivesTypes types t k (i + length xs) ys
given_later types t k i [] ys h =
    let z : i ≡ i + 0 = omega arith in subst (λ (n : ℕ). GivesTypes types t k n ys) z h
given_later types t k i (x ∷ xs) ys h =
    let n : suc i + length xs ≡ i + suc (length xs) = omega arith in
    subst (λ (m : ℕ). GivesTypes types t k m ys) n (given_later types t k (suc i) xs ys h.1)

map_at : (r j : ℕ) (js : List ℕ) (i : ℕ) → slice_get js j ≡ Some i
    → slice_get (map (place r) js) j ≡ Some (place r i)
map_at r j [] i h = let bad : ⊥ = cc in absurd bad
map_at r zero (n ∷ ns) i h = let same : n ≡ i = cc in ap (λ (k : ℕ). Some (place r k)) same
map_at r (suc j) (n ∷ ns) i h = map_at r j ns i h

-- ---- reducers

forest_typed : (s : Signatures) (types : Place → Ty) (t : PlanPlace → Ty) (es : List Entry)
    (k i n r : ℕ) (o : Option Node) → AreTyped s types es → AreNumbered es → node_at es r ≡ o
    → IsPdoOn (place n 0) o → GivesTypes types t k i (map (place r) (outs_at o))
    → ChannelTyped s (stage_types t k i) 0 (types (place n 0)) (forest_in o)
forest_typed s types t es k i n r None a m h p g = absurd p
forest_typed s types t es k i n r (Some (Source q)) a m h p g = absurd p
forest_typed s types t es k i n r (Some (Flatten ins)) a m h p g = absurd p
forest_typed s types t es k i n r (Some (Gbk d o l q)) a m h p g = absurd p
forest_typed s types t es k i n r (Some (Barrier ins x y d)) a m h p g = absurd p
forest_typed s types t es k i n r (Some (Pdo d f)) a m h p g =
    let order : numbered 0 f ≡ f = all_found (λ e. IsNodeNumbered e.node) es r (Pdo d f) h m in
    typed_moved s types (stage_types t k i) r 0 (types (place n 0)) f
    (λ j e. given_at types t k i j (map (place r) (outs_of f)) (place r j) g
    (map_at r j (outs_of f) j (out_stands f j order e)))
    (subst (λ (c : Place). ForestTyped s types r (types c) f) p
    (typed_at s types es r (Pdo d f) a h))

reducer_typed : (s : Signatures) (types : Place → Ty) (t : PlanPlace → Ty) (es : List Entry)
    (k i n : ℕ) (r : Option ℕ) → AreTyped s types es → AreNumbered es → IsReducer es n r
    → GivesTypes types t k i (reduced es n r)
    → ChannelTyped s (stage_types t k i) 0 (types (place n 0)) (reducer_forest es r)
reducer_typed s types t es k i n None a m p g =
    let z : i + 0 ≡ i = omega arith in ap (λ (j : ℕ). t (at.Result k j)) z ∙ g.0
reducer_typed s types t es k i n (Some r) a m p g =
    forest_typed s types t es k i n r (node_at es r) a m refl p g

-- ---- output channels

-- what a node reads is there
abbrev pub AreThere : List Entry → Type 0
AreThere es = AllByRecursion (λ e. AllByRecursion (IsThere es) (reads e.node)) es

group_typed : (s : Signatures) (types : Place → Ty) (t : PlanPlace → Ty) (es : List Entry)
    (keys : List Key) (k i n : ℕ) (r : Option ℕ) (o : Option Node) → AreTyped s types es
    → AreNumbered es → AreThere es → node_at es n ≡ o → TakesInputs es keys o → IsReducer es n r
    → GivesTypes types t k i (reduced es n r)
    → GroupTyped s t (channel_types types keys) k (record (group_at es keys r o) { first = i })
group_typed s types t es keys k i n r None a m w h p q g = absurd p
group_typed s types t es keys k i n r (Some (Source z)) a m w h p q g = absurd p
group_typed s types t es keys k i n r (Some (Flatten ins)) a m w h p q g = absurd p
group_typed s types t es keys k i n r (Some (Pdo c f)) a m w h p q g = absurd p
group_typed s types t es keys k i n r (Some (Gbk c o l z)) a m w h p q g =
    let there : IsThere es c =
    (all_found (λ e. AllByRecursion (IsThere es) (reads e.node)) es n (Gbk c o l z) h w).0 in
    record {
      pairs = types c;
      groups = types (place n 0);
      takes = takes_typed s types es keys c a there p;
      grouped = typed_at s types es n (Gbk c o l z) a h;
      reduced = reducer_typed s types t es k i n r a m q g;
    }
group_typed s types t es keys k i n r (Some (Barrier ins x y d)) a m w h p q g = absurd p

passes_typed : (s : Signatures) (types : Place → Ty) (t : PlanPlace → Ty) (es : List Entry)
    (keys : List Key) (k i : ℕ) (cs : List Place) → AllByRecursion (IsTakenPlace es keys) cs
    → GivesTypes types t k i cs
    → AllByRecursion (OutChannelTyped s t (channel_types types keys) k)
    (numbered_outs i (map (pass_of keys) cs))
passes_typed s types t es keys k i [] h g = tt
passes_typed s types t es keys k i (c ∷ cs) h g = (
  g.0 ∙ sym (taken_typed types keys c h.0.0),
  passes_typed s types t es keys k (i + 1) cs h.1
      (let n : suc i ≡ i + 1 = omega arith in subst (λ (m : ℕ). GivesTypes types t k m cs) n g.1),
)

outputs_typed : (s : Signatures) (types : Place → Ty) (t : PlanPlace → Ty) (es : List Entry)
    (keys : List Key) (k i : ℕ) (gs : List Grouped) (cs : List Place) → AreTyped s types es
    → AreNumbered es → AreThere es → AllByRecursion (IsGroupedOk es keys) gs
    → AllByRecursion (IsTakenPlace es keys) cs
    → GivesTypes types t k i (flat_map (group_gives es) gs ++ cs)
    → AllByRecursion (OutChannelTyped s t (channel_types types keys) k)
    (numbered_outs i (map (group_channel es keys) gs ++ map (pass_of keys) cs))
outputs_typed s types t es keys k i [] cs a m w h p g =
    passes_typed s types t es keys k i cs p g
outputs_typed s types t es keys k i (x ∷ xs) cs a m w h p g =
    let rest : List Place = flat_map (group_gives es) xs ++ cs in
    let parts : GivesTypes types t k i (group_gives es x ++ rest) =
    subst (GivesTypes types t k i)
    (append_assoc (group_gives es x) (flat_map (group_gives es) xs) cs) g in
    let e : results_given (group_channel es keys x) ≡ length (group_gives es x) =
    group_width es keys x.gbk x.reducer (node_at es x.gbk) h.0.0 h.0.1 in (
      group_typed s types t es keys k i x.gbk x.reducer (node_at es x.gbk) a m w refl h.0.0 h.0.1
          (given_first types t k i (group_gives es x) rest parts),
      outputs_typed s types t es keys k (i + results_given (group_channel es keys x)) xs cs a m w
          h.1 p
          (subst (λ (j : ℕ). GivesTypes types t k (i + j) rest) (sym e)
          (given_later types t k i (group_gives es x) rest parts)),
    )

-- ---- stages

flat_typed : (types : Place → Ty) (t : PlanPlace → Ty) (f : Place → PlanPlace) (k n : ℕ)
    (cs : List Place) → t (at.Result k 0) ≡ types (place n 0) → AreNamed types t f cs
    → AllByRecursion (λ c. types c ≡ types (place n 0)) cs
    → AllByRecursion (λ c. t c ≡ t (at.Result k 0)) (map f cs)
flat_typed types t f k n [] e a h = tt
flat_typed types t f k n (c ∷ cs) e a h =
    (a.0 ∙ h.0 ∙ sym e, flat_typed types t f k n cs e a.1 h.1)

named_types : (types : Place → Ty) (t : PlanPlace → Ty) (f : Place → PlanPlace)
    (cs : List Place) → AreNamed types t f cs → map t (map f cs) ≡ map types cs
named_types types t f [] a = refl
named_types types t f (c ∷ cs) a =
    let i = named_types types t f cs a.1 in let j : t (f c) ≡ types c = a.0 in cc

flatten_typed : (s : Signatures) (types : Place → Ty) (t : PlanPlace → Ty)
    (f : Place → PlanPlace) (es : List Entry) (k n : ℕ) (o : Option Node) → AreTyped s types es
    → node_at es n ≡ o → IsFlat o → t (at.Result k 0) ≡ types (place n 0)
    → AreNamed types t f (flat_inputs o)
    → StageTyped s t k (flat_stage o (map f (flat_inputs o)))
flatten_typed s types t f es k n None a h p e m = absurd p
flatten_typed s types t f es k n (Some (Source r)) a h p e m = absurd p
flatten_typed s types t f es k n (Some (Pdo c x)) a h p e m = absurd p
flatten_typed s types t f es k n (Some (Gbk c o l z)) a h p e m = absurd p
flatten_typed s types t f es k n (Some (Barrier ins i l d)) a h p e m =
    subst (ActTyped s d (map t (map f ins))) (sym e)
    (subst (λ (us : List Ty). ActTyped s d us (types (place n 0)))
    (sym (named_types types t f ins m)) (typed_at s types es n (Barrier ins i l d) a h))
flatten_typed s types t f es k n (Some (Flatten ins)) a h p e m =
    flat_typed types t f k n ins e m (typed_at s types es n (Flatten ins) a h)

pub stage_typed : (s : Signatures) (types : Place → Ty) (t : PlanPlace → Ty)
    (f : Place → PlanPlace) (es : List Entry) (k : ℕ) (o : Operation) → AreTyped s types es
    → AreNumbered es → AreThere es → IsHonest es o → AreNamed types t f (reads_of es o)
    → GivesTypes types t k 0 (gives_of es o) → StageTyped s t k (stage_of es f o)
stage_typed s types t f es k (Flat n) a m w h e g =
    flatten_typed s types t f es k n (node_at es n) a refl h g.0 e
stage_typed s types t f es k (Class keys gs cs) a m w h e g = record {
  outs = channel_types types keys;
  inputs = all_inputs_typed s types t f es keys a h.0 e;
  outputs = outputs_typed s types t es keys k 0 gs cs a m w h.1 h.2 g;
}
