-- The types of a graph's collections fit the channels of an operation.
use Rattle.std.proofs.Common.{◌≡◌, ℕ, Bool, true, false, cond, List, [], ◌∷◌, map, Option, Some, None, suc, refl, sym, ap, ◌∙◌, subst}
use Rattle.std.proofs.lemmas.Bool.{eqb-true}
use Rattle.std.specs.List.{AllByRecursion, flat_map, slice_get}
use Rattle.flume_types.specs.declared.types.Ty.{Ty}
use Rattle.flume_types.specs.declared.types.Ty.TheVariants as type
use Rattle.graph_laws.specs.of_exec_graph.Meaning.{IsThere, gives_at, node_at, place}
use Rattle.graph_laws.specs.of_exec_graph.Typing.{ActTyped, ForestTyped, NodeTyped, Signatures}
use Rattle.graph_laws.specs.of_exec_graph.declared.graph.Place.{Place}
use Rattle.graph_laws.specs.of_exec_graph.declared.graph.Act.{Act}
use Rattle.graph_laws.specs.of_exec_graph.declared.graph.Act.TheVariants.{SideInput, Operate as Operates, Singleton}
use Rattle.graph_laws.specs.of_exec_graph.declared.step.Does.TheVariants as does
use Rattle.std.specs.Prelude.{option_map}
use Rattle.flume_value.proofs.EachLemmas.{Each-left, Each-right}
use Rattle.graph_laws.specs.of_exec_graph.declared.graph.Node.{Node}
use Rattle.graph_laws.specs.of_exec_graph.declared.graph.Node.TheVariants.{Source, Flatten, Pdo, Gbk, Barrier}
use Rattle.graph_laws.specs.of_exec_graph.declared.graph.Entry.{Entry}
use Rattle.graph_laws.proofs.of_exec_graph.Entries.{all_found}
use Rattle.plan_making.specs.of_exec_plan.declared.plan.PlanPlace.{PlanPlace}
use Rattle.plan_making.specs.of_exec_plan.Typing.{InTyped, ChannelTyped, InsTyped, take_type}
use Rattle.graph_laws.proofs.TypedForests.{typed_moved}
use Rattle.plan_laws.specs.declared.operations.Key.{Key}
use Rattle.plan_laws.specs.declared.operations.Key.TheVariants.{Mapper, Whole}
use Rattle.plan_laws.specs.Operations.{IsSide, reading_reads, side_channel, HasKey, IsKeyOk, IsPdo, IsTakenPlace, Reading, channel_of, is_read_under, inputs_at, read_through, key_out, out_in, pdo_channel, position, take_of}
use Rattle.plan_laws.proofs.Carrying.{behind}
use Rattle.plan_laws.proofs.Running.{place_same}
use Rattle.plan_rules.proofs.Taking.{inputs}

-- the types of each node fit it
abbrev pub AreTyped : Signatures → (Place → Ty) → List Entry → Type 0
AreTyped s types es = AllByRecursion (λ e. NodeTyped s types e.number e.node) es

pub typed_at : (s : Signatures) (types : Place → Ty) (es : List Entry) (n : ℕ) (x : Node)
    → AreTyped s types es → node_at es n ≡ Some x → NodeTyped s types n x
typed_at s types es n x a h =
    all_found (λ e. NodeTyped s types e.number e.node) es n x h a

-- ---- the types of the outputs of input channels

abbrev pub key_type : (Place → Ty) → Option Key → ℕ → Ty
key_type types None j = type.Int
key_type types (Some (Mapper n)) j = types (place n j)
key_type types (Some (Whole c)) j = types c

abbrev pub channel_types : (Place → Ty) → List Key → Place → Ty
channel_types types keys c = key_type types (slice_get keys c.node) c.out

-- outs says of the channels from number n on what the keys are
abbrev Says : (Place → Ty) → (Place → Ty) → ℕ → List Key → Type 0
Says types outs n [] = Unit {0}
Says types outs n (k ∷ ks) =
    ((j : ℕ) → outs (place n j) ≡ key_type types (Some k) j) × Says types outs (suc n) ks

says_later : (types : Place → Ty) (k : Key) (all : List Key) (n : ℕ) (ks : List Key)
    → Says types (channel_types types all) n ks
    → Says types (channel_types types (k ∷ all)) (suc n) ks
says_later types k all n [] h = tt
says_later types k all n (i ∷ is) h = (h.0, says_later types k all (suc n) is h.1)

says_all : (types : Place → Ty) (ks : List Key) → Says types (channel_types types ks) 0 ks
says_all types [] = tt
says_all types (k ∷ ks) = (λ j. refl, says_later types k ks 0 ks (says_all types ks))

-- t says of where f names it what types says of a collection
abbrev pub AreNamed : (Place → Ty) → (PlanPlace → Ty) → (Place → PlanPlace) → List Place → Type 0
AreNamed types t f cs = AllByRecursion (λ c. t (f c) ≡ types c) cs

side_typed : (s : Signatures) (types : Place → Ty) (t : PlanPlace → Ty) (f : Place → PlanPlace)
    (outs : Place → Ty) (n i o : ℕ) (l : Bool) (a : Act) (ins : List Place) → IsSide a ins
    → ActTyped s a (map types ins) (types (place n 0)) → outs (place i 0) ≡ types (place n 0)
    → AreNamed types t f (reading_reads (side_channel n o l a ins))
    → InTyped s t outs i (t (f (side_channel n o l a ins).reads))
    (option_map f (side_channel n o l a ins).beside) (side_channel n o l a ins).does
side_typed s types t f outs n i o l (SideInput h) [] p a g e = absurd p
side_typed s types t f outs n i o l (SideInput h) (c ∷ []) p a g e = absurd p
side_typed s types t f outs n i o l (SideInput h) (c ∷ (d ∷ [])) p a g e = record {
  label = record { origin = o; last = l; does = does.Call h; at = 0; out = Some 0 };
  alone = refl;
  function = h;
  calls = refl;
  first = refl;
  kept = refl;
  typed = subst (ActTyped s (SideInput h) (t (f c) ∷ (t (f d) ∷ []))) (sym g)
      (subst (λ (u : Ty). ActTyped s (SideInput h) (u ∷ (t (f d) ∷ [])) (types (place n 0)))
      (sym e.0)
      (subst (λ (u : Ty). ActTyped s (SideInput h) (types c ∷ (u ∷ [])) (types (place n 0)))
      (sym e.1.0) a));
}
side_typed s types t f outs n i o l (SideInput h) (c ∷ (d ∷ (x ∷ xs))) p a g e = absurd p
side_typed s types t f outs n i o l (Operates h) ins p a g e = absurd p
side_typed s types t f outs n i o l (Singleton k) ins p a g e = absurd p

mapper_typed : (s : Signatures) (types : Place → Ty) (t : PlanPlace → Ty) (f : Place → PlanPlace)
    (es : List Entry) (outs : Place → Ty) (n i : ℕ) (o : Option Node) → AreTyped s types es
    → node_at es n ≡ o → IsPdo o → ((j : ℕ) → outs (place i j) ≡ types (place n j))
    → AreNamed types t f (reading_reads (pdo_channel n o))
    → InTyped s t outs i (t (f (pdo_channel n o).reads)) (option_map f (pdo_channel n o).beside)
    (pdo_channel n o).does
mapper_typed s types t f es outs n i None a h p g e = absurd p
mapper_typed s types t f es outs n i (Some (Source r)) a h p g e = absurd p
mapper_typed s types t f es outs n i (Some (Flatten ins)) a h p g e = absurd p
mapper_typed s types t f es outs n i (Some (Gbk c o l k)) a h p g e = absurd p
mapper_typed s types t f es outs n i (Some (Barrier ins x y d)) a h p g e =
    side_typed s types t f outs n i x y d ins p (typed_at s types es n (Barrier ins x y d) a h)
    (g 0) e
mapper_typed s types t f es outs n i (Some (Pdo c x)) a h p g e =
    subst (λ (u : Ty). ForestTyped s outs i u x) (sym e.0)
    (typed_moved s types outs n i (types c) x (λ j _. g j)
    (typed_at s types es n (Pdo c x) a h))

inputs_typed : (s : Signatures) (types : Place → Ty) (t : PlanPlace → Ty) (f : Place → PlanPlace)
    (es : List Entry) (outs : Place → Ty) (n : ℕ) (ks : List Key) → AreTyped s types es
    → AllByRecursion (IsKeyOk es) ks → Says types outs n ks
    → AreNamed types t f (flat_map reading_reads (map (channel_of es) ks))
    → InsTyped s t outs n (inputs es f ks)
inputs_typed s types t f es outs n [] a ok h e = tt
inputs_typed s types t f es outs n (Mapper m ∷ ks) a ok h e =
    let P : Place → Type 0 = λ c. t (f c) ≡ types c in
    let reads : List Place = reading_reads (pdo_channel m (node_at es m)) in
    let more : List Place = flat_map reading_reads (map (channel_of es) ks) in (
      mapper_typed s types t f es outs m n (node_at es m) a refl ok.0 h.0
          (Each-left P reads more e),
      inputs_typed s types t f es outs (suc n) ks a ok.1 h.1 (Each-right P reads more e),
    )
inputs_typed s types t f es outs n (Whole c ∷ ks) a ok h e =
    (h.0 0 ∙ sym e.0, inputs_typed s types t f es outs (suc n) ks a ok.1 h.1 e.1)

pub all_inputs_typed : (s : Signatures) (types : Place → Ty) (t : PlanPlace → Ty)
    (f : Place → PlanPlace) (es : List Entry) (ks : List Key) → AreTyped s types es
    → AllByRecursion (IsKeyOk es) ks
    → AreNamed types t f (flat_map reading_reads (map (channel_of es) ks))
    → InsTyped s t (channel_types types ks) 0 (inputs es f ks)
all_inputs_typed s types t f es ks a ok e =
    inputs_typed s types t f es (channel_types types ks) 0 ks a ok (says_all types ks) e

-- ---- what is taken

place_is : (c : Place) (n : ℕ) → n ≡ c.node → place n c.out ≡ c
place_is c n h = ap (λ (k : ℕ). place k c.out) h

key_typed : (types : Place → Ty) (k : Key) (c : Place) → is_read_under k c ≡ true
    → key_type types (Some k) (key_out k c) ≡ types c
key_typed types (Mapper n) c h = ap types (place_is c n (eqb-true n c.node h))
key_typed types (Whole d) c h = ap types (place_same d c h)

taken_by : (types : Place → Ty) (k : Key) (ks : List Key) (c : Place) (b : Bool)
    → is_read_under k c ≡ b
    → (b ≡ false → key_type types (slice_get ks (position ks c)) (out_in ks c) ≡ types c)
    → key_type types (slice_get (k ∷ ks) (cond b 0 (suc (position ks c))))
    (cond b (key_out k c) (out_in ks c)) ≡ types c
taken_by types k ks c true h r = key_typed types k c h
taken_by types k ks c false h r = r refl

pub taken_typed : (types : Place → Ty) (keys : List Key) (c : Place) → HasKey keys c
    → take_type (channel_types types keys) (take_of keys c) ≡ types c
taken_typed types [] c h = absurd h
taken_typed types (k ∷ ks) c h =
    taken_by types k ks c (is_read_under k c) refl
    (λ e. taken_typed types ks c (behind k ks c e h))

-- ---- what a Gbk groups has the type of what it reads

same_types : (types : Place → Ty) (n : ℕ) (u : Ty) (cs : List Place) → types (place n 0) ≡ u
    → AllByRecursion (λ c. types c ≡ types (place n 0)) cs
    → AllByRecursion (λ c. types c ≡ u) cs
same_types types n u [] e a = tt
same_types types n u (c ∷ cs) e a = (a.0 ∙ e, same_types types n u cs e a.1)

read_typed : (s : Signatures) (types : Place → Ty) (es : List Entry) (c : Place)
    (o : Option Node) → AreTyped s types es → node_at es c.node ≡ o → gives_at o c.out ≡ true
    → AllByRecursion (λ d. types d ≡ types c) (inputs_at c o)
read_typed s types es c None a h t = (refl, tt)
read_typed s types es c (Some (Source r)) a h t = (refl, tt)
read_typed s types es c (Some (Pdo d f)) a h t = (refl, tt)
read_typed s types es c (Some (Gbk d o l k)) a h t = (refl, tt)
read_typed s types es c (Some (Barrier ins i l d)) a h t = (refl, tt)
read_typed s types es c (Some (Flatten ins)) a h t =
    let z : 0 ≡ c.out = sym (eqb-true c.out 0 t) in
    same_types types c.node (types c) ins (ap (λ (j : ℕ). types (place c.node j)) z)
    (typed_at s types es c.node (Flatten ins) a h)

pub takes_typed : (s : Signatures) (types : Place → Ty) (es : List Entry) (keys : List Key)
    (c : Place) → AreTyped s types es → IsThere es c
    → AllByRecursion (IsTakenPlace es keys) (read_through es c)
    → AllByRecursion (λ i. take_type (channel_types types keys) i ≡ types c)
    (map (take_of keys) (read_through es c))
takes_typed s types es keys c a h t =
    all (read_through es c) (read_typed s types es c (node_at es c.node) a refl h) t
  where
    all : (cs : List Place) → AllByRecursion (λ d. types d ≡ types c) cs
        → AllByRecursion (IsTakenPlace es keys) cs
        → AllByRecursion (λ i. take_type (channel_types types keys) i ≡ types c)
        (map (take_of keys) cs)
    all [] e k = tt
    all (d ∷ ds) e k = (taken_typed types keys d k.0.0 ∙ e.0, all ds e.1 k.1)
