-- Each operation that is formed stands for nodes of the graph.
use Rattle.std.proofs.Common.{◌≡◌, ◌⊎◌, ℕ, Bool, true, false, cond, not, eqb, ◌&&◌, List, [], ◌∷◌, ◌++◌, map, Option, Some, None, suc, refl, sym, ap, ◌∙◌, subst, inl, inr}
use Rattle.std.proofs.lemmas.Bool.{eq-eqb, false≢true}
use Rattle.std.specs.List.{flat_map, AllByRecursion as Each, filter}
use Rattle.flume_value.proofs.EachLemmas.{Each-append, Each-both, Each-weaker}
use Rattle.exec_graph.specs.Forests.{Forest}
use Rattle.exec_graph.specs.Meaning.{IsSound, IsThere, gives_at, has_out, node_at, place, reads}
use Rattle.exec_graph.specs.Wellformed.{has_objects}
use Rattle.exec_graph.specs.declared.graph.Act.{Act}
use Rattle.exec_graph.specs.declared.graph.Act.TheVariants.{SideInput, Operate, Singleton}
use Rattle.exec_graph.specs.declared.graph.Place.{Place}
use Rattle.exec_graph.specs.declared.graph.Node.{Node}
use Rattle.exec_graph.specs.declared.graph.Node.TheVariants.{Source, Flatten, Pdo, Gbk, Barrier}
use Rattle.exec_graph.specs.declared.graph.Entry.{Entry}
use Rattle.exec_graph.specs.declared.graph.Blocked.{Blocked}
use Rattle.exec_graph.proofs.Entries.{all_found}
use Rattle.plan_rules.specs.of_exec_plan.Channels.{outs_of}
use Rattle.plan_rules.proofs.of_graph_laws.ReadPlaces.{same_self}
use Rattle.plan_laws.specs.declared.operations.Key.{Key}
use Rattle.plan_laws.specs.declared.operations.Key.TheVariants.{Mapper, Whole}
use Rattle.plan_laws.specs.Operations.{HasKey, IsFlat, IsGroupedOk, IsHonest, IsKeyOk, IsPdo, IsTakenPlace, TakesInputs, is_read_under, inputs_at, read_through}
use Rattle.plan_laws.proofs.Carrying.{outs_has}
use Rattle.plan_roles.specs.Levels.{level}
use Rattle.plan_roles.specs.Mappers.{is_mapper, read_key, places_given, passes}
use Rattle.plan_roles.specs.Roles.{passes_of}
use Rattle.plan_rules.specs.Fitting.{same_key}
pub use Rattle.plan_rules.specs.Fitting.{gbk_inputs as inputs_from}
use Rattle.form_laws.specs.Classes.{IsGbk, IsGbkAt, keys_at, keys_taken}
use Rattle.form_laws.specs.Operations.{class_keys, class_operation, first_uses, gbk_with_reducer, key_passes, barrier_does, passes_at, trivial}
use Rattle.form_laws.proofs.Basics.{all_kept}
use Rattle.form_laws.proofs.Classing.{key_same}
use Rattle.form_laws.proofs.Reading.{mapper_pdo, reducer_ok}

pub all_mapped : {X Y : Type 0} (f : X → Y) (P : Y → Type 0) → ((x : X) → P (f x)) → (xs : List X)
    → Each P (map f xs)
all_mapped f P h [] = tt
all_mapped f P h (x ∷ xs) = (h x, all_mapped f P h xs)

all_flat : {X Y : Type 0} (f : X → List Y) (P : Y → Type 0) → ((x : X) → Each P (f x))
    → (xs : List X) → Each P (flat_map f xs)
all_flat f P h [] = tt
all_flat f P h (x ∷ xs) = Each-append P (f x) (flat_map f xs) (h x) (all_flat f P h xs)

-- ---- keys

keys_map : (b : Blocked) (n : ℕ) (o : Option Node) → keys_at b n o
    ≡ map (read_key b (level b.graph.nodes n)) (inputs_from b.graph.nodes o)
keys_map b n (Some (Gbk c o l k)) = refl
keys_map b n _ = refl

-- the keys of the node n, one for each input
pub keys_are : (b : Blocked) (n : ℕ) → keys_taken b n
    ≡ map (read_key b (level b.graph.nodes n))
    (inputs_from b.graph.nodes (node_at b.graph.nodes n))
keys_are b n = keys_map b n (node_at b.graph.nodes n)

key_ok_by : (b : Blocked) (c : Place) (x y : Bool) → is_mapper b c.node ≡ x
    → IsKeyOk b.graph.nodes (cond (x && y) (Mapper c.node) (Whole c))
key_ok_by b c true true h = mapper_pdo b c.node (node_at b.graph.nodes c.node) h
key_ok_by b c true false h = tt
key_ok_by b c false y h = tt

key_ok : (b : Blocked) (n : ℕ) (c : Place) → IsKeyOk b.graph.nodes (read_key b n c)
key_ok b n c =
    key_ok_by b c (is_mapper b c.node) (eqb (suc (level b.graph.nodes c.node)) n) refl

key_has_by : (c : Place) (x : Bool) → is_read_under (cond x (Mapper c.node) (Whole c)) c ≡ true
key_has_by c true = eq-eqb c.node c.node refl
key_has_by c false = same_self c

pub key_has : (b : Blocked) (n : ℕ) (c : Place) → is_read_under (read_key b n c) c ≡ true
key_has b n c =
    key_has_by c (is_mapper b c.node && eqb (suc (level b.graph.nodes c.node)) n)

node_keys_ok : (b : Blocked) (n : ℕ) → Each (IsKeyOk b.graph.nodes) (keys_taken b n)
node_keys_ok b n =
    subst (Each (IsKeyOk b.graph.nodes)) (sym (keys_are b n))
    (all_mapped (read_key b (level b.graph.nodes n)) (IsKeyOk b.graph.nodes)
    (key_ok b (level b.graph.nodes n)) (inputs_from b.graph.nodes (node_at b.graph.nodes n)))

keys_ok : (b : Blocked) (ns : List ℕ) → Each (IsKeyOk b.graph.nodes) (flat_map (keys_taken b) ns)
keys_ok b ns = all_flat (keys_taken b) (IsKeyOk b.graph.nodes) (node_keys_ok b) ns

pub uses_ok : (P : Key → Type 0) (ks : List Key) → Each P ks → Each P (first_uses ks)
uses_ok P [] a = tt
uses_ok P (k ∷ ks) a =
    (a.0, all_kept P (λ j. not (same_key k j)) (first_uses ks) (uses_ok P ks a.1))

has_left : (xs ys : List Key) (c : Place) → HasKey xs c → HasKey (xs ++ ys) c
has_left [] ys c h = absurd h
has_left (x ∷ xs) ys c (inl h) = inl h
has_left (x ∷ xs) ys c (inr h) = inr (has_left xs ys c h)

has_right : (xs ys : List Key) (c : Place) → HasKey ys c → HasKey (xs ++ ys) c
has_right [] ys c h = h
has_right (x ∷ xs) ys c h = inr (has_right xs ys c h)

-- what is dropped is the key that stays
not_dropped_by : (k j : Key) (js : List Key) (c : Place) (b : Bool) → same_key k j ≡ b
    → is_read_under j c ≡ true → (is_read_under k c ≡ true) ⊎ HasKey (cond (not b) (j ∷ js) js) c
not_dropped_by k j js c true e h = inl (ap (λ (i : Key). is_read_under i c) (key_same k j e) ∙ h)
not_dropped_by k j js c false e h = inr (inl h)

still_by : (k j : Key) (js : List Key) (c : Place) (b : Bool)
    → (is_read_under k c ≡ true) ⊎ HasKey js c
    → (is_read_under k c ≡ true) ⊎ HasKey (cond (not b) (j ∷ js) js) c
still_by k j js c b (inl h) = inl h
still_by k j js c true (inr h) = inr h
still_by k j js c false (inr h) = inr (inr h)

not_dropped : (k : Key) (js : List Key) (c : Place) → HasKey js c
    → (is_read_under k c ≡ true) ⊎ HasKey (filter (λ j. not (same_key k j)) js) c
not_dropped k [] c h = absurd h
not_dropped k (j ∷ js) c (inl h) =
    not_dropped_by k j (filter (λ j. not (same_key k j)) js) c (same_key k j) refl h
not_dropped k (j ∷ js) c (inr h) =
    still_by k j (filter (λ j. not (same_key k j)) js) c (same_key k j) (not_dropped k js c h)

uses_has : (ks : List Key) (c : Place) → HasKey ks c → HasKey (first_uses ks) c
uses_has [] c h = absurd h
uses_has (k ∷ ks) c (inl h) = inl h
uses_has (k ∷ ks) c (inr h) = not_dropped k (first_uses ks) c (uses_has ks c h)

inputs_have : (b : Blocked) (n : ℕ) (cs : List Place) → Each (HasKey (map (read_key b n) cs)) cs
inputs_have b n [] = tt
inputs_have b n (c ∷ cs) = (
  inl (key_has b n c),
  Each-weaker (HasKey (map (read_key b n) cs)) (HasKey (read_key b n c ∷ map (read_key b n) cs))
      (λ d h. inr h) cs (inputs_have b n cs),
)

node_has : (b : Blocked) (n : ℕ) → Each (HasKey (keys_taken b n))
    (inputs_from b.graph.nodes (node_at b.graph.nodes n))
node_has b n =
    let ins : List Place = inputs_from b.graph.nodes (node_at b.graph.nodes n) in
    subst (λ ks. Each (HasKey ks) ins) (sym (keys_are b n))
    (inputs_have b (level b.graph.nodes n) ins)

-- each input of each Gbk of the class has its key
class_has : (b : Blocked) (ns : List ℕ)
    → Each (λ n. Each (HasKey (flat_map (keys_taken b) ns))
    (inputs_from b.graph.nodes (node_at b.graph.nodes n))) ns
class_has b [] = tt
class_has b (n ∷ ns) =
    let es : List Entry = b.graph.nodes in
    let all : List Key = flat_map (keys_taken b) ns in (
      Each-weaker (HasKey (keys_taken b n)) (HasKey (keys_taken b n ++ all))
          (λ c h. has_left (keys_taken b n) all c h) (inputs_from es (node_at es n)) (node_has b n),
      Each-weaker (λ k. Each (HasKey all) (inputs_from es (node_at es k)))
          (λ k. Each (HasKey (keys_taken b n ++ all)) (inputs_from es (node_at es k)))
          (λ k h. Each-weaker (HasKey all) (HasKey (keys_taken b n ++ all))
          (λ c i. has_right (keys_taken b n) all c i) (inputs_from es (node_at es k)) h) ns
          (class_has b ns),
    )

-- ---- inputs are there
pub inputs_there : (es : List Entry) (c : Place) (o : Option Node)
    → Each (λ e. Each (IsThere es) (reads e.node)) es → node_at es c.node ≡ o → IsThere es c
    → Each (IsThere es) (inputs_at c o)
inputs_there es c None a h t = (t, tt)
inputs_there es c (Some (Source r)) a h t = (t, tt)
inputs_there es c (Some (Flatten ins)) a h t =
    all_found (λ e. Each (IsThere es) (reads e.node)) es c.node (Flatten ins) h a
inputs_there es c (Some (Pdo d f)) a h t = (t, tt)
inputs_there es c (Some (Gbk d o l k)) a h t = (t, tt)
inputs_there es c (Some (Barrier ins i l d)) a h t = (t, tt)

takes_by : (es : List Entry) (keys : List Key) (n : ℕ) (o : Option Node)
    → Each (λ e. Each (IsThere es) (reads e.node)) es → node_at es n ≡ o → IsGbkAt o
    → Each (HasKey keys) (inputs_from es o) → TakesInputs es keys o
takes_by es keys n None a h g i = absurd g
takes_by es keys n (Some (Source r)) a h g i = absurd g
takes_by es keys n (Some (Flatten ins)) a h g i = absurd g
takes_by es keys n (Some (Pdo d f)) a h g i = absurd g
takes_by es keys n (Some (Gbk c o l k)) a h g i =
    let t : IsThere es c =
    (all_found (λ e. Each (IsThere es) (reads e.node)) es n (Gbk c o l k) h a).0 in
    Each-both (HasKey keys) (IsThere es) (IsTakenPlace es keys) (λ c x y. (x, y))
    (read_through es c) i
    (inputs_there es c (node_at es c.node) a refl t)
takes_by es keys n (Some (Barrier ins x y d)) a h g i = absurd g

-- ---- what passes through
outs_at_there : (es : List Entry) (n : ℕ) (d : Place) (f : Forest) (js : List ℕ)
    → node_at es n ≡ Some (Pdo d f) → Each (λ j. has_out j f ≡ true) js
    → Each (λ c. (c.node ≡ n) × IsThere es c) (map (place n) js)
outs_at_there es n d f [] h a = tt
outs_at_there es n d f (j ∷ js) h a =
    ((refl, ap (λ (o : Option Node). gives_at o j) h ∙ a.0), outs_at_there es n d f js h a.1)

pub outs_there : (es : List Entry) (n : ℕ) (d : Place) (f : Forest)
    → node_at es n ≡ Some (Pdo d f) → Each (λ c. (c.node ≡ n) × IsThere es c) (places_given n f)
outs_there es n d f h = outs_at_there es n d f (outs_of f) h (outs_has f)

-- what passes through of a Pdo, or nothing
pub at_passes : (P : List Place → Type 0) (b : Blocked) (n : ℕ) (o : Option Node) → P []
    → ((c : Place) (f : Forest) → o ≡ Some (Pdo c f) → P (passes_of b n f)) → P (passes_at b n o)
at_passes P b n (Some (Pdo c f)) e p = p c f refl
at_passes P b n _ e p = e

pub passes_there : (b : Blocked) (n : ℕ) (o : Option Node) → node_at b.graph.nodes n ≡ o
    → Each (λ c. (c.node ≡ n) × IsThere b.graph.nodes c) (passes_at b n o)
passes_there b n o h =
    at_passes (Each (λ c. (c.node ≡ n) × IsThere b.graph.nodes c)) b n o tt
    (λ d f i. all_kept (λ c. (c.node ≡ n) × IsThere b.graph.nodes c) (passes b) (places_given n f)
    (outs_there b.graph.nodes n d f (h ∙ i)))

passes_ok : (b : Blocked) (all ks : List Key) → ((c : Place) → HasKey ks c → HasKey all c)
    → Each (IsTakenPlace b.graph.nodes all) (flat_map (key_passes b) ks)
passes_ok b all [] h = tt
passes_ok b all (Whole c ∷ ks) h = passes_ok b all ks (λ d i. h d (inr i))
passes_ok b all (Mapper n ∷ ks) h =
    let es : List Entry = b.graph.nodes in
    let cs : List Place = passes_at b n (node_at es n) in
    Each-append (IsTakenPlace es all) cs (flat_map (key_passes b) ks)
    (Each-weaker (λ c. (c.node ≡ n) × IsThere es c) (IsTakenPlace es all)
    (λ c i. (h c (inl (eq-eqb n c.node (sym i.0))), i.1)) cs
    (passes_there b n (node_at es n) refl))
    (passes_ok b all ks (λ d i. h d (inr i)))

-- ---- operations
groups_ok : (b : Blocked) (keys : List Key) (ns : List ℕ) → IsSound b.graph → Each (IsGbk b) ns
    → Each (λ n. Each (HasKey keys) (inputs_from b.graph.nodes (node_at b.graph.nodes n))) ns
    → Each (IsGroupedOk b.graph.nodes keys) (map (gbk_with_reducer b) ns)
groups_ok b keys [] ok g h = tt
groups_ok b keys (n ∷ ns) ok g h = (
  (
    takes_by b.graph.nodes keys n (node_at b.graph.nodes n) ok.there refl g.0 h.0,
    reducer_ok b n ok.differ,
  ),
  groups_ok b keys ns ok g.1 h.1,
)

-- a class of Gbks stands for nodes of the graph
pub class_honest : (b : Blocked) (ns : List ℕ) → IsSound b.graph → Each (IsGbk b) ns
    → IsHonest b.graph.nodes (class_operation b ns)
class_honest b ns ok g =
    let es : List Entry = b.graph.nodes in
    let keys : List Key = class_keys b ns in
    let all : List Key = flat_map (keys_taken b) ns in (
      uses_ok (IsKeyOk es) all (keys_ok b ns),
      groups_ok b keys ns ok g
          (Each-weaker (λ n. Each (HasKey all) (inputs_from es (node_at es n)))
          (λ n. Each (HasKey keys) (inputs_from es (node_at es n)))
          (λ n h. Each-weaker (HasKey all) (HasKey keys) (λ c i. uses_has all c i)
          (inputs_from es (node_at es n)) h) ns (class_has b ns)),
      passes_ok b keys keys (λ c h. h),
    )

-- and so does a Pdo by itself
pub trivial_honest : (es : List Entry) (n : ℕ) (d : Place) (f : Forest)
    → node_at es n ≡ Some (Pdo d f) → IsHonest es (trivial n f)
trivial_honest es n d f h = (
  (subst IsPdo (sym h) tt, tt),
  tt,
  Each-weaker (λ c. (c.node ≡ n) × IsThere es c) (IsTakenPlace es (Mapper n ∷ []))
      (λ c i. (inl (eq-eqb n c.node (sym i.0)), i.1)) (places_given n f) (outs_there es n d f h),
)

-- and so does what takes collections whole
pub barrier_honest : (es : List Entry) (n : ℕ) (ins : List Place) (o : ℕ) (l : Bool) (a : Act)
    → node_at es n ≡ Some (Barrier ins o l a) → has_objects es (Barrier ins o l a) ≡ true
    → IsHonest es (barrier_does n a)
barrier_honest es n [] o l (SideInput f) h t = absurd (false≢true t)
barrier_honest es n (c ∷ []) o l (SideInput f) h t = absurd (false≢true t)
barrier_honest es n (c ∷ (d ∷ [])) o l (SideInput f) h t = (
  (subst IsPdo (sym h) tt, tt),
  tt,
  ((inl (eq-eqb n n refl), ap (λ (x : Option Node). gives_at x 0) h), tt),
)
barrier_honest es n (c ∷ (d ∷ (e ∷ ds))) o l (SideInput f) h t = absurd (false≢true t)
barrier_honest es n ins o l (Operate f) h t = subst IsFlat (sym h) tt
barrier_honest es n ins o l (Singleton k) h t = subst IsFlat (sym h) tt
