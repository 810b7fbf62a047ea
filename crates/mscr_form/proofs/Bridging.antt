-- The operations by the roles of a graph's nodes are those of the graph.
use Rattle.std.proofs.Common.{◌≡◌, ◌+◌, ◌*◌, ◌<◌, ℕ, Bool, true, false, cond, eqb, ◌&&◌, ◌||◌, List, [], ◌∷◌, ◌++◌, map, length, Option, Some, None, suc, refl, sym, ap, ap₂, ◌∙◌, subst, arith}
use Rattle.std.proofs.lemmas.Bool.{eqb-true}
use Rattle.std.proofs.lemmas.List.Concat.{flat_map_single}
use Rattle.std.specs.List.{flat_map, AllByRecursion as Each}
use Rattle.flume_value.proofs.EachLemmas.{Each-append}
use Rattle.exec_graph.specs.Forests.{Forest}
use Rattle.exec_graph.specs.Meaning.{node_at, place}
use Rattle.exec_graph.specs.declared.graph.Act.{Act}
use Rattle.exec_graph.specs.declared.graph.Act.TheVariants.{SideInput, Operate, Singleton}
use Rattle.exec_graph.specs.declared.graph.Place.{Place}
use Rattle.exec_graph.specs.declared.graph.Node.{Node}
use Rattle.exec_graph.specs.declared.graph.Node.TheVariants.{Source, Flatten, Pdo, Gbk, Barrier}
use Rattle.exec_graph.specs.declared.graph.Entry.{Entry}
use Rattle.exec_graph.specs.declared.graph.Blocked.{Blocked}
use Rattle.plan_laws.specs.declared.operations.Key.{Key}
use Rattle.plan_laws.specs.declared.operations.Key.TheVariants.{Mapper, Whole}
use Rattle.plan_laws.specs.declared.operations.Grouped.{Grouped}
use Rattle.plan_laws.specs.declared.operations.Operation.{Operation}
use Rattle.plan_laws.specs.declared.operations.Operation.TheVariants.{Flat, Class}
use Rattle.plan_roles.specs.declared.roles.Part.TheVariants as part
use Rattle.plan_roles.specs.declared.roles.Role.{Role}
use Rattle.plan_roles.specs.Levels.{level}
use Rattle.plan_roles.specs.Mappers.{is_mapper, is_reducer, is_stage, read_key, places_given, reducer_of}
use Rattle.plan_roles.specs.Roles.{act_part, passes_of, role_of, roles}
use Rattle.form_laws.specs.declared.ranked.Ranked.{Ranked}
use Rattle.form_laws.specs.Classes.{IsGbk, IsGbkAt, keys_at as node_keys, keys_taken}
use Rattle.form_laws.specs.Operations.{all_alone, ranked_alone, alone_of, class_keys, class_operation, class_ranked, first_uses, gbk_with_reducer, key_passes, number_of_first, barrier_ranked, operations, passes_at, trivial}
use Rattle.form_laws.proofs.Standing.{inputs_from, keys_are, uses_ok}
use Rattle.mscr_form.specs.inner.Ranking.{all_keys, alone_part, alone_role, class_with, grouped_with, key_passes_with, keys_in_role, level_in_role, operations_with, part_passes, passes_in_role, reducer_in_role, role_in}
use Rattle.mscr_form.proofs.Placing.{part_keys_are}

-- ---- roles by numbers
abbrev role_at_node : Blocked → ℕ → Option Node → Option Role
role_at_node b n None = None
role_at_node b n (Some x) = Some (role_of b (record { number = n; node = x }))

role_by : (b : Blocked) (e : Entry) (es : List Entry) (n : ℕ) (c : Bool) → eqb e.number n ≡ c
    → role_in (map (role_of b) es) n ≡ role_at_node b n (node_at es n)
    → cond c (Some (role_of b e)) (role_in (map (role_of b) es) n)
    ≡ role_at_node b n (cond c (Some e.node) (node_at es n))
role_by b e es n true i h =
    ap (λ (k : ℕ). Some (role_of b (record { number = k; node = e.node }))) (eqb-true e.number n i)
role_by b e es n false i h = h

role_found : (b : Blocked) (es : List Entry) (n : ℕ)
    → role_in (map (role_of b) es) n ≡ role_at_node b n (node_at es n)
role_found b [] n = refl
role_found b (e ∷ es) n = role_by b e es n (eqb e.number n) refl (role_found b es n)

role_is : (b : Blocked) (n : ℕ) → role_in (roles b) n ≡ role_at_node b n (node_at b.graph.nodes n)
role_is b n = role_found b b.graph.nodes n

-- ---- keys, passes and reducers
keys_by : (b : Blocked) (n : ℕ) (o : Option Node)
    → keys_in_role (role_at_node b n o) ≡ node_keys b n o
keys_by b n None = refl
keys_by b n (Some x) = part_keys_are b n x

keys_same : (b : Blocked) (n : ℕ) → keys_in_role (role_in (roles b) n) ≡ keys_taken b n
keys_same b n = ap keys_in_role (role_is b n) ∙ keys_by b n (node_at b.graph.nodes n)

all_keys_same : (b : Blocked) (ns : List ℕ) → all_keys (roles b) ns ≡ flat_map (keys_taken b) ns
all_keys_same b [] = refl
all_keys_same b (n ∷ ns) =
    let i = all_keys_same b ns in
    let k = keys_same b n in
    cc

flat_passes : (s : Bool) → part_passes (cond s part.Stage part.Inlined) ≡ []
flat_passes true = refl
flat_passes false = refl

act_passes : (n : ℕ) (a : Act) → part_passes (act_part n a) ≡ []
act_passes n (SideInput f) = refl
act_passes n (Operate f) = refl
act_passes n (Singleton k) = refl

pdo_passes : (m r : Bool) (ps os : List Place) → m ≡ true
    → part_passes (cond m (part.Mapper ps) (cond r part.Reducer (part.Trivial os))) ≡ ps
pdo_passes m r ps os h = rw h refl

-- a key that is a mapper
abbrev pub IsMapperKey : Blocked → Key → Type 0
IsMapperKey b (Mapper n) = is_mapper b n ≡ true
IsMapperKey b (Whole c) = Unit {0}

passes_by : (b : Blocked) (n : ℕ) (o : Option Node) → is_mapper b n ≡ true
    → passes_in_role (role_at_node b n o) ≡ passes_at b n o
passes_by b n None h = refl
passes_by b n (Some (Source r)) h = refl
passes_by b n (Some (Flatten ins)) h = flat_passes (is_stage b n)
passes_by b n (Some (Gbk c o l k)) h = refl
passes_by b n (Some (Barrier ins o l a)) h = act_passes n a
passes_by b n (Some (Pdo c f)) h =
    pdo_passes (is_mapper b n) (is_reducer b n) (passes_of b n f) (places_given n f) h

passes_same : (b : Blocked) (k : Key) → IsMapperKey b k
    → key_passes_with (roles b) k ≡ key_passes b k
passes_same b (Mapper n) h =
    ap passes_in_role (role_is b n) ∙ passes_by b n (node_at b.graph.nodes n) h
passes_same b (Whole c) h = refl

-- the same lists of the same elements
each_same : {X A : Type 0} (P : X → Type 0) (f g : X → List A) → ((x : X) → P x → f x ≡ g x)
    → (xs : List X) → Each P xs → flat_map f xs ≡ flat_map g xs
each_same P f g h [] a = refl
each_same P f g h (x ∷ xs) a =
    ap₂ (λ ys zs. ys ++ zs) (h x a.0) (each_same P f g h xs a.1)

all_passes_same : (b : Blocked) (ks : List Key) → Each (IsMapperKey b) ks
    → flat_map (key_passes_with (roles b)) ks ≡ flat_map (key_passes b) ks
all_passes_same b ks a =
    each_same (IsMapperKey b) (key_passes_with (roles b)) (key_passes b) (passes_same b) ks a

reducer_by : (b : Blocked) (n : ℕ) (o : Option Node) → IsGbkAt o
    → reducer_in_role (role_at_node b n o) ≡ reducer_of b n
reducer_by b n (Some (Gbk c o l k)) h = refl
reducer_by b n _ h = absurd h

grouped_same : (b : Blocked) (n : ℕ) → IsGbk b n → grouped_with (roles b) n ≡ gbk_with_reducer b n
grouped_same b n h =
    ap (λ (r : Option ℕ). let g : Grouped = record { gbk = n; reducer = r } in g)
    (ap reducer_in_role (role_is b n) ∙ reducer_by b n (node_at b.graph.nodes n) h)

groups_same : (b : Blocked) (ns : List ℕ) → Each (IsGbk b) ns
    → map (grouped_with (roles b)) ns ≡ map (gbk_with_reducer b) ns
groups_same b ns a =
    sym (flat_map_single (grouped_with (roles b)) ns)
    ∙ each_same (IsGbk b) (λ n. grouped_with (roles b) n ∷ []) (λ n. gbk_with_reducer b n ∷ [])
    (λ n h. ap (λ (g : Grouped). g ∷ []) (grouped_same b n h)) ns a
    ∙ flat_map_single (gbk_with_reducer b) ns

level_by : (b : Blocked) (n : ℕ) (o : Option Node) → IsGbkAt o
    → level_in_role (role_at_node b n o) ≡ level b.graph.nodes n
level_by b n None h = absurd h
level_by b n (Some x) h = refl

-- ---- classes
least_gbk : (b : Blocked) (ns : List ℕ) → Each (IsGbk b) ns → 0 < length ns
    → IsGbk b (number_of_first ns)
least_gbk b [] a h = absurd (omega arith)
least_gbk b (n ∷ ns) a h = a.0

ranked_is : (x y : ℕ) (n : ℕ) (o p : Operation) → x ≡ y → o ≡ p
    → (let r : Ranked = record { rank = x; number = n; does = o } in r)
    ≡ (let r : Ranked = record { rank = y; number = n; does = p } in r)
ranked_is x y n o p e f =
    ap (λ (k : ℕ). let r : Ranked = record { rank = k; number = n; does = o } in r) e
    ∙ ap (λ (q : Operation). let r : Ranked = record { rank = y; number = n; does = q } in r) f

class_is : (b : Blocked) (ns : List ℕ) (ks js : List Key) (gs hs : List Grouped)
    (ps qs : List Place) → ks ≡ js → gs ≡ hs → ps ≡ qs → Class ks gs ps ≡ Class js hs qs
class_is b ns ks js gs hs ps qs e f g = cc

key_mapper : (b : Blocked) (n : ℕ) (c : Place) (x y : Bool) → is_mapper b c.node ≡ x
    → IsMapperKey b (cond (x && y) (Mapper c.node) (Whole c))
key_mapper b n c true true h = h
key_mapper b n c true false h = tt
key_mapper b n c false y h = tt

mapped_mappers : (b : Blocked) (n : ℕ) (cs : List Place)
    → Each (IsMapperKey b) (map (read_key b n) cs)
mapped_mappers b n [] = tt
mapped_mappers b n (c ∷ cs) = (
  key_mapper b n c (is_mapper b c.node) (eqb (suc (level b.graph.nodes c.node)) n) refl,
  mapped_mappers b n cs,
)

node_mappers : (b : Blocked) (n : ℕ) → Each (IsMapperKey b) (keys_taken b n)
node_mappers b n =
    subst (Each (IsMapperKey b)) (sym (keys_are b n)) (mapped_mappers b (level b.graph.nodes n)
    (inputs_from b.graph.nodes (node_at b.graph.nodes n)))

flat_mappers : (b : Blocked) (ns : List ℕ) → Each (IsMapperKey b) (flat_map (keys_taken b) ns)
flat_mappers b [] = tt
flat_mappers b (n ∷ ns) =
    Each-append (IsMapperKey b) (keys_taken b n) (flat_map (keys_taken b) ns) (node_mappers b n)
    (flat_mappers b ns)

class_mappers : (b : Blocked) (ns : List ℕ) → Each (IsMapperKey b) (class_keys b ns)
class_mappers b ns = uses_ok (IsMapperKey b) (flat_map (keys_taken b) ns) (flat_mappers b ns)

class_same : (b : Blocked) (ns : List ℕ) → Each (IsGbk b) ns
    → 0 < length ns → class_with (roles b) ns ≡ class_ranked b ns
class_same b ns a h =
    let ks : first_uses (all_keys (roles b) ns) ≡ class_keys b ns =
    ap first_uses (all_keys_same b ns) in
    let n : ℕ = number_of_first ns in
    let lev : level_in_role (role_in (roles b) n) ≡ level b.graph.nodes n =
    ap level_in_role (role_is b n)
    ∙ level_by b n (node_at b.graph.nodes n) (least_gbk b ns a h) in
    let rank : level_in_role (role_in (roles b) n) * 2 ≡ 2 * level b.graph.nodes n = omega arith in
    ranked_is (level_in_role (role_in (roles b) n) * 2) (2 * level b.graph.nodes n) n
    (Class (first_uses (all_keys (roles b) ns)) (map (grouped_with (roles b)) ns)
    (flat_map (key_passes_with (roles b)) (first_uses (all_keys (roles b) ns))))
    (class_operation b ns) rank
    (class_is b ns (first_uses (all_keys (roles b) ns)) (class_keys b ns)
    (map (grouped_with (roles b)) ns) (map (gbk_with_reducer b) ns)
    (flat_map (key_passes_with (roles b)) (first_uses (all_keys (roles b) ns)))
    (flat_map (key_passes b) (class_keys b ns)) ks (groups_same b ns a)
    (ap (λ (l : List Key). flat_map (key_passes_with (roles b)) l) ks
    ∙ all_passes_same b (class_keys b ns) (class_mappers b ns)))

classes_same : (b : Blocked) (cs : List (List ℕ)) → Each (Each (IsGbk b)) cs
    → Each (λ c. 0 < length c) cs
    → map (class_with (roles b)) cs ≡ map (class_ranked b) cs
classes_same b [] a h = refl
classes_same b (c ∷ cs) a h =
    let i = classes_same b cs a.1 h.1 in
    let j = class_same b c a.0 h.0 in
    cc

-- ---- Pdos and Flattens by themselves
alone_is : (b : Blocked) (n : ℕ) (o : Operation) (x : ℕ) → x ≡ suc (2 * level b.graph.nodes n)
    → (let r : Ranked = record { rank = x; number = n; does = o } in r) ∷ []
    ≡ ranked_alone b n o ∷ []
alone_is b n o x e =
    ap (λ (k : ℕ). (let r : Ranked = record { rank = k; number = n; does = o } in r) ∷ []) e

twice : (l : ℕ) → l * 2 + 1 ≡ suc (2 * l)
twice l = omega arith

flat_alone : (b : Blocked) (n : ℕ) (x : Node) (s : Bool)
    → alone_part (role_of b (record { number = n; node = x })) (cond s part.Stage part.Inlined)
    ≡ cond s (ranked_alone b n (Flat n) ∷ []) []
flat_alone b n x true =
    alone_is b n (Flat n) (level b.graph.nodes n * 2 + 1) (twice (level b.graph.nodes n))
flat_alone b n x false = refl

pdo_alone : (b : Blocked) (n : ℕ) (x : Node) (f : Forest) (m r : Bool) (ps : List Place)
    → alone_part (role_of b (record { number = n; node = x }))
    (cond m (part.Mapper ps) (cond r part.Reducer (part.Trivial (places_given n f))))
    ≡ cond (m || r) [] (ranked_alone b n (trivial n f) ∷ [])
pdo_alone b n x f true r ps = refl
pdo_alone b n x f false true ps = refl
pdo_alone b n x f false false ps =
    alone_is b n (trivial n f) (level b.graph.nodes n * 2 + 1) (twice (level b.graph.nodes n))

barrier_is : (b : Blocked) (n : ℕ) (o : Operation) (x y : ℕ) → x ≡ y
    → (let r : Ranked = record { rank = x; number = n; does = o } in r) ∷ []
    ≡ (let r : Ranked = record { rank = y; number = n; does = o } in r) ∷ []
barrier_is b n o x y e =
    ap (λ (k : ℕ). (let r : Ranked = record { rank = k; number = n; does = o } in r) ∷ []) e

double : (l : ℕ) → l * 2 ≡ 2 * l
double l = omega arith

act_alone : (b : Blocked) (n : ℕ) (x : Node) (a : Act)
    → alone_part (role_of b (record { number = n; node = x })) (act_part n a)
    ≡ barrier_ranked b n a ∷ []
act_alone b n x (SideInput f) =
    let l : ℕ = level b.graph.nodes n in
    barrier_is b n (Class (Mapper n ∷ []) [] (place n 0 ∷ [])) (l * 2 + 1) (suc (2 * l)) (twice l)
act_alone b n x (Operate f) =
    let l : ℕ = level b.graph.nodes n in barrier_is b n (Flat n) (l * 2) (2 * l) (double l)
act_alone b n x (Singleton k) =
    let l : ℕ = level b.graph.nodes n in barrier_is b n (Flat n) (l * 2) (2 * l) (double l)

alone_same : (b : Blocked) (n : ℕ) (x : Node)
    → alone_role (role_of b (record { number = n; node = x })) ≡ alone_of b n x
alone_same b n (Source r) = refl
alone_same b n (Gbk c o l k) = refl
alone_same b n (Barrier ins o l a) = act_alone b n (Barrier ins o l a) a
alone_same b n (Flatten ins) = flat_alone b n (Flatten ins) (is_stage b n)
alone_same b n (Pdo c f) =
    pdo_alone b n (Pdo c f) f (is_mapper b n) (is_reducer b n) (passes_of b n f)

all_alone_same : (b : Blocked) (es : List Entry)
    → flat_map alone_role (map (role_of b) es) ≡ all_alone b es
all_alone_same b [] = refl
all_alone_same b (e ∷ es) =
    let i = all_alone_same b es in
    let j = alone_same b e.number e.node in
    cc

pub operations_same : (b : Blocked) (cs : List (List ℕ)) → Each (Each (IsGbk b)) cs
    → Each (λ c. 0 < length c) cs
    → operations_with (roles b) cs ≡ operations b cs
operations_same b cs a h =
    let c = classes_same b cs a h in
    let d = all_alone_same b b.graph.nodes in
    cc
