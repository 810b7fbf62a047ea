-- The roles of a graph by their places.
use Rattle.std.proofs.Common.{◌≡◌, ◌<◌, ℕ, Bool, true, false, cond, eqb, List, [], ◌∷◌, map, length, Some, zero, suc, refl, sym, ap, ◌∙◌, subst, arith, get_or}
use Rattle.std.proofs.lemmas.Bool.{eqb-true, false≢true}
use Rattle.std.specs.List.{AllByRecursion as Each}
use Rattle.exec_graph.specs.Meaning.{AllDiffer, node_at}
use Rattle.exec_graph.specs.Wellformed.{Ascends}
use Rattle.exec_graph.specs.declared.graph.Act.{Act}
use Rattle.exec_graph.specs.declared.graph.Act.TheVariants.{SideInput, Operate, Singleton}
use Rattle.exec_graph.specs.declared.graph.Place.{Place}
use Rattle.exec_graph.specs.declared.graph.Node.{Node}
use Rattle.exec_graph.specs.declared.graph.Node.TheVariants.{Source, Flatten, Pdo, Gbk, Barrier}
use Rattle.exec_graph.specs.declared.graph.Entry.{Entry}
use Rattle.exec_graph.specs.declared.graph.Blocked.{Blocked}
use Rattle.exec_graph.proofs.Solving.{each_found}
use Rattle.plan_roles.specs.declared.roles.Part.TheVariants as part
use Rattle.plan_roles.specs.declared.roles.Role.{Role}
use Rattle.plan_roles.specs.Levels.{level}
use Rattle.plan_roles.specs.Mappers.{is_mapper, is_reducer, is_stage}
use Rattle.plan_roles.specs.Roles.{act_part, role_part, role_of, roles}
use Rattle.form_laws.specs.Classes.{IsGbk, IsGbkAt, keys_at as node_keys, keys_taken}
use Rattle.mscr_form.specs.inner.Buckets.{is_group}
use Rattle.mscr_form.specs.inner.Labels.{role_keys, level_at, no_role, part_keys, role_at}

-- ---- parts
flat_keys : (s : Bool) → part_keys (cond s part.Stage part.Inlined) ≡ []
flat_keys true = refl
flat_keys false = refl

pdo_keys : (m r : Bool) (ps os : List Place)
    → part_keys (cond m (part.Mapper ps) (cond r part.Reducer (part.Trivial os))) ≡ []
pdo_keys true r ps os = refl
pdo_keys false true ps os = refl
pdo_keys false false ps os = refl

act_keys : (n : ℕ) (a : Act) → part_keys (act_part n a) ≡ []
act_keys n (SideInput f) = refl
act_keys n (Operate f) = refl
act_keys n (Singleton k) = refl

pub part_keys_are : (b : Blocked) (n : ℕ) (x : Node)
    → part_keys (role_part b n x) ≡ node_keys b n (Some x)
part_keys_are b n (Source r) = refl
part_keys_are b n (Flatten ins) = flat_keys (is_stage b n)
part_keys_are b n (Pdo c f) = pdo_keys (is_mapper b n) (is_reducer b n) _ _
part_keys_are b n (Gbk c o l k) = refl
part_keys_are b n (Barrier ins o l a) = act_keys n a

flat_group : (s : Bool) → is_group (cond s part.Stage part.Inlined) ≡ false
flat_group true = refl
flat_group false = refl

pdo_group : (m r : Bool) (ps os : List Place)
    → is_group (cond m (part.Mapper ps) (cond r part.Reducer (part.Trivial os))) ≡ false
pdo_group true r ps os = refl
pdo_group false true ps os = refl
pdo_group false false ps os = refl

act_group : (n : ℕ) (a : Act) → is_group (act_part n a) ≡ false
act_group n (SideInput f) = refl
act_group n (Operate f) = refl
act_group n (Singleton k) = refl

group_gbk : (b : Blocked) (n : ℕ) (x : Node) → is_group (role_part b n x) ≡ true → IsGbkAt (Some x)
group_gbk b n (Source r) h = absurd (false≢true h)
group_gbk b n (Flatten ins) h = absurd (false≢true (sym (flat_group (is_stage b n)) ∙ h))
group_gbk b n (Pdo c f) h =
    absurd (false≢true (sym (pdo_group (is_mapper b n) (is_reducer b n) _ _) ∙ h))
group_gbk b n (Gbk c o l k) h = tt
group_gbk b n (Barrier ins o l a) h = absurd (false≢true (sym (act_group n a) ∙ h))

gbk_group : (b : Blocked) (n : ℕ) (x : Node) → IsGbkAt (Some x) → is_group (role_part b n x) ≡ true
gbk_group b n (Source r) h = absurd h
gbk_group b n (Flatten ins) h = absurd h
gbk_group b n (Pdo c f) h = absurd h
gbk_group b n (Gbk c o l k) h = refl
gbk_group b n (Barrier ins o l a) h = absurd h

-- ---- places
-- the entry at a place, and its role
pub record Placed (b : Blocked) (i : ℕ) : Type 0 where
  pub entry : Entry
  pub node : node_at b.graph.nodes entry.number ≡ Some entry.node
  pub role : role_at (roles b) i ≡ role_of b entry

placed_in : (b : Blocked) (es : List Entry) (i : ℕ)
    → Each (λ e. node_at b.graph.nodes e.number ≡ Some e.node) es → i < length es
    → (e : Entry) × (node_at b.graph.nodes e.number ≡ Some e.node)
    × (get_or (map (role_of b) es) i no_role ≡ role_of b e)
placed_in b [] i a h = absurd (omega arith)
placed_in b (e ∷ es) zero a h = (e, a.0, refl)
placed_in b (e ∷ es) (suc i) a h = placed_in b es i a.1 (omega arith)

map_length : {X Y : Type 0} (f : X → Y) (xs : List X) → length (map f xs) ≡ length xs
map_length f [] = refl
map_length f (x ∷ xs) = ap suc (map_length f xs)

pub placed : (b : Blocked) (i : ℕ) → AllDiffer b.graph.nodes → i < length (roles b) → Placed b i
placed b i d h =
    let n : length (roles b) ≡ length b.graph.nodes = map_length (role_of b) b.graph.nodes in
    let p = placed_in b b.graph.nodes i (each_found b.graph.nodes d) (omega arith) in
    record { entry = p.0; node = p.1; role = p.2 }

abbrev pub number_at : List Role → ℕ → ℕ
number_at rs i = (role_at rs i).number

-- a role of keys has those of its node
pub keys_placed : (b : Blocked) (i : ℕ) → AllDiffer b.graph.nodes → i < length (roles b)
    → role_keys (roles b) i ≡ keys_taken b (number_at (roles b) i)
keys_placed b i d h =
    let p = placed b i d h in
    ap (λ (r : Role). part_keys r.part) p.role
    ∙ part_keys_are b p.entry.number p.entry.node
    ∙ sym (ap (node_keys b p.entry.number) p.node)
    ∙ sym (ap (λ (r : Role). keys_taken b r.number) p.role)

pub level_placed : (b : Blocked) (i : ℕ) → AllDiffer b.graph.nodes → i < length (roles b)
    → level_at (roles b) i ≡ level b.graph.nodes (number_at (roles b) i)
level_placed b i d h =
    let p = placed b i d h in
    ap (λ (r : Role). r.level) p.role
    ∙ sym (ap (λ (r : Role). level b.graph.nodes r.number) p.role)

pub group_placed : (b : Blocked) (i : ℕ) → AllDiffer b.graph.nodes → i < length (roles b)
    → is_group (role_at (roles b) i).part ≡ true → IsGbk b (number_at (roles b) i)
group_placed b i d h g =
    let p = placed b i d h in
    subst (λ (r : Role). IsGbk b r.number) (sym p.role)
    (subst IsGbkAt (sym p.node) (group_gbk b p.entry.number p.entry.node
    (ap (λ (r : Role). is_group r.part) (sym p.role) ∙ g)))

-- ---- the place of a node
pub record PlaceOf (b : Blocked) (n : ℕ) : Type 0 where
  pub at : ℕ
  pub within : at < length (roles b)
  pub number : number_at (roles b) at ≡ n
  pub group : IsGbk b n → is_group (role_at (roles b) at).part ≡ true

place_by : (b : Blocked) (e : Entry) (es : List Entry) (n : ℕ) (x : Node) (c : Bool)
    → eqb e.number n ≡ c → cond c (Some e.node) (node_at es n) ≡ Some x
    → (node_at es n ≡ Some x → (i : ℕ) × (i < length es)
    × (get_or (map (role_of b) es) i no_role ≡ role_of b (record { number = n; node = x })))
    → (i : ℕ) × (i < length (e ∷ es))
    × (get_or (map (role_of b) (e ∷ es)) i no_role ≡ role_of b (record { number = n; node = x }))
place_by b e es n x true i h f =
    let same : e.node ≡ x = cc in (
      0,
      omega arith,
      ap (λ (k : ℕ). role_of b (record { number = k; node = e.node }))
          (eqb-true e.number n i) ∙ ap (λ (y : Node). role_of b (record { number = n; node = y }))
          same,
    )
place_by b e es n x false i h f = let r = f h in (suc r.0, omega (arith, r.1), r.2)

place_in : (b : Blocked) (es : List Entry) (n : ℕ) (x : Node) → node_at es n ≡ Some x
    → (i : ℕ) × (i < length es)
    × (get_or (map (role_of b) es) i no_role ≡ role_of b (record { number = n; node = x }))
place_in b [] n x h = let bad : ⊥ = cc in absurd bad
place_in b (e ∷ es) n x h =
    place_by b e es n x (eqb e.number n) refl h (λ i. place_in b es n x i)

pub place_of : (b : Blocked) (n : ℕ) (x : Node) → node_at b.graph.nodes n ≡ Some x → PlaceOf b n
place_of b n x h =
    let p = place_in b b.graph.nodes n x h in
    let len : length (roles b) ≡ length b.graph.nodes = map_length (role_of b) b.graph.nodes in
    record {
      at = p.0;
      within = omega (arith, p.1);
      number = ap (λ (r : Role). r.number) p.2;
      group = λ g. ap (λ (r : Role). is_group r.part) p.2
          ∙ gbk_group b n x (subst IsGbkAt h g);
    }

-- ---- no two places have one number
number_here : (b : Blocked) (n : ℕ) (es : List Entry) (j : ℕ)
    → Each (λ d. d.number ≡ n → ⊥) es → j < length es
    → (get_or (map (role_of b) es) j no_role).number ≡ n → ⊥
number_here b n [] j a h e = omega arith
number_here b n (d ∷ ds) zero a h e = a.0 e
number_here b n (d ∷ ds) (suc j) a h e = number_here b n ds j a.1 (omega arith) e

numbers_apart : (b : Blocked) (es : List Entry) (i j : ℕ) → AllDiffer es → i < length es
    → j < length es → (get_or (map (role_of b) es) i no_role).number
    ≡ (get_or (map (role_of b) es) j no_role).number → i ≡ j
numbers_apart b [] i j d h g e = absurd (omega arith)
numbers_apart b (x ∷ xs) zero zero d h g e = refl
numbers_apart b (x ∷ xs) zero (suc j) d h g e =
    absurd (number_here b x.number xs j d.0 (omega arith) (sym e))
numbers_apart b (x ∷ xs) (suc i) zero d h g e =
    absurd (number_here b x.number xs i d.0 (omega arith) e)
numbers_apart b (x ∷ xs) (suc i) (suc j) d h g e =
    ap suc (numbers_apart b xs i j d.1 (omega arith) (omega arith) e)

pub one_place : (b : Blocked) (i j : ℕ) → AllDiffer b.graph.nodes → i < length (roles b)
    → j < length (roles b) → number_at (roles b) i ≡ number_at (roles b) j → i ≡ j
one_place b i j d h g e =
    let n : length (roles b) ≡ length b.graph.nodes = map_length (role_of b) b.graph.nodes in
    numbers_apart b b.graph.nodes i j d (omega arith) (omega arith) e

-- ---- numbers rise with places
first_less : (b : Blocked) (n : ℕ) (es : List Entry) (j : ℕ) → Each (λ d. n < d.number) es
    → j < length es → n < (get_or (map (role_of b) es) j no_role).number
first_less b n [] j a h = absurd (omega arith)
first_less b n (d ∷ ds) zero a h = a.0
first_less b n (d ∷ ds) (suc j) a h = first_less b n ds j a.1 (omega arith)

less_in : (b : Blocked) (es : List Entry) (i j : ℕ) → Ascends es → i < j → j < length es
    → (get_or (map (role_of b) es) i no_role).number
    < (get_or (map (role_of b) es) j no_role).number
less_in b [] i j a h g = absurd (omega arith)
less_in b (x ∷ xs) i zero a h g = absurd (omega arith)
less_in b (x ∷ xs) zero (suc j) a h g = first_less b x.number xs j a.0 (omega arith)
less_in b (x ∷ xs) (suc i) (suc j) a h g = less_in b xs i j a.1 (omega arith) (omega arith)

pub less_placed : (b : Blocked) (i j : ℕ) → Ascends b.graph.nodes → i < j → j < length (roles b)
    → number_at (roles b) i < number_at (roles b) j
less_placed b i j a h g =
    let n : length (roles b) ≡ length b.graph.nodes = map_length (role_of b) b.graph.nodes in
    less_in b b.graph.nodes i j a h (omega arith)
