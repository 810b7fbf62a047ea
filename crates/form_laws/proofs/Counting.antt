-- Each Pdo and each Gbk is carried out once.
use Rattle.std.proofs.Common.{◌≡◌, ℕ, ◌+◌, ◌<◌, Bool, true, false, cond, eqb, ◌||◌, List, [], ◌∷◌, ◌++◌, map, Option, Some, None, zero, suc, refl, sym, ap, ◌∙◌, subst, arith, inl, inr}
use Rattle.std.proofs.lemmas.Bool.{eqb-true, eq-eqb, false≢true}
use Rattle.std.specs.List.{flat_map, AllByRecursion as Each}
use Rattle.combine_table.specs.declared.comb.Comb.{Comb}
use Rattle.exec_graph.specs.Forests.{Forest}
use Rattle.exec_graph.specs.Meaning.{AllDiffer, node_at, place}
use Rattle.exec_graph.specs.Readers.{among}
use Rattle.exec_graph.specs.declared.graph.Act.{Act}
use Rattle.exec_graph.specs.declared.graph.Act.TheVariants.{SideInput, Operate, Singleton}
use Rattle.exec_graph.specs.declared.graph.Place.{Place}
use Rattle.exec_graph.specs.declared.graph.Node.{Node}
use Rattle.exec_graph.specs.declared.graph.Node.TheVariants.{Source, Flatten, Pdo, Gbk, Barrier}
use Rattle.exec_graph.specs.declared.graph.Entry.{Entry}
use Rattle.exec_graph.specs.declared.graph.Blocked.{Blocked}
use Rattle.plan_laws.specs.declared.operations.Key.{Key}
use Rattle.plan_laws.specs.declared.operations.Key.TheVariants.{Mapper}
use Rattle.plan_laws.specs.declared.operations.Operation.{Operation}
use Rattle.plan_laws.specs.declared.operations.Operation.TheVariants.{Flat, Class}
use Rattle.plan_laws.specs.Operations.{IsIn, IsReducer, IsPdoOn, key_runs, reducer_runs, runs, times_named, works_at}
use Rattle.plan_roles.specs.Mappers.{is_mapper, is_reducer, is_stage, maps_at, reducer_of}
use Rattle.form_laws.specs.declared.ranked.Ranked.{Ranked}
use Rattle.form_laws.specs.Classes.{IsGbk, IsGbkAt, has_same, keys_taken, class_members}
use Rattle.form_laws.specs.Operations.{all_alone, ranked_alone, alone_of, class_keys, class_ranked, barrier_ranked, operations, trivial}
use Rattle.form_laws.proofs.Basics.{one_among, times_append}
use Rattle.form_laws.proofs.Classing.{AreParts, each_counted, gbk_node, member_gbk, node_gbk}
use Rattle.form_laws.proofs.Keying.{class_mapper, classes_runs, keys_times, no_keys, one_key, reducers}
use Rattle.form_laws.proofs.Meeting.{reducer_found}
use Rattle.form_laws.proofs.Ordering.{runs_of}
use Rattle.form_laws.proofs.Providing.{KeyIn, maps_in}
use Rattle.form_laws.proofs.Serving.{reduces_one}
use Rattle.form_laws.proofs.Reading.{reducer_ok, reducer_only}

-- ---- what stands by itself
zero_times : (n m : ℕ) (b : Bool) → eqb m n ≡ b → (m ≡ n → ⊥) → times_named n (m ∷ []) ≡ 0
zero_times n m true e f = absurd (f (eqb-true m n e))
zero_times n m false e f = rw e (let z : 0 + 0 ≡ 0 = omega arith in z)

pub one_time : (n : ℕ) → times_named n (n ∷ []) ≡ 1
one_time n = rw (eq-eqb n n refl) (let z : 1 + 0 ≡ 1 = omega arith in z)

flat_other : (b : Blocked) (m n : ℕ) (s : Bool) → (m ≡ n → ⊥)
    → times_named n (runs_of (cond s (ranked_alone b m (Flat m) ∷ []) [])) ≡ 0
flat_other b m n true f = zero_times n m (eqb m n) refl f
flat_other b m n false f = refl

pdo_other : (b : Blocked) (m n : ℕ) (g : Forest) (s : Bool) → (m ≡ n → ⊥)
    → times_named n (runs_of (cond s [] (ranked_alone b m (trivial m g) ∷ []))) ≡ 0
pdo_other b m n g true f = refl
pdo_other b m n g false f = zero_times n m (eqb m n) refl f

barrier_other : (b : Blocked) (m n : ℕ) (a : Act) → (m ≡ n → ⊥)
    → times_named n (runs_of (barrier_ranked b m a ∷ [])) ≡ 0
barrier_other b m n (SideInput g) f = zero_times n m (eqb m n) refl f
barrier_other b m n (Operate g) f = zero_times n m (eqb m n) refl f
barrier_other b m n (Singleton k) f = zero_times n m (eqb m n) refl f

barrier_time : (b : Blocked) (n : ℕ) (a : Act)
    → times_named n (runs_of (barrier_ranked b n a ∷ [])) ≡ 1
barrier_time b n (SideInput g) = one_time n
barrier_time b n (Operate g) = one_time n
barrier_time b n (Singleton k) = one_time n

alone_other : (b : Blocked) (m n : ℕ) (x : Node) → (m ≡ n → ⊥)
    → times_named n (runs_of (alone_of b m x)) ≡ 0
alone_other b m n (Source r) f = refl
alone_other b m n (Gbk c o l k) f = refl
alone_other b m n (Barrier ins o l a) f = barrier_other b m n a f
alone_other b m n (Flatten ins) f = flat_other b m n (is_stage b m) f
alone_other b m n (Pdo c g) f = pdo_other b m n g (is_mapper b m || is_reducer b m) f

runs_append : (n : ℕ) (xs ys : List Ranked)
    → times_named n (runs_of (xs ++ ys)) ≡ times_named n (runs_of xs) + times_named n (runs_of ys)
runs_append n [] ys = omega arith
runs_append n (x ∷ xs) ys =
    let a = times_append n (runs x.does) (runs_of (xs ++ ys)) in
    let c = times_append n (runs x.does) (runs_of xs) in
    let i = runs_append n xs ys in
    omega arith

others_alone : (b : Blocked) (n : ℕ) (es : List Entry) → Each (λ d. d.number ≡ n → ⊥) es
    → times_named n (runs_of (all_alone b es)) ≡ 0
others_alone b n [] a = refl
others_alone b n (e ∷ es) a =
    let s = runs_append n (alone_of b e.number e.node) (all_alone b es) in
    let z = alone_other b e.number n e.node a.0 in
    let i = others_alone b n es a.1 in
    omega arith

one_alone_by : (b : Blocked) (n : ℕ) (x : Node) (e : Entry) (es : List Entry) (c : Bool)
    → eqb e.number n ≡ c → Each (λ d. d.number ≡ e.number → ⊥) es
    → cond c (Some e.node) (node_at es n) ≡ Some x
    → (node_at es n ≡ Some x
    → times_named n (runs_of (all_alone b es)) ≡ times_named n (runs_of (alone_of b n x)))
    → times_named n (runs_of (all_alone b (e ∷ es))) ≡ times_named n (runs_of (alone_of b n x))
one_alone_by b n x e es true i d h f =
    let same : e.node ≡ x = cc in
    let m : e.number ≡ n = eqb-true e.number n i in
    let s = runs_append n (alone_of b e.number e.node) (all_alone b es) in
    let z = others_alone b n es (subst (λ (k : ℕ). Each (λ d. d.number ≡ k → ⊥) es) m d) in
    let here : times_named n (runs_of (alone_of b e.number e.node))
    ≡ times_named n (runs_of (alone_of b n x)) =
    ap (λ (k : ℕ). times_named n (runs_of (alone_of b k e.node))) m
    ∙ ap (λ (y : Node). times_named n (runs_of (alone_of b n y))) same in
    omega arith
one_alone_by b n x e es false i d h f =
    let s = runs_append n (alone_of b e.number e.node) (all_alone b es) in
    let z = alone_other b e.number n e.node (λ j. false≢true (sym i ∙ eq-eqb e.number n j)) in
    let r = f h in
    omega arith

one_alone : (b : Blocked) (n : ℕ) (x : Node) (es : List Entry) → AllDiffer es
    → node_at es n ≡ Some x
    → times_named n (runs_of (all_alone b es)) ≡ times_named n (runs_of (alone_of b n x))
one_alone b n x [] d h = let bad : ⊥ = cc in absurd bad
one_alone b n x (e ∷ es) d h =
    one_alone_by b n x e es (eqb e.number n) refl d.0 h (λ i. one_alone b n x es d.1 i)

-- what runs in all
pub all_runs : (b : Blocked) (cs : List (List ℕ)) (n : ℕ) (x : Node) → AllDiffer b.graph.nodes
    → node_at b.graph.nodes n ≡ Some x → times_named n (runs_of (operations b cs))
    ≡ (keys_times b n cs + (times_named n (class_members cs) + times_named n
    (reducers b (class_members cs))))
    + times_named n (runs_of (alone_of b n x))
all_runs b cs n x d h =
    runs_append n (map (class_ranked b) cs) (all_alone b b.graph.nodes)
    ∙ ap (λ (k : ℕ). k + times_named n (runs_of (all_alone b b.graph.nodes))) (classes_runs b n cs)
    ∙ ap (λ (k : ℕ). (keys_times b n cs
    + (times_named n (class_members cs) + times_named n (reducers b (class_members cs)))) + k)
    (one_alone b n x b.graph.nodes d h)

-- ---- reducers
no_run : (n : ℕ) (o : Option ℕ) → (o ≡ Some n → ⊥) → times_named n (reducer_runs o) ≡ 0
no_run n None f = refl
no_run n (Some k) f = zero_times n k (eqb k n) refl (λ h. f (ap (λ (i : ℕ). Some i) h))

one_run : (n : ℕ) (o : Option ℕ) → o ≡ Some n → times_named n (reducer_runs o) ≡ 1
one_run n o h = ap (λ (x : Option ℕ). times_named n (reducer_runs x)) h ∙ one_time n

pub reducers_none : (b : Blocked) (n : ℕ) (gs : List ℕ)
    → Each (λ g. reducer_of b g ≡ Some n → ⊥) gs → times_named n (reducers b gs) ≡ 0
reducers_none b n [] a = refl
reducers_none b n (g ∷ gs) a =
    let s = times_append n (reducer_runs (reducer_of b g)) (reducers b gs) in
    let z = no_run n (reducer_of b g) a.0 in
    let i = reducers_none b n gs a.1 in
    omega arith

reducers_one : (b : Blocked) (n k : ℕ) (gs : List ℕ)
    → Each (λ g. times_named n (reducer_runs (reducer_of b g)) ≡ cond (eqb g k) 1 0) gs
    → times_named n (reducers b gs) ≡ times_named k gs
reducers_one b n k [] a = refl
reducers_one b n k (g ∷ gs) a =
    let s = times_append n (reducer_runs (reducer_of b g)) (reducers b gs) in
    let z : times_named n (reducer_runs (reducer_of b g)) ≡ cond (eqb g k) 1 0 = a.0 in
    let i = reducers_one b n k gs a.1 in
    omega arith

pub all_true : {X : Type 0} (P : X → Type 0) → ((x : X) → P x) → (xs : List X) → Each P xs
all_true P h [] = tt
all_true P h (x ∷ xs) = (h x, all_true P h xs)

pub reads_it : (b : Blocked) (n g : ℕ) (x : Node) → AllDiffer b.graph.nodes
    → node_at b.graph.nodes n ≡ Some x → reducer_of b g ≡ Some n → IsPdoOn (place g 0) (Some x)
reads_it b n g x d h e =
    subst (IsPdoOn (place g 0)) h
    (subst (IsReducer b.graph.nodes g) e (reducer_ok b g d))

mapper_no_reducer : (b : Blocked) (n g : ℕ) (d : Place) (f : Forest) → AllDiffer b.graph.nodes
    → node_at b.graph.nodes n ≡ Some (Pdo d f) → is_mapper b n ≡ true
    → reducer_of b g ≡ Some n → ⊥
mapper_no_reducer b n g d f differ h m e =
    let r : d ≡ place g 0 = reads_it b n g (Pdo d f) differ h e in
    let i : among (place g 0) (d ∷ []) ≡ true =
    ap (λ (c : Place). among (place g 0) (c ∷ [])) r ∙ one_among (place g 0) [] in
    false≢true (sym (reducer_only b g n n (Pdo d f) e h i).mapper ∙ m)

reducer_run : (b : Blocked) (n k g : ℕ) (d : Place) (f : Forest) (x : Bool)
    → AllDiffer b.graph.nodes → node_at b.graph.nodes n ≡ Some (Pdo d f)
    → reducer_of b k ≡ Some n → eqb g k ≡ x
    → times_named n (reducer_runs (reducer_of b g)) ≡ cond x 1 0
reducer_run b n k g d f true differ h e i =
    one_run n (reducer_of b g) (ap (reducer_of b) (eqb-true g k i) ∙ e)
reducer_run b n k g d f false differ h e i =
    no_run n (reducer_of b g) (λ j.
    let p : d ≡ place g 0 = reads_it b n g (Pdo d f) differ h j in
    let q : d ≡ place k 0 = reads_it b n k (Pdo d f) differ h e in
    false≢true (sym i ∙ eq-eqb g k (ap (λ (c : Place). c.node) (sym p ∙ q))))

-- ---- keys
abbrev keys_of_op : Operation → List Key
keys_of_op (Flat n) = []
keys_of_op (Class keys gs cs) = keys

key_in_times : (n : ℕ) (ks : List Key) → KeyIn (Mapper n) ks
    → 0 < times_named n (flat_map key_runs ks)
key_in_times n [] h = absurd h
key_in_times n (k ∷ ks) (inl e) =
    let s = times_append n (key_runs k) (flat_map key_runs ks) in
    let a : times_named n (key_runs k) ≡ 1 =
    ap (λ (x : Key). times_named n (key_runs x)) e ∙ one_time n in
    omega arith
key_in_times n (k ∷ ks) (inr h) =
    let s = times_append n (key_runs k) (flat_map key_runs ks) in
    let i = key_in_times n ks h in
    omega arith

some_keys : (b : Blocked) (n : ℕ) (ms : List ℕ) (cs : List (List ℕ))
    → KeyIn (Mapper n) (class_keys b ms) → IsIn (class_ranked b ms) (map (class_ranked b) cs)
    → 0 < keys_times b n cs
some_keys b n ms [] k h = absurd h
some_keys b n ms (c ∷ cs) k (inl e) =
    let same : class_keys b c ≡ class_keys b ms = ap (λ (y : Ranked). keys_of_op y.does) e in
    let t = key_in_times n (class_keys b c) (subst (KeyIn (Mapper n)) (sym same) k) in
    omega arith
some_keys b n ms (c ∷ cs) k (inr h) = let i = some_keys b n ms cs k h in omega arith

pub no_mapper_keys : (b : Blocked) (n : ℕ) (cs : List (List ℕ)) → is_mapper b n ≡ false
    → keys_times b n cs ≡ 0
no_mapper_keys b n cs i =
    no_keys b n cs (all_true (λ ns. has_same (flat_map (keys_taken b) ns) (Mapper n) ≡ true → ⊥)
    (λ ns e. false≢true (sym i ∙ class_mapper b n ns e)) cs)

-- ---- a Pdo: a mapper, a reducer, or neither
one_if : (b : Blocked) (n : ℕ) (f : Forest)
    → times_named n (runs_of (ranked_alone b n (trivial n f) ∷ [])) ≡ 1
one_if b n f = one_time n

not_some : (k : ℕ) → (0 < k → ⊥) → k ≡ 0
not_some zero f = refl
not_some (suc k) f = absurd (f (omega arith))

not_gbk : (b : Blocked) (cs : List (List ℕ)) → AreParts b cs → (n : ℕ) (d : Place) (f : Forest)
    → node_at b.graph.nodes n ≡ Some (Pdo d f) → times_named n (class_members cs) ≡ 0
not_gbk b cs p n d f h =
    let bad : 0 < times_named n (class_members cs) → ⊥ =
    λ t. subst IsGbkAt h (member_gbk b cs p.gbks n t) in
    none (times_named n (class_members cs)) bad
  where
    none : (k : ℕ) → (0 < k → ⊥) → k ≡ 0
    none zero f = refl
    none (suc k) f = absurd (f (omega arith))

pdo_once : (b : Blocked) (cs : List (List ℕ)) → AreParts b cs → (n : ℕ) (d : Place) (f : Forest)
    (x y : Bool) → AllDiffer b.graph.nodes → node_at b.graph.nodes n ≡ Some (Pdo d f)
    → is_mapper b n ≡ x → is_reducer b n ≡ y → keys_times b n cs
    + (times_named n (reducers b (class_members cs)) + times_named n
    (runs_of (alone_of b n (Pdo d f)))) ≡ 1
pdo_once b cs p n d f true y differ h i j =
    let m = maps_in b cs p n d f differ h i in
    let ks : keys_times b n cs ≡ 1 =
    one_key b n cs p.apart (some_keys b n m.class.gbks cs m.key m.class.among) in
    let rs : times_named n (reducers b (class_members cs)) ≡ 0 =
    reducers_none b n (class_members cs) (all_true (λ g. reducer_of b g ≡ Some n → ⊥)
    (λ g e. mapper_no_reducer b n g d f differ h i e) (class_members cs)) in
    let ps : times_named n (runs_of (alone_of b n (Pdo d f))) ≡ 0 =
    ap (λ (x : Bool). times_named n
    (runs_of (cond (x || is_reducer b n) [] (ranked_alone b n (trivial n f) ∷ [])))) i in
    omega arith
pdo_once b cs p n d f false true differ h i j =
    let es : List Entry = b.graph.nodes in
    let ks = no_mapper_keys b n cs i in
    let e = reduces_one b n differ j in
    let gbk : IsGbk b e.gbk = subst IsGbkAt (sym e.at) (node_gbk e.node e.is) in
    let rs : times_named n (reducers b (class_members cs)) ≡ 1 =
    reducers_one b n e.gbk (class_members cs)
    (all_true (λ k. times_named n (reducer_runs (reducer_of b k)) ≡ cond (eqb k e.gbk) 1 0)
    (λ k. reducer_run b n e.gbk k d f (eqb k e.gbk) differ h e.by refl) (class_members cs))
    ∙ p.once e.gbk gbk in
    let ps : times_named n (runs_of (alone_of b n (Pdo d f))) ≡ 0 =
    ap (λ (x : Bool). times_named n (runs_of (cond (x || is_reducer b n) []
    (ranked_alone b n (trivial n f) ∷ [])))) i
    ∙ ap (λ (x : Bool). times_named n (runs_of (cond x [] (ranked_alone b n (trivial n f) ∷ [])))) j
    in
    omega arith
pdo_once b cs p n d f false false differ h i j =
    let ks = no_mapper_keys b n cs i in
    let rs : times_named n (reducers b (class_members cs)) ≡ 0 =
    reducers_none b n (class_members cs) (each_counted (λ g. reducer_of b g ≡ Some n → ⊥)
    (class_members cs)
    (λ g t e. let x = gbk_node (node_at b.graph.nodes g) (member_gbk b cs p.gbks g t) in
    false≢true (sym j ∙ reducer_found b g n x.0 x.1 x.2 e))) in
    let ps : times_named n (runs_of (alone_of b n (Pdo d f))) ≡ 1 =
    ap (λ (x : Bool). times_named n (runs_of (cond (x || is_reducer b n) []
    (ranked_alone b n (trivial n f) ∷ [])))) i
    ∙ ap (λ (x : Bool). times_named n (runs_of (cond x [] (ranked_alone b n (trivial n f) ∷ [])))) j
    ∙ one_if b n f in
    omega arith

gbk_once : (b : Blocked) (cs : List (List ℕ)) → AreParts b cs → (n : ℕ) (c : Place) (o : ℕ)
    (last : Bool) (k : Option Comb) → AllDiffer b.graph.nodes
    → node_at b.graph.nodes n ≡ Some (Gbk c o last k)
    → times_named n (runs_of (operations b cs)) ≡ 1
gbk_once b cs p n c o last k differ h =
    let all = all_runs b cs n (Gbk c o last k) differ h in
    let gs : times_named n (class_members cs) ≡ 1 = p.once n (subst IsGbkAt (sym h) tt) in
    let ks = no_mapper_keys b n cs (ap (maps_at b n) h) in
    let rs : times_named n (reducers b (class_members cs)) ≡ 0 =
    reducers_none b n (class_members cs) (all_true (λ g. reducer_of b g ≡ Some n → ⊥)
    (λ g e. reads_it b n g (Gbk c o last k) differ h e) (class_members cs)) in
    omega arith

barrier_once : (b : Blocked) (cs : List (List ℕ)) → AreParts b cs
    → (n : ℕ) (ins : List Place) (o : ℕ)
    (l : Bool) (a : Act) → AllDiffer b.graph.nodes
    → node_at b.graph.nodes n ≡ Some (Barrier ins o l a)
    → times_named n (runs_of (operations b cs)) ≡ 1
barrier_once b cs p n ins o l a differ h =
    let all = all_runs b cs n (Barrier ins o l a) differ h in
    let bad : 0 < times_named n (class_members cs) → ⊥ =
    λ t. subst IsGbkAt h (member_gbk b cs p.gbks n t) in
    let gs : times_named n (class_members cs) ≡ 0 =
    not_some (times_named n (class_members cs)) bad in
    let ks = no_mapper_keys b n cs (ap (maps_at b n) h) in
    let rs : times_named n (reducers b (class_members cs)) ≡ 0 =
    reducers_none b n (class_members cs) (all_true (λ g. reducer_of b g ≡ Some n → ⊥)
    (λ g e. reads_it b n g (Barrier ins o l a) differ h e) (class_members cs)) in
    let t = barrier_time b n a in
    omega arith

once_by : (b : Blocked) (cs : List (List ℕ)) → AreParts b cs → (n : ℕ) (x : Option Node)
    → AllDiffer b.graph.nodes → node_at b.graph.nodes n ≡ x → works_at x ≡ true
    → times_named n (runs_of (operations b cs)) ≡ 1
once_by b cs p n None d h w = absurd (false≢true w)
once_by b cs p n (Some (Source r)) d h w = absurd (false≢true w)
once_by b cs p n (Some (Flatten ins)) d h w = absurd (false≢true w)
once_by b cs p n (Some (Gbk c o last k)) d h w = gbk_once b cs p n c o last k d h
once_by b cs p n (Some (Barrier ins o l a)) d h w = barrier_once b cs p n ins o l a d h
once_by b cs p n (Some (Pdo c f)) d h w =
    let all = all_runs b cs n (Pdo c f) d h in
    let gs = not_gbk b cs p n c f h in
    let rest = pdo_once b cs p n c f (is_mapper b n) (is_reducer b n) d h refl refl in
    omega arith

pub runs_once : (b : Blocked) (cs : List (List ℕ)) → AreParts b cs → AllDiffer b.graph.nodes
    → (n : ℕ) → works_at (node_at b.graph.nodes n) ≡ true
    → times_named n (runs_of (operations b cs)) ≡ 1
runs_once b cs p d n w = once_by b cs p n (node_at b.graph.nodes n) d refl w
