-- Who gives a collection.
use Rattle.std.proofs.Common.{◌≡◌, ℕ, ◌*◌, ◌≤◌, ◌⊎◌, Bool, true, false, cond, not, eqb, ◌&&◌, ◌||◌, List, [], ◌∷◌, ◌++◌, map, Option, Some, None, suc, refl, sym, ap, ◌∙◌, subst, arith, inl, inr}
use Rattle.std.proofs.lemmas.Bool.{eqb-true, false≢true}
use Rattle.std.specs.List.{flat_map}
use Rattle.exec_graph.specs.Forests.{Forest}
use Rattle.exec_graph.specs.Meaning.{AllDiffer, IsSound, has_out, node_at, place, gives as node_gives}
use Rattle.exec_graph.specs.declared.graph.Act.{Act}
use Rattle.exec_graph.specs.declared.graph.Act.TheVariants.{SideInput, Operate, Singleton}
use Rattle.exec_graph.specs.declared.graph.Input.{Input}
use Rattle.exec_graph.specs.declared.graph.Place.{Place}
use Rattle.exec_graph.specs.declared.graph.Node.{Node}
use Rattle.exec_graph.specs.declared.graph.Node.TheVariants.{Source, Flatten, Pdo, Gbk, Barrier}
use Rattle.exec_graph.specs.declared.graph.Entry.{Entry}
use Rattle.exec_graph.specs.declared.graph.Blocked.{Blocked}
use Rattle.exec_graph.proofs.Solving.{each_found}
use Rattle.plan_laws.specs.declared.operations.Key.{Key}
use Rattle.plan_laws.specs.declared.operations.Grouped.{Grouped}
use Rattle.plan_laws.specs.declared.operations.Operation.{Operation}
use Rattle.plan_laws.specs.declared.operations.Operation.TheVariants.{Flat, Class}
use Rattle.plan_laws.specs.Operations.{IsIn, IsReducer, IsPdoOn, gives_of, group_gives, outs_at, reduced, source_place, source_places}
use Rattle.plan_roles.specs.Levels.{level}
use Rattle.plan_roles.specs.Reading.{goes_on}
use Rattle.plan_roles.specs.Mappers.{is_mapper, is_reducer, is_stage, places_given, passes, reducer_of, reduces}
use Rattle.form_laws.specs.declared.ranked.Ranked.{Ranked}
use Rattle.form_laws.specs.Operations.{all_alone, ranked_alone, class_keys, class_level, class_operation, class_ranked, gbk_with_reducer, key_passes, barrier_ranked, operations, passes_at, trivial}
use Rattle.plan_rules.proofs.Members.{in_left, in_right}
use Rattle.form_laws.proofs.Basics.{any_at, in_filter}
use Rattle.form_laws.proofs.Classing.{AreParts}
use Rattle.form_laws.proofs.Leveling.{levels_at}
use Rattle.form_laws.proofs.Meeting.{IsMet, is_some_of}
use Rattle.form_laws.proofs.Reading.{is_flatten, is_gbk, out_in, reducer_ok}
use Rattle.form_laws.proofs.Providing.{ClassOf, alone_in, class_gives, class_of, maps_in, passes_in}

-- ---- who gives a collection
-- whether the node is a Flatten
abbrev pub ends_at : Option Node → Bool
ends_at None = false
ends_at (Some x) = is_flatten x

-- a Flatten that Gbks and script outputs alone read
abbrev pub is_end : List Entry → Operation → Bool
is_end es (Flat n) = ends_at (node_at es n) && not (goes_on es (place n 0))
is_end es (Class keys groups passes) = false

pub record Served (b : Blocked) (cs : List (List ℕ)) (c : Place) : Type 0 where
  pub by : Ranked
  pub among : IsIn by (operations b cs)
  pub gives : IsIn c (gives_of b.graph.nodes by.does)
  pub bound :
      ((is_mapper b c.node ≡ true) × (by.rank ≡ 2 * suc (level b.graph.nodes c.node)))
      ⊎ ((by.rank ≤ 2 * level b.graph.nodes c.node)
      ⊎ ((by.rank ≡ suc (2 * level b.graph.nodes c.node)) × (by.number ≡ c.node)))
  pub flat : is_end b.graph.nodes by.does ≡ true → (x : Node)
      → node_at b.graph.nodes c.node ≡ Some x
      → is_flatten x ≡ true
  pub ends : (is_end b.graph.nodes by.does ≡ false)
      ⊎ ((by.does ≡ Flat c.node) × (place c.node 0 ≡ c))

place_is : (c : Place) → c.out ≡ 0 → place c.node 0 ≡ c
place_is c h = ap (λ (j : ℕ). place c.node j) (sym h)

source_by : (e : Entry) (es : List Entry) (n : ℕ) (r : Input) (b : Bool) → eqb e.number n ≡ b
    → cond b (Some e.node) (node_at es n) ≡ Some (Source r)
    → (node_at es n ≡ Some (Source r) → IsIn (place n 0) (source_places es))
    → IsIn (place n 0) (source_place e.number e.node ++ source_places es)
source_by e es n r true i h f =
    let d : e.node ≡ Source r = cc in
    in_left (place n 0) (source_place e.number e.node) (source_places es)
    (subst (λ (x : Node). IsIn (place n 0) (source_place e.number x)) (sym d)
    (inl (ap (λ (k : ℕ). place k 0) (eqb-true e.number n i))))
source_by e es n r false i h f =
    in_right (place n 0) (source_place e.number e.node) (source_places es) (f h)

source_in : (es : List Entry) (n : ℕ) (r : Input) → node_at es n ≡ Some (Source r)
    → IsIn (place n 0) (source_places es)
source_in [] n r h = let bad : ⊥ = cc in absurd bad
source_in (e ∷ es) n r h =
    source_by e es n r (eqb e.number n) refl h (λ i. source_in es n r i)

reducer_out : (b : Blocked) (c d : Place) (f : Forest)
    → node_at b.graph.nodes c.node ≡ Some (Pdo d f) → has_out c.out f ≡ true
    → IsIn c (map (place c.node) (outs_at (node_at b.graph.nodes c.node)))
reducer_out b c d f h g =
    subst (λ (o : Option Node). IsIn c (map (place c.node) (outs_at o))) (sym h)
    (out_in c.node c.out f g)

never : {X : Type 0} → false ≡ true → X
never i = absurd (false≢true i)

serve_flat : (b : Blocked) (cs : List (List ℕ)) (c : Place) (ins : List Place)
    → node_at b.graph.nodes c.node ≡ Some (Flatten ins) → c.out ≡ 0 → is_stage b c.node ≡ true
    → Served b cs c
serve_flat b cs c ins h z s =
    let y : Ranked = ranked_alone b c.node (Flat c.node) in
    record {
      by = y;
      among = in_right y (map (class_ranked b) cs) (all_alone b b.graph.nodes)
          (alone_in b b.graph.nodes c.node (Flatten ins) y h
          (subst (λ x. IsIn y (cond x (y ∷ []) [])) (sym s) (inl refl)));
      gives = inl (place_is c z);
      bound = inr (inr (refl, refl));
      flat = λ _ x e. (let same : Some (Flatten ins) ≡ Some x = sym h ∙ e in
          let is : Flatten ins ≡ x = cc in ap is_flatten (sym is));
      ends = inr (refl, place_is c z);
    }

-- what gives an object
abbrev object_ranked : Blocked → ℕ → Ranked
object_ranked b n =
    record { rank = 2 * level b.graph.nodes n; number = n; does = Flat n }

serve_object : (b : Blocked) (cs : List (List ℕ)) (c : Place) (ins : List Place) (o : ℕ) (l : Bool)
    (a : Act) → node_at b.graph.nodes c.node ≡ Some (Barrier ins o l a) → c.out ≡ 0
    → ends_at (Some (Barrier ins o l a)) ≡ false
    → barrier_ranked b c.node a ≡ object_ranked b c.node → Served b cs c
serve_object b cs c ins o l a h z e same =
    let es : List Entry = b.graph.nodes in
    let y : Ranked = object_ranked b c.node in
    let end : is_end es (Flat c.node) ≡ false =
    ap (λ (x : Option Node). ends_at x && not (goes_on es (place c.node 0))) h
    ∙ ap (λ (x : Bool). x && not (goes_on es (place c.node 0))) e in
    record {
      by = y;
      among = in_right y (map (class_ranked b) cs) (all_alone b es)
          (alone_in b es c.node (Barrier ins o l a) y h (inl same));
      gives = inl (place_is c z);
      bound = inr (inl (omega arith));
      flat = λ i x e. never (sym end ∙ i);
      ends = inl end;
    }

serve_barrier : (b : Blocked) (cs : List (List ℕ)) (c : Place) (ins : List Place) (o : ℕ) (l : Bool)
    (a : Act) → node_at b.graph.nodes c.node ≡ Some (Barrier ins o l a) → c.out ≡ 0 → Served b cs c
serve_barrier b cs c ins o l (SideInput f) h z =
    let y : Ranked = barrier_ranked b c.node (SideInput f) in
    record {
      by = y;
      among = in_right y (map (class_ranked b) cs) (all_alone b b.graph.nodes)
          (alone_in b b.graph.nodes c.node (Barrier ins o l (SideInput f)) y h (inl refl));
      gives = inl (place_is c z);
      bound = inr (inr (refl, refl));
      flat = λ i. never i;
      ends = inl refl;
    }
serve_barrier b cs c ins o l (Operate f) h z = serve_object b cs c ins o l (Operate f) h z refl refl
serve_barrier b cs c ins o l (Singleton k) h z =
    serve_object b cs c ins o l (Singleton k) h z refl refl

serve_class : (b : Blocked) (cs : List (List ℕ)) (n : ℕ) (k : ClassOf b cs n) (c : Place)
    → IsIn c (gives_of b.graph.nodes (class_operation b k.gbks))
    → ((is_mapper b c.node ≡ true)
    × (level b.graph.nodes n ≡ suc (level b.graph.nodes c.node)))
    ⊎ (level b.graph.nodes n ≡ level b.graph.nodes c.node) → Served b cs c
serve_class b cs n k c i h =
    let r : 2 * class_level b k.gbks ≡ 2 * level b.graph.nodes n =
    ap (λ (x : ℕ). 2 * x) k.level in
    record {
      by = class_ranked b k.gbks;
      among = in_left (class_ranked b k.gbks) (map (class_ranked b) cs)
          (all_alone b b.graph.nodes) k.among;
      gives = i;
      bound = elim h [
        | inl m ↦ inl (m.0, r ∙ ap (λ (x : ℕ). 2 * x) m.1)
        | inr e ↦ inr (inl (omega arith))
      ];
      flat = λ i. never i;
      ends = inl refl;
    }

serve_mapper : (b : Blocked) (cs : List (List ℕ)) → AreParts b cs → (c d : Place) (f : Forest)
    → AllDiffer b.graph.nodes → node_at b.graph.nodes c.node ≡ Some (Pdo d f)
    → has_out c.out f ≡ true → is_mapper b c.node ≡ true → passes b c ≡ true → Served b cs c
serve_mapper b cs p c d f differ h g m t =
    let k = maps_in b cs p c.node d f differ h m in
    let passed : IsIn c (passes_at b c.node (node_at b.graph.nodes c.node)) =
    subst (λ (o : Option Node). IsIn c (passes_at b c.node o)) (sym h)
    (in_filter (passes b) c (places_given c.node f) (out_in c.node c.out f g) t) in
    serve_class b cs k.gbk k.class c
    (in_right c (flat_map (group_gives b.graph.nodes) (map (gbk_with_reducer b) k.class.gbks))
    (flat_map (key_passes b) (class_keys b k.class.gbks))
    (passes_in b c.node c (class_keys b k.class.gbks) k.key passed)) (inl (m, k.level))

reducer_gbk : (b : Blocked) (m n : ℕ) (x : Node) → reduces b m x n ≡ true
    → (is_gbk x ≡ true) × (reducer_of b m ≡ Some n)
reducer_gbk b m n (Source r) h = absurd (false≢true h)
reducer_gbk b m n (Flatten ins) h = absurd (false≢true h)
reducer_gbk b m n (Pdo c f) h = absurd (false≢true h)
reducer_gbk b m n (Gbk c o l k) h = (refl, is_some_of (reducer_of b m) n h)
reducer_gbk b m n (Barrier ins o l a) h = absurd (false≢true h)

-- the Gbk that a reducer reduces
pub record ReducesOne (b : Blocked) (n : ℕ) : Type 0 where
  pub gbk : ℕ
  pub node : Node
  pub at : node_at b.graph.nodes gbk ≡ Some node
  pub is : is_gbk node ≡ true
  pub by : reducer_of b gbk ≡ Some n

pub reduces_one : (b : Blocked) (n : ℕ) → AllDiffer b.graph.nodes → is_reducer b n ≡ true
    → ReducesOne b n
reduces_one b n differ r =
    let es : List Entry = b.graph.nodes in
    let e = any_at (λ (e : Entry). node_at es e.number ≡ Some e.node)
    (λ e. reduces b e.number e.node n) es (each_found es differ) r in
    let q = reducer_gbk b e.0.number n e.0.node e.2 in
    record { gbk = e.0.number; node = e.0.node; at = e.1; is = q.0; by = q.1 }

serve_reducer : (b : Blocked) (cs : List (List ℕ)) → AreParts b cs → (c d : Place) (f : Forest)
    → IsSound b.graph → node_at b.graph.nodes c.node ≡ Some (Pdo d f) → has_out c.out f ≡ true
    → is_reducer b c.node ≡ true → Served b cs c
serve_reducer b cs p c d f ok h g r =
    let es : List Entry = b.graph.nodes in
    let e = reduces_one b c.node ok.differ r in
    let k = class_of b cs p e.gbk e.node e.at e.is in
    let rd : IsReducer es e.gbk (Some c.node) =
    subst (IsReducer es e.gbk) e.by (reducer_ok b e.gbk ok.differ) in
    let same : d ≡ place e.gbk 0 = subst (IsPdoOn (place e.gbk 0)) h rd in
    let lev : level es c.node ≡ level es d.node = levels_at b.graph c.node (Pdo d f) ok h in
    let lev2 : level es d.node ≡ level es e.gbk = ap (λ (x : Place). level es x.node) same in
    serve_class b cs e.gbk k c (class_gives b cs e.gbk k c
    (subst (λ (o : Option ℕ). IsIn c (reduced es e.gbk o)) (sym e.by) (reducer_out b c d f h g)))
    (inr (sym (lev ∙ lev2)))

serve_trivial : (b : Blocked) (cs : List (List ℕ)) (c d : Place) (f : Forest)
    → node_at b.graph.nodes c.node ≡ Some (Pdo d f) → has_out c.out f ≡ true
    → (is_mapper b c.node || is_reducer b c.node) ≡ false → Served b cs c
serve_trivial b cs c d f h g s =
    let y : Ranked = ranked_alone b c.node (trivial c.node f) in
    record {
      by = y;
      among = in_right y (map (class_ranked b) cs) (all_alone b b.graph.nodes)
          (alone_in b b.graph.nodes c.node (Pdo d f) y h
          (subst (λ x. IsIn y (cond x [] (y ∷ []))) (sym s) (inl refl)));
      gives = out_in c.node c.out f g;
      bound = inr (inr (refl, refl));
      flat = λ i. never i;
      ends = inl refl;
    }

serve_pdo : (b : Blocked) (cs : List (List ℕ)) → AreParts b cs → (c d : Place) (f : Forest)
    (x y : Bool) → IsSound b.graph → node_at b.graph.nodes c.node ≡ Some (Pdo d f)
    → has_out c.out f ≡ true → (is_mapper b c.node ≡ true → passes b c ≡ true)
    → is_mapper b c.node ≡ x → is_reducer b c.node ≡ y → Served b cs c
serve_pdo b cs p c d f true y ok h g t m r = serve_mapper b cs p c d f ok.differ h g m (t m)
serve_pdo b cs p c d f false true ok h g t m r = serve_reducer b cs p c d f ok h g r
serve_pdo b cs p c d f false false ok h g t m r = serve_trivial b cs c d f h g (rw (m, r) refl)

-- a collection that is there is a source or is given by an operation, on three conditions
pub provide : (b : Blocked) (cs : List (List ℕ)) → AreParts b cs → (c : Place) (x : Node)
    → IsSound b.graph → node_at b.graph.nodes c.node ≡ Some x → node_gives x c.out ≡ true
    → IsMet b c x → IsIn c (source_places b.graph.nodes) ⊎ Served b cs c
provide b cs p c (Source r) ok h g t =
    inl (subst (λ (d : Place). IsIn d (source_places b.graph.nodes))
    (place_is c (eqb-true c.out 0 g)) (source_in b.graph.nodes c.node r h))
provide b cs p c (Flatten ins) ok h g t =
    inr (serve_flat b cs c ins h (eqb-true c.out 0 g) (t.flatten refl))
provide b cs p c (Gbk d o last k) ok h g t =
    let cl = class_of b cs p c.node (Gbk d o last k) h refl in
    inr (serve_class b cs c.node cl c (class_gives b cs c.node cl c
    (subst (λ (o : Option ℕ). IsIn c (reduced b.graph.nodes c.node o)) (sym (t.gbk refl))
    (inl (place_is c (eqb-true c.out 0 g))))) (inr refl))
provide b cs p c (Barrier ins o l a) ok h g t =
    inr (serve_barrier b cs c ins o l a h (eqb-true c.out 0 g))
provide b cs p c (Pdo d f) ok h g t =
    inr (serve_pdo b cs p c d f (is_mapper b c.node) (is_reducer b c.node) ok h g t.mapper refl
    refl)
