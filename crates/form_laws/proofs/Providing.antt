-- What the operations read is given by operations.
use Rattle.std.proofs.Common.{◌≡◌, ℕ, ◌<◌, ◌⊎◌, Bool, true, false, cond, not, eqb, ◌&&◌, List, [], ◌∷◌, ◌++◌, map, Option, Some, suc, refl, sym, ap, ◌∙◌, subst, arith, inl, inr}
use Rattle.std.proofs.lemmas.Bool.{eqb-true, eq-eqb, false≢true}
use Rattle.std.specs.List.{flat_map, AllByRecursion as Each, filter}
use Rattle.flume_value.proofs.BoolLemmas.{both_true}
use Rattle.exec_graph.specs.Forests.{Forest}
use Rattle.exec_graph.specs.Meaning.{AllDiffer, node_at, place}
use Rattle.exec_graph.specs.Readers.{among, same_place}
use Rattle.exec_graph.specs.declared.graph.Place.{Place}
use Rattle.exec_graph.specs.declared.graph.Node.{Node}
use Rattle.exec_graph.specs.declared.graph.Node.TheVariants.{Source, Flatten, Pdo, Gbk, Barrier}
use Rattle.exec_graph.specs.declared.graph.Entry.{Entry}
use Rattle.exec_graph.specs.declared.graph.Blocked.{Blocked}
use Rattle.exec_graph.proofs.Solving.{each_found}
use Rattle.exec_graph.proofs.Bools.{or_cases}
use Rattle.plan_rules.specs.of_exec_plan.Channels.{outs_of}
use Rattle.plan_laws.specs.declared.operations.Key.{Key}
use Rattle.plan_laws.specs.declared.operations.Key.TheVariants.{Mapper}
use Rattle.plan_laws.specs.Operations.{IsIn, gives_of, group_gives, inputs_at, read_through, reduced, times_named}
use Rattle.plan_laws.proofs.Running.{place_same}
use Rattle.plan_roles.specs.Levels.{level}
use Rattle.plan_roles.specs.Reading.{feeds_next, takes}
use Rattle.plan_roles.specs.Mappers.{feeds_unmarked, is_mapper, read_key, maps_at, places_given, reducer_of}
use Rattle.form_laws.specs.declared.ranked.Ranked.{Ranked}
use Rattle.plan_rules.specs.Fitting.{same_key}
use Rattle.form_laws.specs.Classes.{IsGbkAt, keys_taken, class_members}
use Rattle.form_laws.specs.Operations.{all_alone, alone_of, class_keys, class_level, class_operation, class_ranked, first_uses, gbk_with_reducer, key_passes, passes_at}
use Rattle.plan_rules.proofs.Members.{in_left, in_right}
use Rattle.form_laws.proofs.Basics.{any_at, counted, in_either, none_counted}
use Rattle.form_laws.proofs.Classing.{AreParts, HasLevel, key_same, node_gbk}
use Rattle.form_laws.proofs.Reading.{is_gbk, maps_so}
use Rattle.form_laws.proofs.Standing.{all_mapped, inputs_from, keys_are}

-- ---- membership
alone_by : (b : Blocked) (e : Entry) (es : List Entry) (n : ℕ) (x : Node) (y : Ranked) (c : Bool)
    → eqb e.number n ≡ c → cond c (Some e.node) (node_at es n) ≡ Some x
    → IsIn y (alone_of b n x) → (node_at es n ≡ Some x → IsIn y (all_alone b es))
    → IsIn y (all_alone b (e ∷ es))
alone_by b e es n x y true i h a f =
    let same : e.node ≡ x = cc in
    in_left y (alone_of b e.number e.node) (all_alone b es)
    (subst (λ (k : ℕ). IsIn y (alone_of b k e.node)) (sym (eqb-true e.number n i))
    (subst (λ (z : Node). IsIn y (alone_of b n z)) (sym same) a))
alone_by b e es n x y false i h a f =
    in_right y (alone_of b e.number e.node) (all_alone b es) (f h)

pub alone_in : (b : Blocked) (es : List Entry) (n : ℕ) (x : Node) (y : Ranked)
    → node_at es n ≡ Some x → IsIn y (alone_of b n x) → IsIn y (all_alone b es)
alone_in b [] n x y h a = let bad : ⊥ = cc in absurd bad
alone_in b (e ∷ es) n x y h a =
    alone_by b e es n x y (eqb e.number n) refl h a (λ i. alone_in b es n x y i a)

-- ---- the class of a Gbk
pub record ClassOf (b : Blocked) (cs : List (List ℕ)) (n : ℕ) : Type 0 where
  pub gbks : List ℕ
  pub among : IsIn (class_ranked b gbks) (map (class_ranked b) cs)
  pub has_it : 0 < times_named n gbks
  pub level : class_level b gbks ≡ level b.graph.nodes n

member_level : (l : ℕ → ℕ) (x n : ℕ) (ns : List ℕ) → Each (λ k. l k ≡ x) ns → 0 < times_named n ns
    → l n ≡ x
member_level l x n [] a h = absurd (none_counted n h)
member_level l x n (k ∷ ks) a h =
    elim (counted n k ks h)
    [ inl e ↦ ap l (sym e) ∙ a.0 | inr i ↦ member_level l x n ks a.1 i ]

first_level : (b : Blocked) (n : ℕ) (ns : List ℕ) → HasLevel b ns → 0 < times_named n ns
    → class_level b ns ≡ level b.graph.nodes n
first_level b n [] a h = absurd (none_counted n h)
first_level b n (k ∷ ks) a h =
    a.1.0 ∙ sym (member_level (level b.graph.nodes) a.0 n (k ∷ ks) a.1 h)

find_class : (b : Blocked) (n : ℕ) (cs : List (List ℕ)) → Each (HasLevel b) cs
    → 0 < times_named n (class_members cs)
    → (c : List ℕ) × IsIn (class_ranked b c) (map (class_ranked b) cs) × (0 < times_named n c)
    × (class_level b c ≡ level b.graph.nodes n)
find_class b n [] a h = absurd (none_counted n h)
find_class b n (c ∷ cs) a h =
    elim (in_either n c (class_members cs) h) [
      | inl i ↦ (c, inl refl, i, first_level b n c a.0 i)
      | inr i ↦ let r = find_class b n cs a.1 i in (r.0, inr r.1, r.2, r.3)
    ]

pub class_of : (b : Blocked) (cs : List (List ℕ)) → AreParts b cs → (n : ℕ) (x : Node)
    → node_at b.graph.nodes n ≡ Some x → is_gbk x ≡ true → ClassOf b cs n
class_of b cs p n x h g =
    let o = p.once n (subst IsGbkAt (sym h) (node_gbk x g)) in
    let r = find_class b n cs p.level (omega arith) in
    record { gbks = r.0; among = r.1; has_it = r.2; level = r.3 }

-- what its group gives is among what the class gives
group_in : (b : Blocked) (n : ℕ) (ns : List ℕ) (c : Place) → 0 < times_named n ns
    → IsIn c (reduced b.graph.nodes n (reducer_of b n))
    → IsIn c (flat_map (group_gives b.graph.nodes) (map (gbk_with_reducer b) ns))
group_in b n [] c h i = absurd (none_counted n h)
group_in b n (k ∷ ks) c h i =
    let es : List Entry = b.graph.nodes in
    elim (counted n k ks h) [
      | inl e ↦ in_left c (group_gives es (gbk_with_reducer b k))
          (flat_map (group_gives es) (map (gbk_with_reducer b) ks))
          (subst (λ (j : ℕ). IsIn c (reduced es j (reducer_of b j))) (sym e) i)
      | inr j ↦ in_right c (group_gives es (gbk_with_reducer b k))
          (flat_map (group_gives es) (map (gbk_with_reducer b) ks)) (group_in b n ks c j i)
    ]

pub class_gives : (b : Blocked) (cs : List (List ℕ)) (n : ℕ) (k : ClassOf b cs n) (c : Place)
    → IsIn c (reduced b.graph.nodes n (reducer_of b n))
    → IsIn c (gives_of b.graph.nodes (class_operation b k.gbks))
class_gives b cs n k c i =
    in_left c (flat_map (group_gives b.graph.nodes) (map (gbk_with_reducer b) k.gbks))
    (flat_map (key_passes b) (class_keys b k.gbks)) (group_in b n k.gbks c k.has_it i)

-- ---- a mapper is a key of a class
abbrev pub KeyIn : Key → List Key → Type 0
KeyIn k [] = ⊥
KeyIn k (j ∷ js) = (j ≡ k) ⊎ KeyIn k js

key_left : (k : Key) (xs ys : List Key) → KeyIn k xs → KeyIn k (xs ++ ys)
key_left k [] ys h = absurd h
key_left k (x ∷ xs) ys (inl h) = inl h
key_left k (x ∷ xs) ys (inr h) = inr (key_left k xs ys h)

key_right : (k : Key) (xs ys : List Key) → KeyIn k ys → KeyIn k (xs ++ ys)
key_right k [] ys h = h
key_right k (x ∷ xs) ys h = inr (key_right k xs ys h)

key_dropped_by : (k i j : Key) (js : List Key) (b : Bool) → same_key i j ≡ b
    → (j ≡ k) ⊎ ((i ≡ k) ⊎ KeyIn k js) → (i ≡ k) ⊎ KeyIn k (cond (not b) (j ∷ js) js)
key_dropped_by k i j js true e (inl h) = inl (key_same i j e ∙ h)
key_dropped_by k i j js true e (inr h) = h
key_dropped_by k i j js false e (inl h) = inr (inl h)
key_dropped_by k i j js false e (inr (inl h)) = inl h
key_dropped_by k i j js false e (inr (inr h)) = inr (inr h)

key_dropped : (k i : Key) (js : List Key) → KeyIn k js
    → (i ≡ k) ⊎ KeyIn k (filter (λ j. not (same_key i j)) js)
key_dropped k i [] h = absurd h
key_dropped k i (j ∷ js) (inl h) =
    key_dropped_by k i j (filter (λ j. not (same_key i j)) js) (same_key i j) refl (inl h)
key_dropped k i (j ∷ js) (inr h) =
    key_dropped_by k i j (filter (λ j. not (same_key i j)) js) (same_key i j) refl
    (inr (key_dropped k i js h))

key_uses : (k : Key) (ks : List Key) → KeyIn k ks → KeyIn k (first_uses ks)
key_uses k [] h = absurd h
key_uses k (j ∷ js) (inl h) = inl h
key_uses k (j ∷ js) (inr h) = key_dropped k j (first_uses js) (key_uses k js h)

key_class : (b : Blocked) (n : ℕ) (k : Key) (ns : List ℕ) → 0 < times_named n ns
    → KeyIn k (keys_taken b n) → KeyIn k (flat_map (keys_taken b) ns)
key_class b n k [] h i = absurd (none_counted n h)
key_class b n k (m ∷ ms) h i =
    elim (counted n m ms h) [
      | inl e ↦ key_left k (keys_taken b m) (flat_map (keys_taken b) ms)
          (subst (λ (j : ℕ). KeyIn k (keys_taken b j)) (sym e) i)
      | inr j ↦ key_right k (keys_taken b m) (flat_map (keys_taken b) ms) (key_class b n k ms j i)
    ]

key_mapped : (b : Blocked) (n : ℕ) (c : Place) (cs : List Place) → among c cs ≡ true
    → KeyIn (read_key b n c) (map (read_key b n) cs)
key_mapped b n c [] h = absurd (false≢true h)
key_mapped b n c (d ∷ ds) h =
    elim (or_cases (same_place c d) (among c ds) h) [
      | inl e ↦ inl (ap (read_key b n) (sym (place_same c d e)))
      | inr i ↦ inr (key_mapped b n c ds i)
    ]

-- what a mapper gives that passes is given by the class
pub passes_in : (b : Blocked) (n : ℕ) (c : Place) (ks : List Key) → KeyIn (Mapper n) ks
    → IsIn c (passes_at b n (node_at b.graph.nodes n)) → IsIn c (flat_map (key_passes b) ks)
passes_in b n c [] h i = absurd h
passes_in b n c (k ∷ ks) (inl e) i =
    in_left c (key_passes b k) (flat_map (key_passes b) ks)
    (subst (λ (j : Key). IsIn c (key_passes b j)) (sym e) i)
passes_in b n c (k ∷ ks) (inr h) i =
    in_right c (key_passes b k) (flat_map (key_passes b) ks) (passes_in b n c ks h i)

-- a Gbk that a Pdo's output feeds has it among its inputs
fed_input : (es : List Entry) (x : Node) (c d : Place) (f : Forest) → takes es c x ≡ true
    → node_at es c.node ≡ Some (Pdo d f)
    → (is_gbk x ≡ true) × (among c (inputs_from es (Some x)) ≡ true)
fed_input es (Source r) c d f h e = absurd (false≢true h)
fed_input es (Flatten ins) c d f h e = absurd (false≢true h)
fed_input es (Pdo x g) c d f h e = absurd (false≢true h)
fed_input es (Gbk x o last k) c d f h e =
    elim (or_cases (same_place c x) (among c (read_through es x)) h) [
      | inl i ↦
          let same : c ≡ x = place_same c x i in
          let at : read_through es x ≡ x ∷ [] =
          ap (inputs_at x) (ap (λ (y : Place). node_at es y.node) (sym same) ∙ e) in
          (refl, ap (λ cs. among c cs) at ∙ rw i refl)
      | inr i ↦ (refl, i)
    ]
fed_input es (Barrier ins o l a) c d f h e = absurd (false≢true h)

mapper_key : (b : Blocked) (n k : ℕ) (c : Place) → c.node ≡ n → is_mapper b n ≡ true
    → suc (level b.graph.nodes n) ≡ k → read_key b k c ≡ Mapper n
mapper_key b n k c e m h =
    let a : is_mapper b c.node ≡ true = ap (is_mapper b) e ∙ m in
    let s : eqb (suc (level b.graph.nodes c.node)) k ≡ true =
    eq-eqb (suc (level b.graph.nodes c.node)) k
    (ap (λ (i : ℕ). suc (level b.graph.nodes i)) e ∙ h) in
    rw (a, s) (ap (λ (i : ℕ). Mapper i) e)

-- the class that a mapper belongs to
pub record MapsIn (b : Blocked) (cs : List (List ℕ)) (n : ℕ) : Type 0 where
  pub gbk : ℕ
  pub class : ClassOf b cs gbk
  pub level : level b.graph.nodes gbk ≡ suc (level b.graph.nodes n)
  pub key : KeyIn (Mapper n) (class_keys b class.gbks)

pub maps_in : (b : Blocked) (cs : List (List ℕ)) → AreParts b cs → (n : ℕ) (d : Place) (f : Forest)
    → AllDiffer b.graph.nodes → node_at b.graph.nodes n ≡ Some (Pdo d f) → is_mapper b n ≡ true
    → MapsIn b cs n
maps_in b cs p n d f differ h m =
    let es : List Entry = b.graph.nodes in
    let fed = (maps_so b n d f (ap (maps_at b n) (sym h) ∙ m)).fed in
    let c = any_at (λ (c : Place). c.node ≡ n) (feeds_unmarked b) (places_given n f)
    (all_mapped (place n) (λ (c : Place). c.node ≡ n) (λ j. refl) (outs_of f)) fed in
    let q = (both_true (not (among c.0 b.marks)) (feeds_next es c.0) c.2).1 in
    let e = any_at (λ (e : Entry). node_at es e.number ≡ Some e.node)
    (λ e. takes es c.0 e.node && eqb (level es e.number) (suc (level es c.0.node))) es
    (each_found es differ) q in
    let r = both_true (takes es c.0 e.0.node)
    (eqb (level es e.0.number) (suc (level es c.0.node))) e.2 in
    let at : node_at es c.0.node ≡ Some (Pdo d f) = ap (node_at es) c.1 ∙ h in
    let i = fed_input es e.0.node c.0 d f r.0 at in
    let k = class_of b cs p e.0.number e.0.node e.1 i.0 in
    let lev : level es e.0.number ≡ suc (level es n) =
    eqb-true (level es e.0.number) (suc (level es c.0.node)) r.1
    ∙ ap (λ (j : ℕ). suc (level es j)) c.1 in
    let inputs : among c.0 (inputs_from es (node_at es e.0.number)) ≡ true =
    ap (λ (o : Option Node). among c.0 (inputs_from es o)) e.1 ∙ i.1 in
    let key : KeyIn (Mapper n) (keys_taken b e.0.number) =
    subst (KeyIn (Mapper n)) (sym (keys_are b e.0.number))
    (subst
    (λ (x : Key). KeyIn x
    (map (read_key b (level es e.0.number)) (inputs_from es (node_at es e.0.number))))
    (mapper_key b n (level es e.0.number) c.0 c.1 m (sym lev))
    (key_mapped b (level es e.0.number) c.0 (inputs_from es (node_at es e.0.number)) inputs)) in
    record {
      gbk = e.0.number;
      class = k;
      level = lev;
      key = key_uses (Mapper n) (flat_map (keys_taken b) k.gbks)
          (key_class b e.0.number (Mapper n) k.gbks k.has_it key);
    }
