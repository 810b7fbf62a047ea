-- The classes part the Gbks: each is in one, related ones are in one, and a class has one level.
use Rattle.std.proofs.Common.{◌≡◌, ℕ, ◌<◌, ◌≤◌, Bool, true, false, eqb, ◌||◌, List, [], ◌∷◌, ◌++◌, Option, Some, None, refl, sym, ap, ◌∙◌, arith, inl, inr}
use Rattle.std.proofs.lemmas.Bool.{eqb-true, eq-eqb, false≢true}
use Rattle.std.specs.List.{AllByRecursion as Each, list_any}
use Rattle.flume_value.proofs.BoolLemmas.{both_true}
use Rattle.exec_graph.specs.Meaning.{node_at}
use Rattle.exec_graph.specs.Wellformed.{HaveObjects}
use Rattle.exec_graph.specs.declared.graph.Place.{Place}
use Rattle.exec_graph.specs.declared.graph.Node.{Node}
use Rattle.exec_graph.specs.declared.graph.Node.TheVariants.{Source, Flatten, Pdo, Gbk, Barrier}
use Rattle.exec_graph.specs.declared.graph.Blocked.{Blocked}
use Rattle.exec_graph.proofs.Bools.{or_cases, not_true}
use Rattle.plan_rules.proofs.of_graph_laws.ReadPlaces.{same_self}
use Rattle.plan_laws.specs.declared.operations.Key.{Key}
use Rattle.plan_laws.specs.declared.operations.Key.TheVariants.{Mapper, Whole}
use Rattle.plan_laws.specs.Operations.{times_named}
use Rattle.plan_laws.proofs.Running.{place_same}
use Rattle.plan_roles.specs.Levels.{level}
use Rattle.plan_rules.specs.Fitting.{same_key}
use Rattle.form_laws.specs.Classes.{AreClasses, AreLinked, IsGbk, IsGbkAt, IsLinked, IsShared, has_same, keys_at, keys_taken, class_members, related}
use Rattle.form_laws.proofs.Basics.{all_at, counts_head, in_either, times_append}
use Rattle.form_laws.proofs.Reading.{is_gbk}

-- ---- keys
pub key_same : (k j : Key) → same_key k j ≡ true → k ≡ j
key_same (Mapper n) (Mapper m) h = ap (λ (i : ℕ). Mapper i) (eqb-true n m h)
key_same (Mapper n) (Whole c) h = absurd (false≢true h)
key_same (Whole c) (Mapper n) h = absurd (false≢true h)
key_same (Whole c) (Whole d) h = ap (λ (x : Place). Whole x) (place_same c d h)

pub key_self : (k : Key) → same_key k k ≡ true
key_self (Mapper n) = eq-eqb n n refl
key_self (Whole c) = same_self c

-- ---- related ones
pub any_split : {X : Type 0} (f : X → Bool) (xs : List X) → list_any f xs ≡ true
    → (ys zs : List X) × (y : X) × (xs ≡ ys ++ y ∷ zs) × (f y ≡ true)
any_split f [] h = absurd (false≢true h)
any_split f (x ∷ xs) h =
    elim (or_cases (f x) (list_any f xs) h) [
      | inl i ↦ ([], xs, x, refl, i)
      | inr i ↦ let r = any_split f xs i in (x ∷ r.0, r.1, r.2, ap (λ l. x ∷ l) r.3, r.4)
    ]

pub any_there : {X : Type 0} (f : X → Bool) (ys zs : List X) (y : X) → f y ≡ true
    → list_any f (ys ++ y ∷ zs) ≡ true
any_there f [] zs y h = rw h refl
any_there f (x ∷ ys) zs y h =
    elim (f x) as (λ b. (b || list_any f (ys ++ y ∷ zs)) ≡ true)
    [ true ↦ refl | false ↦ any_there f ys zs y h ]

-- two Gbks of one level that share a key are related, either way
pub share_related : (b : Blocked) (n k : ℕ) (x : Key)
    → level b.graph.nodes n ≡ level b.graph.nodes k → has_same (keys_taken b n) x ≡ true
    → has_same (keys_taken b k) x ≡ true → related b n k ≡ true
share_related b n k x e h i =
    let r = any_split (λ j. same_key j x) (keys_taken b k) i in
    let y : r.2 ≡ x = key_same r.2 x r.4 in
    let t : list_any (has_same (keys_taken b n)) (keys_taken b k) ≡ true =
    ap (list_any (has_same (keys_taken b n))) r.3
    ∙ any_there (has_same (keys_taken b n)) r.0 r.1 r.2 (ap (has_same (keys_taken b n)) y ∙ h) in
    rw (eq-eqb (level b.graph.nodes n) (level b.graph.nodes k) e) t

related_level : (b : Blocked) (n k : ℕ) → related b n k ≡ true
    → level b.graph.nodes n ≡ level b.graph.nodes k
related_level b n k h =
    eqb-true (level b.graph.nodes n) (level b.graph.nodes k)
    (both_true (eqb (level b.graph.nodes n) (level b.graph.nodes k))
    (list_any (has_same (keys_taken b n)) (keys_taken b k)) h).0

pub related_sym : (b : Blocked) (n k : ℕ) → related b n k ≡ true → related b k n ≡ true
related_sym b n k h =
    let p = both_true (eqb (level b.graph.nodes n) (level b.graph.nodes k))
    (list_any (has_same (keys_taken b n)) (keys_taken b k)) h in
    let r = any_split (has_same (keys_taken b n)) (keys_taken b k) p.1 in
    let here : has_same (keys_taken b k) r.2 ≡ true =
    ap (λ ks. has_same ks r.2) r.3
    ∙ any_there (λ j. same_key j r.2) r.0 r.1 r.2 (key_self r.2) in
    share_related b k n r.2 (sym (related_level b n k h)) here r.4

chain_level : (b : Blocked) (n : ℕ) (is : List ℕ) (k : ℕ) → AreLinked b n is k
    → level b.graph.nodes n ≡ level b.graph.nodes k
chain_level b n [] k h = related_level b n k h
chain_level b n (i ∷ is) k h = related_level b n i h.0 ∙ chain_level b i is k h.1

linked_level : (b : Blocked) (n k : ℕ) → IsLinked b n k
    → level b.graph.nodes n ≡ level b.graph.nodes k
linked_level b n k (inl e) = ap (level b.graph.nodes) e
linked_level b n k (inr c) = chain_level b n c.0 k c.1

-- ---- a Gbk is a node of that kind
pub gbk_node : (o : Option Node) → IsGbkAt o → (x : Node) × (o ≡ Some x) × (is_gbk x ≡ true)
gbk_node None h = absurd h
gbk_node (Some (Source r)) h = absurd h
gbk_node (Some (Flatten ins)) h = absurd h
gbk_node (Some (Pdo c f)) h = absurd h
gbk_node (Some (Gbk c o l k)) h = (Gbk c o l k, refl, refl)
gbk_node (Some (Barrier ins o l a)) h = absurd h

pub node_gbk : (x : Node) → is_gbk x ≡ true → IsGbkAt (Some x)
node_gbk (Source r) h = absurd (false≢true h)
node_gbk (Flatten ins) h = absurd (false≢true h)
node_gbk (Pdo c f) h = absurd (false≢true h)
node_gbk (Gbk c o l k) h = tt
node_gbk (Barrier ins o l a) h = absurd (false≢true h)

-- what is related is a Gbk
any_gbk : (b : Blocked) (n : ℕ) (f : Key → Bool) (o : Option Node)
    → list_any f (keys_at b n o) ≡ true → IsGbkAt o
any_gbk b n f None h = absurd (false≢true h)
any_gbk b n f (Some (Source r)) h = absurd (false≢true h)
any_gbk b n f (Some (Flatten ins)) h = absurd (false≢true h)
any_gbk b n f (Some (Pdo c t)) h = absurd (false≢true h)
any_gbk b n f (Some (Gbk c o l k)) h = tt
any_gbk b n f (Some (Barrier ins o l a)) h = absurd (false≢true h)

pub related_gbk : (b : Blocked) (n k : ℕ) → related b n k ≡ true → IsGbk b k
related_gbk b n k h =
    any_gbk b k (has_same (keys_taken b n)) (node_at b.graph.nodes k)
    (both_true (eqb (level b.graph.nodes n) (level b.graph.nodes k))
    (list_any (has_same (keys_taken b n)) (keys_taken b k)) h).1

-- ---- members
pub each_counted : (P : ℕ → Type 0) (ns : List ℕ) → ((n : ℕ) → 0 < times_named n ns → P n)
    → Each P ns
each_counted P [] f = tt
each_counted P (n ∷ ns) f = (
  f n (counts_head n n ns refl),
  each_counted P ns (λ k h. f k (omega arith)),
)

-- what holds of each class that stands among those of cs
pub each_class : (P : List ℕ → Type 0) (cs : List (List ℕ))
    → ((c : List ℕ) → ((n : ℕ) → 0 < times_named n c → 0 < times_named n (class_members cs))
    → ((n k : ℕ) → 0 < times_named n c → 0 < times_named k c → IsShared n k cs) → P c) → Each P cs
each_class P [] f = tt
each_class P (c ∷ cs) f = (
  f c (λ n h. let t = times_append n c (class_members cs) in omega arith) (λ n k h i. inl (h, i)),
  each_class P cs (λ d g s. f d
      (λ n h. let t = times_append n c (class_members cs) in let u = g n h in omega arith)
      (λ n k h i. inr (s n k h i))),
)

pub member_gbk : (b : Blocked) (cs : List (List ℕ)) → Each (Each (IsGbk b)) cs → (n : ℕ)
    → 0 < times_named n (class_members cs) → IsGbk b n
member_gbk b [] a n h = absurd (omega arith)
member_gbk b (c ∷ cs) a n h =
    elim (in_either n c (class_members cs) h)
    [ inl i ↦ all_at (IsGbk b) n c a.0 i | inr i ↦ member_gbk b cs a.1 n i ]

shared_in : (n k : ℕ) (cs : List (List ℕ)) → IsShared n k cs
    → (0 < times_named n (class_members cs)) × (0 < times_named k (class_members cs))
shared_in n k [] h = absurd h
shared_in n k (c ∷ cs) (inl h) =
    let a = times_append n c (class_members cs) in
    let d = times_append k c (class_members cs) in
    (omega arith, omega arith)
shared_in n k (c ∷ cs) (inr h) =
    let i = shared_in n k cs h in
    let a = times_append n c (class_members cs) in
    let d = times_append k c (class_members cs) in
    (omega arith, omega arith)

-- ---- the parts
-- all are of one level
abbrev pub HasLevel : Blocked → List ℕ → Type 0
HasLevel b c = (x : ℕ) × Each (λ n. level b.graph.nodes n ≡ x) c

-- no member of c is related to one of d
abbrev pub Unrelated : Blocked → List ℕ → List ℕ → Type 0
Unrelated b c d = Each (λ n. Each (λ k. related b n k ≡ false) d) c

abbrev pub AreApart : Blocked → List (List ℕ) → Type 0
AreApart b [] = Unit {0}
AreApart b (c ∷ cs) = Each (Unrelated b c) cs × AreApart b cs

apart : (b : Blocked) (cs : List (List ℕ))
    → ((n : ℕ) → 0 < times_named n (class_members cs) → times_named n (class_members cs) ≤ 1)
    → ((n k : ℕ) → 0 < times_named n (class_members cs) → 0 < times_named k (class_members cs) →
    related b n k ≡ true
    → IsShared n k cs) → AreApart b cs
apart b [] few shares = tt
apart b (c ∷ cs) few shares = (
  each_class (Unrelated b c) cs (λ d g s. each_counted (λ n. Each (λ k. related b n k ≡ false) d) c
      (λ n i. each_counted (λ k. related b n k ≡ false) d (λ k j.
      not_true (related b n k) (λ r.
      let tn = times_append n c (class_members cs) in
      let tk = times_append k c (class_members cs) in
      let gk = g k j in
      let fn = few n (omega arith) in
      let fk = few k (omega arith) in
      elim (shares n k (omega arith) (omega arith) r) [
        | inl h ↦ let x = h.1 in omega arith
        | inr h ↦ let x = (shared_in n k cs h).0 in omega arith
      ])))),
  apart b cs
      (λ n h. let t = times_append n c (class_members cs) in let f = few n (omega arith) in omega
      arith)
      (λ n k h i r.
      let tn = times_append n c (class_members cs) in
      let tk = times_append k c (class_members cs) in
      let fn = few n (omega arith) in
      elim (shares n k (omega arith) (omega arith) r) [
        | inl s ↦ let x = s.0 in absurd (omega arith)
        | inr s ↦ s
      ]),
)

level_by : (b : Blocked) (c : List ℕ)
    → ((n k : ℕ) → 0 < times_named n c → 0 < times_named k c
    → level b.graph.nodes n ≡ level b.graph.nodes k) → HasLevel b c
level_by b [] f = (0, tt)
level_by b (m ∷ ms) f = (
  level b.graph.nodes m,
  each_counted (λ n. level b.graph.nodes n ≡ level b.graph.nodes m) (m ∷ ms)
      (λ n h. f n m h (counts_head m m ms refl)),
)

pub record AreParts (b : Blocked) (cs : List (List ℕ)) : Type 0 where
  pub gbks : Each (Each (IsGbk b)) cs
  pub once : (n : ℕ) → IsGbk b n → times_named n (class_members cs) ≡ 1
  pub level : Each (HasLevel b) cs
  pub apart : AreApart b cs
  -- what each node is made of is of the right kinds
  pub objects : HaveObjects b.graph.nodes

pub classes_part : (b : Blocked) (cs : List (List ℕ)) → HaveObjects b.graph.nodes
    → AreClasses b cs → AreParts b cs
classes_part b cs objects a =
    let gbk : (n : ℕ) → 0 < times_named n (class_members cs) → IsGbk b n = member_gbk b cs a.gbks in
    record {
      gbks = a.gbks;
      once = a.once;
      level = each_class (HasLevel b) cs (λ c g s. level_by b c (λ n k h i.
          linked_level b n k ((a.linked n k (gbk n (g n h)) (gbk k (g k i))).0 (s n k h i))));
      apart = apart b cs (λ n h. let o = a.once n (gbk n h) in omega arith)
          (λ n k h i r. (a.linked n k (gbk n h) (gbk k i)).1 (inr ([], r)));
      objects = objects;
    }
