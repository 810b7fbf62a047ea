-- A graph's Gbks have just one set of classes, and all its operations have numbers that differ.
use Rattle.std.proofs.Common.{◌≡◌, ℕ, ◌+◌, ◌<◌, ◌≤◌, ◌⊎◌, Bool, true, false, cond, ◌||◌, List, [], ◌∷◌, ◌++◌, map, length, Some, refl, sym, ap, ◌∙◌, subst, arith, inl, inr}
use Rattle.std.specs.List.{AllByRecursion as Each}
use Rattle.flume_value.proofs.EachLemmas.{Each-append, Each-both, Each-map, Each-weaker}
use Rattle.exec_graph.specs.Forests.{Forest}
use Rattle.exec_graph.specs.Meaning.{AllDiffer, node_at}
use Rattle.exec_graph.specs.declared.graph.Node.{Node}
use Rattle.exec_graph.specs.declared.graph.Node.TheVariants.{Source, Flatten, Pdo, Gbk, Barrier}
use Rattle.exec_graph.specs.declared.graph.Entry.{Entry}
use Rattle.exec_graph.specs.declared.graph.Blocked.{Blocked}
use Rattle.exec_graph.proofs.Solving.{each_found}
use Rattle.plan_laws.specs.declared.operations.Operation.TheVariants.{Flat}
use Rattle.plan_laws.specs.Operations.{IsIn, times_named}
use Rattle.plan_laws.proofs.Running.{in_append}
use Rattle.plan_roles.specs.Mappers.{is_mapper, is_reducer, is_stage}
use Rattle.form_laws.specs.declared.ranked.Ranked.{Ranked}
use Rattle.form_laws.specs.Classes.{AreClasses, IsGbk, IsGbkAt, IsShared, Rises, class_members}
use Rattle.form_laws.specs.Operations.{all_alone, ranked_alone, alone_of, class_ranked, number_of_first, operations, trivial}
use Rattle.plan_rules.proofs.Members.{in_left, in_right}
use Rattle.form_laws.proofs.Basics.{all_at, counted, counts_head, in_either, none_counted, times_append}
use Rattle.form_laws.proofs.Classing.{each_class, member_gbk}
use Rattle.form_laws.proofs.Progress.{all_alone_so}
use Rattle.form_laws.proofs.Turns.{Apart, AreSame, Other}

-- ---- rising lists with the same members

heads : (x y : ℕ) (c d : List ℕ) → Each (λ k. x < k) c → Each (λ k. y < k) d
    → 0 < times_named x (y ∷ d) → 0 < times_named y (x ∷ c) → x ≡ y
heads x y c d a e h i =
    elim (counted x y d h) [
      | inl p ↦ sym p
      | inr j ↦ elim (counted y x c i) [
        | inl p ↦ p
        | inr k ↦ let l : y < x = all_at (λ m. y < m) x d e j in
            let m : x < y = all_at (λ m. x < m) y c a k in
            absurd (omega arith)
      ]
    ]

tail_in : (x : ℕ) (c d : List ℕ) → Each (λ k. x < k) c
    → ((k : ℕ) → 0 < times_named k (x ∷ c) → 0 < times_named k (x ∷ d)) → (k : ℕ)
    → 0 < times_named k c
    → 0 < times_named k d
tail_in x c d a f k h =
    elim (counted k x d (f k (omega arith))) [
      | inl e ↦ let l : x < k = all_at (λ m. x < m) k c a h in absurd (omega arith)
      | inr i ↦ i
    ]

two_parts : (x y : ℕ) (c d : List ℕ) → x ≡ y → c ≡ d → x ∷ c ≡ y ∷ d
two_parts x y c d e f = cc

rising_same : (c d : List ℕ) → Rises c → Rises d
    → ((k : ℕ) → 0 < times_named k c → 0 < times_named k d)
    → ((k : ℕ) → 0 < times_named k d → 0 < times_named k c) → c ≡ d
rising_same [] [] a e f g = refl
rising_same [] (y ∷ d) a e f g = absurd (none_counted y (g y (counts_head y y d refl)))
rising_same (x ∷ c) [] a e f g = absurd (none_counted x (f x (counts_head x x c refl)))
rising_same (x ∷ c) (y ∷ d) a e f g =
    let s : x ≡ y =
    heads x y c d a.0 e.0 (f x (counts_head x x c refl)) (g y (counts_head y y d refl)) in
    let low : Each (λ k. x < k) d = subst (λ (z : ℕ). Each (λ k. z < k) d) (sym s) e.0 in
    two_parts x y c d s (rising_same c d a.1 e.1
    (tail_in x c d a.0 (λ k h. subst (λ (z : ℕ). 0 < times_named k (z ∷ d)) (sym s) (f k h)))
    (tail_in x d c low (λ k h. g k (subst (λ (z : ℕ). 0 < times_named k (z ∷ d)) s h))))

-- ---- a class among others

abbrev HasClass : List ℕ → List (List ℕ) → Type 0
HasClass c [] = ⊥
HasClass c (d ∷ ds) = (d ≡ c) ⊎ HasClass c ds

each_has : (P : List ℕ → Type 0) (c : List ℕ) (cs : List (List ℕ)) → Each P cs → HasClass c cs
    → P c
each_has P c [] a h = absurd h
each_has P c (d ∷ ds) a (inl e) = subst P e a.0
each_has P c (d ∷ ds) a (inr h) = each_has P c ds a.1 h

has_members : (n : ℕ) (c : List ℕ) (cs : List (List ℕ)) → HasClass c cs → 0 < times_named n c
    → 0 < times_named n (class_members cs)
has_members n c [] h i = absurd h
has_members n c (d ∷ ds) (inl e) i =
    let t = times_append n d (class_members ds) in
    let j : 0 < times_named n d = subst (λ (l : List ℕ). 0 < times_named n l) (sym e) i in
    omega arith
has_members n c (d ∷ ds) (inr h) i =
    let t = times_append n d (class_members ds) in
    let j = has_members n c ds h i in
    omega arith

record Holding (n : ℕ) (cs : List (List ℕ)) : Type 0 where
  pub list : List ℕ
  pub has : HasClass list cs
  pub in_list : 0 < times_named n list

held : (n : ℕ) (cs : List (List ℕ)) → 0 < times_named n (class_members cs) → Holding n cs
held n [] h = absurd (none_counted n h)
held n (c ∷ cs) h =
    elim (in_either n c (class_members cs) h) [
      | inl i ↦ record { list = c; has = inl refl; in_list = i }
      | inr i ↦ (let r = held n cs i in
          record { list = r.list; has = inr r.has; in_list = r.in_list })
    ]

shared_of : (n k : ℕ) (c : List ℕ) (cs : List (List ℕ)) → HasClass c cs → 0 < times_named n c
    → 0 < times_named k c → IsShared n k cs
shared_of n k c [] h i j = absurd h
shared_of n k c (d ∷ ds) (inl e) i j =
    inl (
      subst (λ (l : List ℕ). 0 < times_named n l) (sym e) i,
      subst (λ (l : List ℕ). 0 < times_named k l) (sym e) j,
    )
shared_of n k c (d ∷ ds) (inr h) i j = inr (shared_of n k c ds h i j)

-- one of the classes has both
record Both (n k : ℕ) (cs : List (List ℕ)) : Type 0 where
  pub list : List ℕ
  pub has : HasClass list cs
  pub first : 0 < times_named n list
  pub second : 0 < times_named k list

both_in : (n k : ℕ) (cs : List (List ℕ)) → IsShared n k cs → Both n k cs
both_in n k [] h = absurd h
both_in n k (c ∷ cs) (inl h) =
    record { list = c; has = inl refl; first = h.0; second = h.1 }
both_in n k (c ∷ cs) (inr h) =
    let r = both_in n k cs h in
    record { list = r.list; has = inr r.has; first = r.first; second = r.second }

-- of a number that stands once there is one class
one_class : (n : ℕ) (c d : List ℕ) (cs : List (List ℕ)) → times_named n (class_members cs) ≤ 1
    → HasClass c cs → HasClass d cs → 0 < times_named n c → 0 < times_named n d → c ≡ d
one_class n c d [] l h k i j = absurd h
one_class n c d (x ∷ xs) l (inl e) (inl f) i j = sym e ∙ f
one_class n c d (x ∷ xs) l (inl e) (inr k) i j =
    let t = times_append n x (class_members xs) in
    let a : 0 < times_named n x = subst (λ (m : List ℕ). 0 < times_named n m) (sym e) i in
    let b = has_members n d xs k j in
    absurd (omega arith)
one_class n c d (x ∷ xs) l (inr h) (inl f) i j =
    let t = times_append n x (class_members xs) in
    let a : 0 < times_named n x = subst (λ (m : List ℕ). 0 < times_named n m) (sym f) j in
    let b = has_members n c xs h i in
    absurd (omega arith)
one_class n c d (x ∷ xs) l (inr h) (inr k) i j =
    let t = times_append n x (class_members xs) in
    one_class n c d xs (omega arith) h k i j

-- ---- two sets of classes

member_of : (b : Blocked) (cs : List (List ℕ)) → AreClasses b cs → (c : List ℕ) → HasClass c cs
    → (n : ℕ) → 0 < times_named n c → IsGbk b n
member_of b cs a c h n i = member_gbk b cs a.gbks n (has_members n c cs h i)

class_within : (b : Blocked) (cs ds : List (List ℕ)) → AreClasses b cs → AreClasses b ds
    → (c d : List ℕ) → HasClass c cs → HasClass d ds → (n : ℕ) → 0 < times_named n c
    → 0 < times_named n d → (k : ℕ) → 0 < times_named k c → 0 < times_named k d
class_within b cs ds a e c d h i n p q k r =
    let gn : IsGbk b n = member_of b cs a c h n p in
    let gk : IsGbk b k = member_of b cs a c h k r in
    let s : IsShared n k ds =
    (e.linked n k gn gk).1 ((a.linked n k gn gk).0 (shared_of n k c cs h p r)) in
    let t = both_in n k ds s in
    let once = e.once n gn in
    subst (λ (l : List ℕ). 0 < times_named k l)
    (one_class n t.list d ds (omega arith) t.has i t.first q) t.second

least_in : (c : List ℕ) → 0 < length c → 0 < times_named (number_of_first c) c
least_in [] h = absurd (omega arith)
least_in (n ∷ ns) h = counts_head n n ns refl

-- each class of one set is one of the other
class_too : (b : Blocked) (cs ds : List (List ℕ)) → AreClasses b cs → AreClasses b ds
    → (c : List ℕ) → HasClass c cs → HasClass c ds
class_too b cs ds a e c h =
    let n : ℕ = number_of_first c in
    let p : 0 < times_named n c = least_in c (each_has (λ c. 0 < length c) c cs a.some h) in
    let gn : IsGbk b n = member_of b cs a c h n p in
    let once = e.once n gn in
    let r = held n ds (omega arith) in
    let same : r.list ≡ c = rising_same r.list c (each_has Rises r.list ds e.rise r.has)
    (each_has Rises c cs a.rise h)
    (class_within b ds cs e a r.list c r.has h n r.in_list p)
    (class_within b cs ds a e c r.list h r.has n p r.in_list) in
    subst (λ (l : List ℕ). HasClass l ds) same r.has

-- ---- their operations

record RankedOf (b : Blocked) (cs : List (List ℕ)) (y : Ranked) : Type 0 where
  pub list : List ℕ
  pub has : HasClass list cs
  pub is : class_ranked b list ≡ y

class_among : (b : Blocked) (cs : List (List ℕ)) (y : Ranked)
    → IsIn y (map (class_ranked b) cs) → RankedOf b cs y
class_among b [] y h = absurd h
class_among b (c ∷ cs) y (inl e) = record { list = c; has = inl refl; is = e }
class_among b (c ∷ cs) y (inr h) =
    let r = class_among b cs y h in record { list = r.list; has = inr r.has; is = r.is }

among_class : (b : Blocked) (c : List ℕ) (cs : List (List ℕ)) → HasClass c cs
    → IsIn (class_ranked b c) (map (class_ranked b) cs)
among_class b c [] h = absurd h
among_class b c (d ∷ ds) (inl e) = inl (ap (class_ranked b) e)
among_class b c (d ∷ ds) (inr h) = inr (among_class b c ds h)

operation_too : (b : Blocked) (cs ds : List (List ℕ)) → AreClasses b cs → AreClasses b ds
    → (y : Ranked) → IsIn y (operations b cs) → IsIn y (operations b ds)
operation_too b cs ds a e y h =
    let others : List Ranked = all_alone b b.graph.nodes in
    elim (in_append y (map (class_ranked b) cs) others h) [
      | inl i ↦ (let r = class_among b cs y i in
          in_left y (map (class_ranked b) ds) others
          (subst (λ (z : Ranked). IsIn z (map (class_ranked b) ds)) r.is
          (among_class b r.list ds (class_too b cs ds a e r.list r.has))))
      | inr j ↦ in_right y (map (class_ranked b) ds) others j
    ]

pub same_operations : (b : Blocked) (cs ds : List (List ℕ)) → AreClasses b cs → AreClasses b ds
    → AreSame (operations b cs) (operations b ds)
same_operations b cs ds a e = record {
  there = operation_too b cs ds a e;
  back = operation_too b ds cs e a;
}

-- ---- their numbers differ

apart_append : (xs ys : List Ranked) → Apart xs → Apart ys → Each (λ x. Each (Other x) ys) xs
    → Apart (xs ++ ys)
apart_append [] ys a e h = e
apart_append (x ∷ xs) ys a e h =
    (Each-append (Other x) xs ys a.0 h.0, apart_append xs ys a.1 e h.1)

others_differ : (c : List ℕ) (cs : List (List ℕ)) → 0 < length c
    → ((n : ℕ) → 0 < times_named n (class_members (c ∷ cs)) → times_named n (class_members (c ∷ cs))
    ≤ 1)
    → Each (λ d. 0 < length d → number_of_first c ≡ number_of_first d → ⊥) cs
others_differ c cs l few =
    each_class (λ d. 0 < length d → number_of_first c ≡ number_of_first d → ⊥) cs (λ d g s m e.
    let n : ℕ = number_of_first c in
    let p : 0 < times_named n c = least_in c l in
    let q : 0 < times_named n d =
    subst (λ (k : ℕ). 0 < times_named k d) (sym e) (least_in d m) in
    let r : 0 < times_named n (class_members cs) = g n q in
    let t = times_append n c (class_members cs) in
    let f = few n (omega arith) in
    omega arith)

classes_apart : (b : Blocked) (cs : List (List ℕ)) → Each (λ c. 0 < length c) cs
    → ((n : ℕ) → 0 < times_named n (class_members cs) → times_named n (class_members cs) ≤ 1)
    → Apart (map (class_ranked b) cs)
classes_apart b [] some few = tt
classes_apart b (c ∷ cs) some few = (
  Each-map (Other (class_ranked b c)) (class_ranked b) cs
      (Each-both (λ d. 0 < length d) (λ d. 0 < length d → number_of_first c ≡ number_of_first d → ⊥)
      (λ d. Other (class_ranked b c) (class_ranked b d)) (λ d l f. f l) cs some.1
      (others_differ c cs some.0 few)),
  classes_apart b cs some.1 (λ n h.
      let t = times_append n c (class_members cs) in let f = few n (omega arith) in omega arith),
)

-- an operation alone has its node's number, and its node is no Gbk
abbrev Alone : Blocked → ℕ → Ranked → Type 0
Alone b n y = (y.number ≡ n) × (IsGbk b n → ⊥)

flat_alone : (b : Blocked) (n : ℕ) (s : Bool) → (IsGbk b n → ⊥)
    → Each (Alone b n) (cond s (ranked_alone b n (Flat n) ∷ []) [])
flat_alone b n true h = ((refl, h), tt)
flat_alone b n false h = tt

pdo_alone : (b : Blocked) (n : ℕ) (f : Forest) (s : Bool) → (IsGbk b n → ⊥)
    → Each (Alone b n) (cond s [] (ranked_alone b n (trivial n f) ∷ []))
pdo_alone b n f true h = tt
pdo_alone b n f false h = ((refl, h), tt)

node_alone : (b : Blocked) (n : ℕ) (x : Node) → node_at b.graph.nodes n ≡ Some x
    → Each (Alone b n) (alone_of b n x)
node_alone b n (Source r) h = tt
node_alone b n (Flatten ins) h = flat_alone b n (is_stage b n) (subst IsGbkAt h)
node_alone b n (Pdo c f) h = pdo_alone b n f (is_mapper b n || is_reducer b n) (subst IsGbkAt h)
node_alone b n (Gbk c o l k) h = tt
node_alone b n (Barrier ins o l a) h = ((refl, subst IsGbkAt h), tt)

flat_one : (b : Blocked) (n : ℕ) (s : Bool) → Apart (cond s (ranked_alone b n (Flat n) ∷ []) [])
flat_one b n true = (tt, tt)
flat_one b n false = tt

pdo_one : (b : Blocked) (n : ℕ) (f : Forest) (s : Bool)
    → Apart (cond s [] (ranked_alone b n (trivial n f) ∷ []))
pdo_one b n f true = tt
pdo_one b n f false = (tt, tt)

node_one : (b : Blocked) (n : ℕ) (x : Node) → Apart (alone_of b n x)
node_one b n (Source r) = tt
node_one b n (Flatten ins) = flat_one b n (is_stage b n)
node_one b n (Pdo c f) = pdo_one b n f (is_mapper b n || is_reducer b n)
node_one b n (Gbk c o l k) = tt
node_one b n (Barrier ins o l a) = (tt, tt)

alone_apart : (b : Blocked) (es : List Entry) → AllDiffer es
    → Each (λ e. node_at b.graph.nodes e.number ≡ Some e.node) es → Apart (all_alone b es)
alone_apart b [] d a = tt
alone_apart b (e ∷ es) d a =
    let away : Each (λ y. e.number ≡ y.number → ⊥) (all_alone b es) =
    all_alone_so b (λ y. e.number ≡ y.number → ⊥) es
    (Each-both (λ (i : Entry). i.number ≡ e.number → ⊥)
    (λ (i : Entry). node_at b.graph.nodes i.number ≡ Some i.node)
    (λ (i : Entry). Each (λ y. e.number ≡ y.number → ⊥) (alone_of b i.number i.node))
    (λ i n h. Each-weaker (Alone b i.number) (λ y. e.number ≡ y.number → ⊥)
    (λ y k p. n (sym (p ∙ k.0))) (alone_of b i.number i.node)
    (node_alone b i.number i.node h)) es d.0 a.1) in
    apart_append (alone_of b e.number e.node) (all_alone b es) (node_one b e.number e.node)
    (alone_apart b es d.1 a.1)
    (Each-weaker (Alone b e.number) (λ x. Each (Other x) (all_alone b es))
    (λ x k. Each-weaker (λ y. e.number ≡ y.number → ⊥) (Other x)
    (λ y f p. f (sym k.0 ∙ p)) (all_alone b es) away) (alone_of b e.number e.node)
    (node_alone b e.number e.node a.0))

pub operations_apart : (b : Blocked) (cs : List (List ℕ)) → AllDiffer b.graph.nodes
    → AreClasses b cs → Apart (operations b cs)
operations_apart b cs d a =
    let es : List Entry = b.graph.nodes in
    let found : Each (λ e. node_at es e.number ≡ Some e.node) es = each_found es d in
    let alone_there : Each (λ y. IsGbk b y.number → ⊥) (all_alone b es) =
    all_alone_so b (λ y. IsGbk b y.number → ⊥) es
    (Each-weaker (λ (e : Entry). node_at es e.number ≡ Some e.node)
    (λ (e : Entry). Each (λ y. IsGbk b y.number → ⊥) (alone_of b e.number e.node))
    (λ e h. Each-weaker (Alone b e.number) (λ y. IsGbk b y.number → ⊥)
    (λ y k g. k.1 (subst (IsGbk b) k.0 g)) (alone_of b e.number e.node)
    (node_alone b e.number e.node h)) es found) in
    apart_append (map (class_ranked b) cs) (all_alone b es)
    (classes_apart b cs a.some (λ n h.
    let o = a.once n (member_gbk b cs a.gbks n h) in omega arith))
    (alone_apart b es d found)
    (Each-map (λ x. Each (Other x) (all_alone b es)) (class_ranked b) cs
    (Each-both (λ c. 0 < length c) (Each (IsGbk b))
    (λ c. Each (Other (class_ranked b c)) (all_alone b es))
    (λ c l g. Each-weaker (λ y. IsGbk b y.number → ⊥) (Other (class_ranked b c))
    (λ y f p. f (subst (IsGbk b) p (all_at (IsGbk b) (number_of_first c) c g (least_in c l))))
    (all_alone b es) alone_there) cs a.some a.gbks))
