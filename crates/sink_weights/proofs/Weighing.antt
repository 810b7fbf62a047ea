-- Weights of nodes: they meet their equations, and are not above what is enough.
use Rattle.std.proofs.Common.{◌≡◌, ℕ, ◌+◌, ◌*◌, ◌<◌, ◌≤◌, Bool, true, false, cond, eqb, ◌||◌, List, [], ◌∷◌, Option, Some, None, length, map, zero, suc, refl, sym, ap, ◌∙◌, subst, arith, inl, inr}
use Rattle.std.proofs.lemmas.Bool.{eqb-true, false≢true}
use Rattle.std.specs.List.{AllByRecursion}
use Rattle.flume_value.proofs.EachLemmas.{Each-weaker}
use Rattle.sink_laws.specs.of_exec_graph.Meaning.{node_at, reads, IsRankedBy}
use Rattle.sink_laws.specs.of_exec_graph.Wellformed.{IsFounded}
use Rattle.sink_laws.specs.of_exec_graph.declared.graph.Place.{Place}
use Rattle.sink_laws.specs.of_exec_graph.declared.graph.Node.{Node}
use Rattle.sink_laws.specs.of_exec_graph.declared.graph.Node.TheVariants.{Source, Flatten, Pdo, Gbk, Barrier}
use Rattle.sink_laws.specs.of_exec_graph.declared.graph.Entry.{Entry}
use Rattle.sink_laws.specs.of_exec_graph.declared.graph.Graph.{Graph}
use Rattle.sink_laws.proofs.of_exec_graph.Bools.{or_cases}
use Rattle.sink_laws.proofs.of_exec_graph.Solving.{lower_most, place_of, ranked_at, short_ranked}
use Rattle.sink_laws.specs.of_graph_laws.Joining.{reread}
use Rattle.sink_weights.specs.Weights.{weights_at, node_weight, weight_at, weight_in, weight, is_of}

pub next_in : (es : List Entry) (k n : ℕ)
    → weight_in es (suc k) n ≡ weight_at (weight_in es k) (node_at es n)
unfolding weight_in
next_in es k n = refl

none_in : (es : List Entry) (n : ℕ) → weight_in es zero n ≡ 0
unfolding weight_in
none_in es n = refl

-- The weights before the last turn.
abbrev pub before : List Entry → ℕ → ℕ
before es n = weight_in es (length es) n

pub weight_is : (es : List Entry) (n : ℕ) → weight es n ≡ weight_at (before es) (node_at es n)
unfolding weight
weight_is es n = next_in es (length es) n

-- ---- the weights meet their equations

added_alike : (m k : ℕ → ℕ) (cs : List Place) → AllByRecursion (λ c. k c.node ≡ m c.node) cs
    → weights_at k cs ≡ weights_at m cs
added_alike m k [] a = refl
added_alike m k (c ∷ cs) a =
    let i = added_alike m k cs a.1 in let j : k c.node ≡ m c.node = a.0 in cc

node_alike : (m k : ℕ → ℕ) (x : Node) → AllByRecursion (λ c. k c.node ≡ m c.node) (reads x)
    → node_weight k x ≡ node_weight m x
node_alike m k (Source r) a = refl
node_alike m k (Flatten ins) a = ap (λ n. 1 + n) (added_alike m k ins a)
node_alike m k (Pdo c f) a = ap (λ n. 2 * n) a.0
node_alike m k (Gbk c o l i) a = a.0
node_alike m k (Barrier ins o l d) a = ap (λ n. 1 + n) (added_alike m k ins a)

at_alike : (m k : ℕ → ℕ) (o : Option Node)
    → ((x : Node) → o ≡ Some x → AllByRecursion (λ c. k c.node ≡ m c.node) (reads x))
    → weight_at k o ≡ weight_at m o
at_alike m k None f = refl
at_alike m k (Some x) f = node_alike m k x (f x refl)

stable : (r : ℕ → ℕ) (es : List Entry) → IsRankedBy r es → (k j n : ℕ) → r n < k → r n < j
    → weight_in es k n ≡ weight_in es j n
stable r es ra zero j n p q = absurd (omega arith)
stable r es ra (suc k) zero n p q = absurd (omega arith)
stable r es ra (suc k) (suc j) n p q =
    next_in es k n
    ∙ at_alike (weight_in es j) (weight_in es k) (node_at es n)
    (λ x h. Each-weaker (λ (d : Place). r d.node < r n)
    (λ d. weight_in es k d.node ≡ weight_in es j d.node)
    (λ d i. stable r es ra k j d.node (omega arith) (omega arith)) (reads x)
    (ranked_at r es n x ra h))
    ∙ sym (next_in es j n)

pub weight_fits : (g : Graph) (n : ℕ) (x : Node) → IsFounded g → node_at g.nodes n ≡ Some x
    → weight g.nodes n ≡ node_weight (weight g.nodes) x
weight_fits g n x ok at =
    let es : List Entry = g.nodes in
    let s : ℕ → ℕ = place_of ok.ranked.0 es in
    let sa : IsRankedBy s es = short_ranked ok.ranked.0 es es ok.there ok.ranked.1 in
    let top : s n ≤ length es = lower_most ok.ranked.0 es (ok.ranked.0 n) in
    weight_is es n ∙ ap (weight_at (before es)) at
    ∙ node_alike (weight es) (before es) x
    (Each-weaker (λ (d : Place). s d.node < s n) (λ d. before es d.node ≡ weight es d.node)
    (λ d i. stable s es sa (length es) (suc (length es)) d.node (omega arith) (omega arith)
    ∙ next_in es (length es) d.node ∙ sym (weight_is es d.node)) (reads x)
    (ranked_at s es n x sa at))

-- ---- lighter inputs

pub added_below : (m k : ℕ → ℕ) → ((n : ℕ) → k n ≤ m n) → (cs : List Place)
    → weights_at k cs ≤ weights_at m cs
added_below m k h [] = omega arith
added_below m k h (c ∷ cs) =
    let i = added_below m k h cs in let j : k c.node ≤ m c.node = h c.node in omega arith

pub node_below : (m k : ℕ → ℕ) → ((n : ℕ) → k n ≤ m n) → (x : Node)
    → node_weight k x ≤ node_weight m x
node_below m k h (Source r) = omega arith
node_below m k h (Flatten ins) = let i = added_below m k h ins in omega arith
node_below m k h (Pdo c f) = let i : k c.node ≤ m c.node = h c.node in omega arith
node_below m k h (Gbk c o l i) = h c.node
node_below m k h (Barrier ins o l a) = let i = added_below m k h ins in omega arith

at_below : (m k : ℕ → ℕ) → ((n : ℕ) → k n ≤ m n) → (o : Option Node)
    → weight_at k o ≤ weight_at m o
at_below m k h None = omega arith
at_below m k h (Some x) = node_below m k h x

in_rises : (es : List Entry) (k n : ℕ) → weight_in es k n ≤ weight_in es (suc k) n
in_rises es zero n = let e = none_in es n in omega arith
in_rises es (suc k) n =
    let a = next_in es k n in
    let b = next_in es (suc k) n in
    let c = at_below (weight_in es (suc k)) (weight_in es k) (λ i. in_rises es k i) (node_at es n)
    in omega arith

pub before_below : (es : List Entry) (n : ℕ) → before es n ≤ weight es n
before_below es n =
    let a = in_rises es (length es) n in
    let b = next_in es (length es) n in
    let c = weight_is es n in omega arith

-- ---- no weights are above what is enough for each node

abbrev pub IsEnough : (ℕ → ℕ) → List Entry → Type 0
IsEnough m es = AllByRecursion (λ e. node_weight m e.node ≤ m e.number) es

enough_at : (m : ℕ → ℕ) (es : List Entry) (n : ℕ) → IsEnough m es
    → weight_at m (node_at es n) ≤ m n
enough_at m [] n a = omega arith
enough_at m (e ∷ es) n a = by (eqb e.number n) refl (enough_at m es n a.1)
  where
    by : (b : Bool) → eqb e.number n ≡ b → weight_at m (node_at es n) ≤ m n
        → weight_at m (cond b (Some e.node) (node_at es n)) ≤ m n
    by true i h = subst (λ (k : ℕ). node_weight m e.node ≤ m k) (eqb-true e.number n i) a.0
    by false i h = h

in_below : (m : ℕ → ℕ) (es : List Entry) → IsEnough m es → (k n : ℕ) → weight_in es k n ≤ m n
in_below m es a zero n = let e = none_in es n in omega arith
in_below m es a (suc k) n =
    let e = next_in es k n in
    let i = at_below m (weight_in es k) (λ n. in_below m es a k n) (node_at es n) in
    let j = enough_at m es n a in
    omega arith

pub no_heavier : (m : ℕ → ℕ) (es : List Entry) → IsEnough m es → (n : ℕ) → weight es n ≤ m n
no_heavier m es a n =
    let e = weight_is es n in let f = next_in es (length es) n in
    let i = in_below m es a (suc (length es)) n in omega arith

-- What a node weighs is not above its equation over what is enough.
pub at_most : (m : ℕ → ℕ) (es : List Entry) (n : ℕ) (x : Node) → IsEnough m es
    → node_at es n ≡ Some x → weight es n ≤ node_weight m x
at_most m es n x a at =
    let e : weight es n ≡ node_weight (before es) x =
    weight_is es n ∙ ap (weight_at (before es)) at in
    let i = node_below m (before es) (λ n. in_below m es a (length es) n) x in omega arith

-- ---- a lighter input makes a node lighter

-- The weights of collections, by places.
abbrev pub sum_of : (Place → ℕ) → List Place → ℕ
sum_of K [] = 0
sum_of K (c ∷ cs) = K c + sum_of K cs

pub added_map : (k : ℕ → ℕ) (r : Place → Place) (cs : List Place)
    → weights_at k (map r cs) ≡ sum_of (λ c. k (r c).node) cs
added_map k r [] = refl
added_map k r (c ∷ cs) = let i = added_map k r cs in cc

pub added_self : (k : ℕ → ℕ) (cs : List Place) → weights_at k cs ≡ sum_of (λ c. k c.node) cs
added_self k [] = refl
added_self k (c ∷ cs) = let i = added_self k cs in cc

pub sum_le : (K M : Place → ℕ) (cs : List Place) → AllByRecursion (λ c. K c ≤ M c) cs
    → sum_of K cs ≤ sum_of M cs
sum_le K M [] a = omega arith
sum_le K M (c ∷ cs) a = let i = sum_le K M cs a.1 in let j : K c ≤ M c = a.0 in omega arith

-- They weigh less where those of node q do, and there is one of these.
pub sum_lt : (K M : Place → ℕ) (q : ℕ) (cs : List Place) → AllByRecursion (λ c. K c ≤ M c) cs
    → AllByRecursion (λ c. c.node ≡ q → K c < M c) cs → is_of q cs ≡ true
    → sum_of K cs < sum_of M cs
sum_lt K M q [] a b h = absurd (false≢true h)
sum_lt K M q (c ∷ cs) a b h =
    let j : K c ≤ M c = a.0 in
    let i = sum_le K M cs a.1 in
    elim (or_cases (eqb c.node q) (is_of q cs) h) [
      | inl e ↦ (let l : K c < M c = b.0 (eqb-true c.node q e) in omega arith)
      | inr e ↦ (let l = sum_lt K M q cs a.1 b.1 e in omega arith)
    ]

pub node_lt : (k m : ℕ → ℕ) (r : Place → Place) (q : ℕ) (x : Node)
    → AllByRecursion (λ c. k (r c).node ≤ m c.node) (reads x)
    → AllByRecursion (λ c. c.node ≡ q → k (r c).node < m c.node) (reads x)
    → is_of q (reads x) ≡ true → node_weight k (reread r x) < node_weight m x
node_lt k m r q (Source s) a b h = absurd (false≢true h)
node_lt k m r q (Flatten ins) a b h =
    let i = added_map k r ins in
    let j = added_self m ins in
    let l = sum_lt (λ c. k (r c).node) (λ c. m c.node) q ins a b h in omega arith
node_lt k m r q (Pdo c f) a b h =
    let e : c.node ≡ q = one c q h in
    let l : k (r c).node < m c.node = b.0 e in omega arith
  where
    one : (c : Place) (q : ℕ) → (eqb c.node q || false) ≡ true → c.node ≡ q
    one c q h = elim (or_cases (eqb c.node q) false h) [
      | inl e ↦ eqb-true c.node q e
      | inr e ↦ absurd (false≢true e)
    ]
node_lt k m r q (Gbk c o l i) a b h = b.0 (one c q h)
  where
    one : (c : Place) (q : ℕ) → (eqb c.node q || false) ≡ true → c.node ≡ q
    one c q h = elim (or_cases (eqb c.node q) false h) [
      | inl e ↦ eqb-true c.node q e
      | inr e ↦ absurd (false≢true e)
    ]
node_lt k m r q (Barrier ins o y d) a b h =
    let i = added_map k r ins in
    let j = added_self m ins in
    let l = sum_lt (λ c. k (r c).node) (λ c. m c.node) q ins a b h in omega arith

-- ---- and where all others weigh no more

pub added_less : (k m : ℕ → ℕ) (q : ℕ) (cs : List Place) → ((n : ℕ) → k n ≤ m n) → k q < m q
    → is_of q cs ≡ true → weights_at k cs < weights_at m cs
added_less k m q [] f l h = absurd (false≢true h)
added_less k m q (c ∷ cs) f l h =
    let j : k c.node ≤ m c.node = f c.node in
    let i = added_below m k f cs in
    elim (or_cases (eqb c.node q) (is_of q cs) h) [
      | inl e ↦ (let s : k c.node < m c.node =
          subst (λ (n : ℕ). k n < m n) (sym (eqb-true c.node q e)) l in omega arith)
      | inr e ↦ (let s = added_less k m q cs f l e in omega arith)
    ]

pub node_less : (k m : ℕ → ℕ) (q : ℕ) (x : Node) → ((n : ℕ) → k n ≤ m n) → k q < m q
    → is_of q (reads x) ≡ true → node_weight k x < node_weight m x
node_less k m q (Source s) f l h = absurd (false≢true h)
node_less k m q (Flatten ins) f l h = let a = added_less k m q ins f l h in omega arith
node_less k m q (Pdo c g) f l h =
    let a = added_less k m q (c ∷ []) f l h in omega arith
node_less k m q (Gbk c o i j) f l h =
    let a = added_less k m q (c ∷ []) f l h in omega arith
node_less k m q (Barrier ins o y d) f l h = let a = added_less k m q ins f l h in omega arith
