-- Sums over the nodes of a graph, by their numbers.
use Rattle.std.proofs.Common.{◌≡◌, ℕ, ◌+◌, ◌<◌, ◌≤◌, Bool, true, false, cond, eqb, List, [], ◌∷◌, ◌++◌, Some, map, refl, sym, ap, ◌∙◌, subst, arith}
use Rattle.std.proofs.lemmas.Bool.{eqb-true, eq-eqb, false≢true}
use Rattle.std.specs.List.{AllByRecursion}
use Rattle.flume_value.proofs.EachLemmas.{Each-weaker}
use Rattle.sink_laws.specs.of_exec_graph.Meaning.{node_at, AllDiffer, place}
use Rattle.sink_laws.specs.of_exec_graph.Readers.{is_read}
use Rattle.sink_laws.specs.of_exec_graph.declared.graph.Place.{Place}
use Rattle.sink_laws.specs.of_exec_graph.declared.graph.Node.{Node}
use Rattle.sink_laws.specs.of_exec_graph.declared.graph.Entry.{Entry}
use Rattle.sink_laws.specs.of_exec_graph.declared.graph.Graph.{Graph}
use Rattle.sink_laws.proofs.of_exec_graph.Bools.{not_true}
use Rattle.sink_laws.proofs.of_exec_graph.Entries.{entry}
use Rattle.sink_laws.specs.of_graph_laws.Joining.{set_node, without, reread_entry}
use Rattle.sink_laws.proofs.of_graph_laws.Changes.{all_without, node_at-without_other}
use Rattle.sink_laws.specs.Merging.{dropped, tidied}
use Rattle.sink_weights.specs.Weights.{is_node_read, unread_weight, node_weight}
use Rattle.sink_weights.proofs.Roots.{node_of_place}
use Rattle.sink_weights.proofs.Weighing.{IsEnough}

abbrev pub weigh : (ℕ → ℕ) → List Entry → ℕ
weigh v [] = 0
weigh v (e ∷ es) = v e.number + weigh v es

-- What a node adds to the weight of those that nothing reads.
abbrev pub left : Graph → (ℕ → ℕ) → ℕ → ℕ
left g m q = cond (is_node_read g q) 0 (m q)

pub unread_is : (m : ℕ → ℕ) (g : Graph) (es : List Entry)
    → unread_weight m g es ≡ weigh (left g m) es
unread_is m g [] = refl
unread_is m g (e ∷ es) = let i = unread_is m g es in cc

pub left_read : (g : Graph) (m : ℕ → ℕ) (q : ℕ) → is_node_read g q ≡ true → left g m q ≡ 0
left_read g m q h = rw h refl

pub left_unread : (g : Graph) (m : ℕ → ℕ) (q : ℕ) → is_node_read g q ≡ false
    → left g m q ≡ m q
left_unread g m q h = rw h refl

pub left_below : (g : Graph) (m : ℕ → ℕ) (q : ℕ) → left g m q ≤ m q
left_below g m q =
    elim (is_node_read g q) as (λ b. cond b 0 (m q) ≤ m q)
    [ true ↦ omega arith | false ↦ omega arith ]

-- ---- sums

pub weigh_append : (v : ℕ → ℕ) (xs ys : List Entry)
    → weigh v (xs ++ ys) ≡ weigh v xs + weigh v ys
weigh_append v [] ys = omega arith
weigh_append v (e ∷ es) ys = let i = weigh_append v es ys in omega arith

pub weigh_map : (v : ℕ → ℕ) (r : Place → Place) (es : List Entry)
    → weigh v (map (reread_entry r) es) ≡ weigh v es
weigh_map v r [] = refl
weigh_map v r (e ∷ es) = let i = weigh_map v r es in cc

pub weigh_set : (v : ℕ → ℕ) (es : List Entry) (n : ℕ) (x : Node)
    → weigh v (set_node es n x) ≡ weigh v es
weigh_set v [] n x = refl
weigh_set v (e ∷ es) n x = by (eqb e.number n) refl (weigh_set v es n x)
  where
    by : (b : Bool) → eqb e.number n ≡ b → weigh v (set_node es n x) ≡ weigh v es
        → weigh v (cond b (entry n x ∷ es) (e ∷ set_node es n x)) ≡ weigh v (e ∷ es)
    by true i h = ap (λ (j : ℕ). v j + weigh v es) (sym (eqb-true e.number n i))
    by false i h = ap (λ (j : ℕ). v e.number + j) h

pub weigh_at : (v : ℕ → ℕ) (es : List Entry) (n : ℕ) (y : Node) → node_at es n ≡ Some y
    → weigh v es ≡ v n + weigh v (without es n)
weigh_at v [] n y h = let bad : ⊥ = cc in absurd bad
weigh_at v (e ∷ es) n y h = by (eqb e.number n) refl h (λ i. weigh_at v es n y i)
  where
    by : (b : Bool) → eqb e.number n ≡ b → cond b (Some e.node) (node_at es n) ≡ Some y
        → (node_at es n ≡ Some y → weigh v es ≡ v n + weigh v (without es n))
        → weigh v (e ∷ es) ≡ v n + weigh v (cond b es (e ∷ without es n))
    by true i k f = ap (λ (j : ℕ). v j + weigh v es) (eqb-true e.number n i)
    by false i k f = let j = f k in omega arith

pub weigh_le : (v w : ℕ → ℕ) (es : List Entry)
    → AllByRecursion (λ e. v e.number ≤ w e.number) es → weigh v es ≤ weigh w es
weigh_le v w [] a = omega arith
weigh_le v w (e ∷ es) a =
    let i = weigh_le v w es a.1 in let j : v e.number ≤ w e.number = a.0 in omega arith

pub weigh_lt : (v w : ℕ → ℕ) (es : List Entry) (q : ℕ) (y : Node)
    → AllByRecursion (λ e. v e.number ≤ w e.number) es → node_at es q ≡ Some y → v q < w q
    → weigh v es < weigh w es
weigh_lt v w [] q y a h l = let bad : ⊥ = cc in absurd bad
weigh_lt v w (e ∷ es) q y a h l =
    let j : v e.number ≤ w e.number = a.0 in
    by (eqb e.number q) refl h j (weigh_le v w es a.1) (λ i. weigh_lt v w es q y a.1 i l)
  where
    by : (b : Bool) → eqb e.number q ≡ b → cond b (Some e.node) (node_at es q) ≡ Some y
        → v e.number ≤ w e.number → weigh v es ≤ weigh w es
        → (node_at es q ≡ Some y → weigh v es < weigh w es)
        → v e.number + weigh v es < w e.number + weigh w es
    by true i k j r f =
        let s : v e.number < w e.number =
        subst (λ (n : ℕ). v n < w n) (sym (eqb-true e.number q i)) l in omega arith
    by false i k j r f = let s = f k in omega arith

pub weigh_every : (v w : ℕ → ℕ) (es : List Entry) → ((q : ℕ) → v q ≤ w q)
    → weigh v es ≤ weigh w es
weigh_every v w [] f = omega arith
weigh_every v w (e ∷ es) f =
    let i = weigh_every v w es f in let j : v e.number ≤ w e.number = f e.number in omega arith

pub weigh_none : (v : ℕ → ℕ) (es : List Entry) → AllByRecursion (λ e. v e.number ≡ 0) es
    → weigh v es ≡ 0
weigh_none v [] a = refl
weigh_none v (e ∷ es) a =
    let i = weigh_none v es a.1 in let j : v e.number ≡ 0 = a.0 in omega arith

-- ---- a graph that is tidied

-- The same, but for the node n.
abbrev pub skipping : ℕ → (ℕ → ℕ) → ℕ → ℕ
skipping n u q = cond (eqb q n) 0 (u q)

skipping_other : (n q : ℕ) (u : ℕ → ℕ) → (q ≡ n → ⊥) → skipping n u q ≡ u q
skipping_other n q u h =
    let e : eqb q n ≡ false = not_true (eqb q n) (λ i. h (eqb-true q n i)) in rw e refl

skipping_self : (n q : ℕ) (u : ℕ → ℕ) → q ≡ n → skipping n u q ≡ 0
skipping_self n q u h = let e : eqb q n ≡ true = eq-eqb q n h in rw e refl

pub skipping_below : (n q : ℕ) (u : ℕ → ℕ) → skipping n u q ≤ u q
skipping_below n q u = elim (eqb q n) as (λ b. cond b 0 (u q) ≤ u q)
    [ true ↦ omega arith | false ↦ omega arith ]

-- What is left of a node weighs no more, where it weighs no more and is read if it was.
pub left_le : (g t : Graph) (m k : ℕ → ℕ) (n q : ℕ) → k q ≤ m q
    → ((q ≡ n → ⊥) → is_node_read g q ≡ true → is_node_read t q ≡ true)
    → skipping n (left t k) q ≤ left g m q
left_le g t m k n q less still = by (eqb q n) refl (is_node_read g q) refl
  where
    by : (b : Bool) → eqb q n ≡ b → (c : Bool) → is_node_read g q ≡ c
        → skipping n (left t k) q ≤ left g m q
    by true i c j = let a = skipping_self n q (left t k) (eqb-true q n i) in omega arith
    by false i true j =
        let apart : q ≡ n → ⊥ = λ e. false≢true (sym i ∙ eq-eqb q n e) in
        let a = skipping_other n q (left t k) apart in
        let b = left_read t k q (still apart j) in omega arith
    by false i false j =
        let a = skipping_below n q (left t k) in
        let b = left_below t k q in
        let c = left_unread g m q j in omega arith

-- h without n, where nothing reads that.
pub record IsTidied (h t : Graph) (n : ℕ) : Type 0 where
  pub outputs : t.outputs ≡ h.outputs
  pub others : (q : ℕ) (x : Node) → (q ≡ n → ⊥) → node_at h.nodes q ≡ Some x
      → node_at t.nodes q ≡ Some x
  pub enough : (m : ℕ → ℕ) → IsEnough m h.nodes → IsEnough m t.nodes
  pub weighs : (k : ℕ → ℕ) → weigh (left t k) t.nodes ≤ weigh (skipping n (left t k)) h.nodes

skip_all : (u : ℕ → ℕ) (n : ℕ) (es : List Entry) → u n ≡ 0 → weigh u es ≤ weigh (skipping n u) es
skip_all u n [] z = omega arith
skip_all u n (e ∷ es) z =
    let i = skip_all u n es z in
    by (eqb e.number n) refl i
  where
    by : (b : Bool) → eqb e.number n ≡ b → weigh u es ≤ weigh (skipping n u) es
        → u e.number + weigh u es ≤ cond b 0 (u e.number) + weigh (skipping n u) es
    by true j i = let s : u e.number ≡ 0 = ap u (eqb-true e.number n j) ∙ z in omega arith
    by false j i = omega arith

skip_others : (u : ℕ → ℕ) (n : ℕ) (es : List Entry)
    → AllByRecursion (λ e. e.number ≡ n → ⊥) es → weigh u es ≤ weigh (skipping n u) es
skip_others u n [] a = omega arith
skip_others u n (e ∷ es) a =
    let i = skip_others u n es a.1 in
    let s = skipping_other n e.number u a.0 in omega arith

skip_without : (u : ℕ → ℕ) (n : ℕ) (es : List Entry) → AllDiffer es
    → weigh u (without es n) ≤ weigh (skipping n u) es
skip_without u n [] d = omega arith
skip_without u n (e ∷ es) d = by (eqb e.number n) refl (skip_without u n es d.1)
  where
    by : (b : Bool) → eqb e.number n ≡ b → weigh u (without es n) ≤ weigh (skipping n u) es
        → weigh u (cond b es (e ∷ without es n))
        ≤ cond b 0 (u e.number) + weigh (skipping n u) es
    by true i h = let s = skip_others u n es (Each-weaker (λ (x : Entry). x.number ≡ e.number → ⊥)
        (λ x. x.number ≡ n → ⊥) (λ x f j. f (j ∙ sym (eqb-true e.number n i))) es d.0)
        in omega arith
    by false i h = omega arith

pub IsTidied-tidied : (h : Graph) (n : ℕ) → AllDiffer h.nodes → IsTidied h (tidied h n) n
IsTidied-tidied h n d = by (is_read h (place n 0)) refl
  where
    by : (b : Bool) → is_read h (place n 0) ≡ b → IsTidied h (cond b h (dropped h n)) n
    by true i = record {
      outputs = refl;
      others = λ q x a e. e;
      enough = λ m a. a;
      weighs = λ k. skip_all (left h k) n h.nodes
          (left_read h k n (node_of_place h (place n 0) i));
    }
    by false i = record {
      outputs = refl;
      others = λ q x a e. node_at-without_other h.nodes n q x a e;
      enough = λ m a. all_without (λ e. node_weight m e.node ≤ m e.number) h.nodes n a;
      weighs = λ k. skip_without (left (dropped h n) k) n h.nodes d;
    }
