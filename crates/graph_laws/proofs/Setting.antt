-- Setting a node, and leaving one out: what is found then, and where all nodes are changed alike.
use Rattle.std.proofs.Common.{◌≡◌, ℕ, Bool, true, false, cond, eqb, List, [], ◌∷◌, map, Some, refl, sym, ap, ◌∙◌}
use Rattle.std.proofs.lemmas.Bool.{eqb-true, eq-eqb, ne_eqb}
use Rattle.exec_graph.specs.declared.graph.Node.{Node}
use Rattle.exec_graph.specs.declared.graph.Entry.{Entry}
use Rattle.exec_graph.specs.Meaning.{node_at}
use Rattle.exec_graph.proofs.Entries.{entry}
use Rattle.graph_laws.specs.Joining.{set_node, without}

pub node_set : (es : List Entry) (p n : ℕ) (x : Node) → (n ≡ p → ⊥)
    → node_at (set_node es p x) n ≡ node_at es n
node_set [] p n x h = refl
node_set (e ∷ es) p n x h = by (eqb e.number p) refl (node_set es p n x h)
  where
    by : (b : Bool) → eqb e.number p ≡ b → node_at (set_node es p x) n ≡ node_at es n
        → node_at (cond b (entry p x ∷ es) (e ∷ set_node es p x)) n
        ≡ cond (eqb e.number n) (Some e.node) (node_at es n)
    by true i f =
        let here : eqb e.number n ≡ false = ne_eqb e.number n
        (λ j. h (sym j ∙ eqb-true e.number p i)) in
        let there : eqb p n ≡ false = ne_eqb p n (λ j. h (sym j)) in
        rw (here, there) refl
    by false i f = ap (λ o. cond (eqb e.number n) (Some e.node) o) f

-- ---- two changes of one node, and of two

pub set_set : (es : List Entry) (n : ℕ) (x y : Node)
    → set_node (set_node es n x) n y ≡ set_node es n y
set_set [] n x y = refl
set_set (e ∷ es) n x y = by (eqb e.number n) refl (set_set es n x y)
  where
    by : (b : Bool) → eqb e.number n ≡ b → set_node (set_node es n x) n y ≡ set_node es n y
        → set_node (cond b (entry n x ∷ es) (e ∷ set_node es n x)) n y
        ≡ cond b (entry n y ∷ es) (e ∷ set_node es n y)
    by true q i = rw (eq-eqb n n refl) refl
    by false q i = rw q (ap (λ l. e ∷ l) i)

pub without_set : (es : List Entry) (n : ℕ) (x : Node)
    → without (set_node es n x) n ≡ without es n
without_set [] n x = refl
without_set (e ∷ es) n x = by (eqb e.number n) refl (without_set es n x)
  where
    by : (b : Bool) → eqb e.number n ≡ b → without (set_node es n x) n ≡ without es n
        → without (cond b (entry n x ∷ es) (e ∷ set_node es n x)) n
        ≡ cond b es (e ∷ without es n)
    by true q i = rw (eq-eqb n n refl) refl
    by false q i = rw q (ap (λ l. e ∷ l) i)

pub without_set_other : (es : List Entry) (p q : ℕ) (x : Node) → (p ≡ q → ⊥)
    → without (set_node es p x) q ≡ set_node (without es q) p x
without_set_other [] p q x h = refl
without_set_other (e ∷ es) p q x h =
    by (eqb e.number p) (eqb e.number q) refl refl (without_set_other es p q x h)
  where
    by : (a b : Bool) → eqb e.number p ≡ a → eqb e.number q ≡ b
        → without (set_node es p x) q ≡ set_node (without es q) p x
        → without (cond a (entry p x ∷ es) (e ∷ set_node es p x)) q
        ≡ set_node (cond b es (e ∷ without es q)) p x
    by true true i j k = absurd (h (sym (eqb-true e.number p i) ∙ eqb-true e.number q j))
    by true false i j k = rw (ne_eqb p q h, i) refl
    by false true i j k = rw j refl
    by false false i j k = rw (i, j) (ap (λ l. e ∷ l) k)

-- ---- where all nodes are changed alike

-- A node's entry with another node.
abbrev pub on : (Node → Node) → Entry → Entry
on k e = record { number = e.number; node = k e.node }

pub set_on : (k : Node → Node) (es : List Entry) (n : ℕ) (x : Node)
    → set_node (map (on k) es) n (k x) ≡ map (on k) (set_node es n x)
set_on k [] n x = refl
set_on k (e ∷ es) n x = by (eqb e.number n) (set_on k es n x)
  where
    by : (b : Bool) → set_node (map (on k) es) n (k x) ≡ map (on k) (set_node es n x)
        → cond b (entry n (k x) ∷ map (on k) es) (on k e ∷ set_node (map (on k) es) n (k x))
        ≡ map (on k) (cond b (entry n x ∷ es) (e ∷ set_node es n x))
    by true i = refl
    by false i = ap (λ l. on k e ∷ l) i

pub without_on : (k : Node → Node) (es : List Entry) (n : ℕ)
    → without (map (on k) es) n ≡ map (on k) (without es n)
without_on k [] n = refl
without_on k (e ∷ es) n = by (eqb e.number n) (without_on k es n)
  where
    by : (b : Bool) → without (map (on k) es) n ≡ map (on k) (without es n)
        → cond b (map (on k) es) (on k e ∷ without (map (on k) es) n)
        ≡ map (on k) (cond b es (e ∷ without es n))
    by true i = refl
    by false i = ap (λ l. on k e ∷ l) i
