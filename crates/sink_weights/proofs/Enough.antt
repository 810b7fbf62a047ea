-- What is enough for each node after a step: as much as the equations of weights ask, and no more
-- than the node had.
use Rattle.std.proofs.Common.{◌≡◌, ℕ, ◌+◌, ◌*◌, ◌-◌, ◌<◌, ◌≤◌, cond, ltb, List, [], ◌∷◌, length, map, get_or, zero, suc, refl, ap, ◌∙◌, subst, arith}
use Rattle.std.proofs.lemmas.Bool.{lt-ltb, le-ltb}
use Rattle.std.specs.List.{AllByRecursion}
use Rattle.sink_laws.specs.of_exec_graph.Forests.{Forest}
use Rattle.sink_laws.specs.of_exec_graph.Meaning.{place, reads}
use Rattle.sink_laws.specs.of_exec_graph.declared.graph.Place.{Place}
use Rattle.sink_laws.specs.of_exec_graph.declared.graph.Node.{Node}
use Rattle.sink_laws.specs.of_exec_graph.declared.graph.Node.TheVariants.{Source, Flatten, Pdo, Gbk, Barrier}
use Rattle.sink_laws.specs.of_graph_laws.Joining.{reread}
use Rattle.sink_laws.specs.Sinking.{copies, copied, flattens, flatten_number}
use Rattle.sink_weights.specs.Weights.{weights_at, node_weight}
use Rattle.sink_weights.proofs.Sums.{weigh}
use Rattle.sink_weights.proofs.Weighing.{IsEnough}

-- ---- what is enough: a copy weighs twice its input, and the Flattens no more than p did
abbrev pub enough : (ℕ → ℕ) → ℕ → ℕ → List Place → ℕ → ℕ
enough m next p ins q =
    cond (ltb q next) (m q)
    (cond (ltb q (next + length ins)) (2 * m (get_or ins (q - next) (place 0 0)).node) (m p))

pub enough_old : (m : ℕ → ℕ) (next p : ℕ) (ins : List Place) (q : ℕ) → q < next
    → enough m next p ins q ≡ m q
enough_old m next p ins q h = rw (lt-ltb q next h) refl

enough_copy : (m : ℕ → ℕ) (next p : ℕ) (ins : List Place) (i q : ℕ) → q ≡ next + i
    → i < length ins
    → enough m next p ins q ≡ 2 * m (get_or ins i (place 0 0)).node
enough_copy m next p ins i q h l =
    let e : q - next ≡ i = omega arith in
    rw (le-ltb q next (omega arith), lt-ltb q (next + length ins) (omega arith), e) refl

enough_flatten : (m : ℕ → ℕ) (next p : ℕ) (ins : List Place) (q : ℕ) → next + length ins ≤ q
    → enough m next p ins q ≡ m p
enough_flatten m next p ins q h =
    rw (le-ltb q next (omega arith), le-ltb q (next + length ins) (omega arith)) refl

pub enough_number : (m : ℕ → ℕ) (next p : ℕ) (ins : List Place) (j : ℕ) → p < next
    → enough m next p ins (flatten_number p (next + length ins) j) ≡ m p
enough_number m next p ins zero h = enough_old m next p ins p h
enough_number m next p ins (suc j) h =
    enough_flatten m next p ins ((next + length ins) + j) (omega arith)

-- The outputs of the copies weigh twice the inputs.
added_from : (m : ℕ → ℕ) (next p : ℕ) (ins : List Place) (j i q : ℕ) (cs : List Place)
    → q ≡ next + i → i + length cs ≡ length ins
    → ((k : ℕ) → get_or ins (i + k) (place 0 0) ≡ get_or cs k (place 0 0))
    → weights_at (enough m next p ins) (copied q j cs) ≡ 2 * weights_at m cs
added_from m next p ins j i q [] h l a = omega arith
added_from m next p ins j i q (c ∷ cs) h l a =
    let here : get_or ins i (place 0 0) ≡ c =
    subst (λ (k : ℕ). get_or ins k (place 0 0) ≡ c) (let e : i + 0 ≡ i = omega arith in e) (a 0) in
    let one : enough m next p ins q ≡ 2 * m c.node =
    enough_copy m next p ins i q h (omega arith) ∙ ap (λ (d : Place). 2 * m d.node) here in
    let rest = added_from m next p ins j (i + 1) (q + 1) cs (omega arith) (omega arith)
    (λ k. subst (λ (b : ℕ). get_or ins b (place 0 0) ≡ get_or cs k (place 0 0))
    (let e : i + suc k ≡ (i + 1) + k = omega arith in e) (a (suc k))) in
    omega arith

pub added_copied : (m : ℕ → ℕ) (next p : ℕ) (ins : List Place) (j : ℕ)
    → weights_at (enough m next p ins) (copied next j ins) ≡ 2 * weights_at m ins
added_copied m next p ins j =
    added_from m next p ins j 0 next ins (omega arith) (omega arith)
    (λ k. ap (λ (a : ℕ). get_or ins a (place 0 0)) (omega arith))

-- ---- a node over collections of the same weights

added_same : (k m : ℕ → ℕ) (r : Place → Place) (cs : List Place)
    → AllByRecursion (λ c. k (r c).node ≡ m c.node) cs → weights_at k (map r cs) ≡ weights_at m cs
added_same k m r [] a = refl
added_same k m r (c ∷ cs) a =
    let i = added_same k m r cs a.1 in let j : k (r c).node ≡ m c.node = a.0 in cc

pub weight_same : (k m : ℕ → ℕ) (r : Place → Place) (x : Node)
    → AllByRecursion (λ c. k (r c).node ≡ m c.node) (reads x)
    → node_weight k (reread r x) ≡ node_weight m x
weight_same k m r (Source s) a = refl
weight_same k m r (Flatten ins) a = ap (λ n. 1 + n) (added_same k m r ins a)
weight_same k m r (Pdo c f) a = ap (λ n. 2 * n) a.0
weight_same k m r (Gbk c o l i) a = a.0
weight_same k m r (Barrier ins o l d) a = ap (λ n. 1 + n) (added_same k m r ins a)

pub copies_enough : (m : ℕ → ℕ) (next p : ℕ) (f : Forest) (ins : List Place) (i q : ℕ)
    (cs : List Place) → q ≡ next + i → i + length cs ≡ length ins
    → ((k : ℕ) → get_or ins (i + k) (place 0 0) ≡ get_or cs k (place 0 0))
    → AllByRecursion (λ c. c.node < next) cs
    → IsEnough (enough m next p ins) (copies q f cs)
copies_enough m next p f ins i q [] h l a b = tt
copies_enough m next p f ins i q (c ∷ cs) h l a b =
    let here : get_or ins i (place 0 0) ≡ c =
    subst (λ (k : ℕ). get_or ins k (place 0 0) ≡ c) (let e : i + 0 ≡ i = omega arith in e) (a 0) in
    let one : enough m next p ins q ≡ 2 * m c.node =
    enough_copy m next p ins i q h (omega arith) ∙ ap (λ (d : Place). 2 * m d.node) here in
    let two : enough m next p ins c.node ≡ m c.node = enough_old m next p ins c.node b.0 in (
      omega arith,
      copies_enough m next p f ins (i + 1) (q + 1) cs (omega arith) (omega arith)
          (λ k. subst (λ (b : ℕ). get_or ins b (place 0 0) ≡ get_or cs k (place 0 0))
          (let e : i + suc k ≡ (i + 1) + k = omega arith in e) (a (suc k))) b.1,
    )

weigh_copies : (k : ℕ → ℕ) (q : ℕ) (f : Forest) (cs : List Place)
    → weigh k (copies q f cs) ≡ weights_at k (copied q 0 cs)
weigh_copies k q f [] = refl
weigh_copies k q f (c ∷ cs) = ap (λ (n : ℕ). k q + n) (weigh_copies k (q + 1) f cs)

pub copies_weigh : (m : ℕ → ℕ) (next p : ℕ) (f : Forest) (ins : List Place)
    → weigh (enough m next p ins) (copies next f ins) ≡ 2 * weights_at m ins
copies_weigh m next p f ins =
    weigh_copies (enough m next p ins) next f ins ∙ added_copied m next p ins 0

pub flattens_enough : (m : ℕ → ℕ) (next p q : ℕ) (ins : List Place) (j k : ℕ)
    → next + length ins ≤ q → 1 + 2 * weights_at m ins ≤ m p
    → IsEnough (enough m next p ins) (flattens q next ins j k)
flattens_enough m next p q ins j zero h l = tt
flattens_enough m next p q ins j (suc k) h l = (
  (let a = added_copied m next p ins (suc j) in
      let b = enough_flatten m next p ins q h in omega arith),
  flattens_enough m next p (q + 1) ins (suc j) k (omega arith) l,
)
