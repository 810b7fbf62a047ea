-- What is told of the names that Pdos keep, once one took another in.
use Rattle.std.proofs.Common.{◌≡◌, ℕ, ◌+◌, suc, Bool, true, false, cond, eqb, ltb, ◌||◌, List, [], ◌∷◌, ◌++◌, take, drop, length, Option, Some, None, refl, sym, ap, ap₂, ◌∙◌, arith}
use Rattle.std.proofs.lemmas.Bool.{eqb-false, eqb-true, false≢true}
use Rattle.exec_graph.specs.Forests.{Forest}
use Rattle.exec_graph.specs.Meaning.{has_out, node_at}
use Rattle.exec_graph.specs.declared.graph.Entry.{Entry}
use Rattle.exec_graph.specs.declared.graph.Node.{Node}
use Rattle.exec_graph.specs.declared.graph.Node.TheVariants.{Pdo}
use Rattle.exec_graph.specs.declared.graph.Place.{Place}
use Rattle.flatten_sink.specs.of_sink_laws.Chain.{forest_of}
use Rattle.graph_laws.specs.Joining.{set_node, without}
use Rattle.graph_laws.specs.Kids.{number_after}
use Rattle.graph_laws.proofs.Changes.{node_at-without_other}
use Rattle.graph_laws.proofs.ObjectNodes.{node_without}
use Rattle.graph_laws.proofs.Wellness.{node_at-set_same}
use Rattle.graph_laws.proofs.Setting.{node_set}
use Rattle.graph_walks.specs.Outs.{outs, place_of}
use Rattle.graph_walks.proofs.Places.{holds, holds_outs, number_place}
use Rattle.graph_joins.specs.inner.Splices.{joined, known, spliced, spliced_at}

-- what is told is so
abbrev pub Tells : (ℕ → Option (List ℕ)) → List Entry → Type 0
Tells t es = (p : ℕ) (ns : List ℕ) → t p ≡ Some ns → ns ≡ outs (forest_of (node_at es p))

pub tells_taken : (t u : ℕ → Option (List ℕ)) (es : List Entry) (p q : ℕ) (c : Place)
    (f new : Forest) (o : Option (List ℕ)) → (p ≡ q → ⊥) → Tells t es
    → node_at es p ≡ Some (Pdo c f)
    → ((n : ℕ) → u n ≡ cond (eqb n p) o (cond (eqb n q) None (t n)))
    → ((ns : List ℕ) → o ≡ Some ns → ns ≡ outs new)
    → Tells u (set_node (without es q) p (Pdo c new))
tells_taken t u es p q c f new o differ tells at told is n ns e =
    by (eqb n p) (eqb n q) refl refl (sym (told n) ∙ e)
  where
    after : List Entry
    after = set_node (without es q) p (Pdo c new)

    by : (a b : Bool) → eqb n p ≡ a → eqb n q ≡ b → cond a o (cond b None (t n)) ≡ Some ns
        → ns ≡ outs (forest_of (node_at after n))
    by true b i j h =
        let same : p ≡ n = sym (eqb-true n p i) in
        is ns h
        ∙ ap (λ (x : Option Node). outs (forest_of x))
        (sym (node_at-set_same (without es q) p (Pdo c new) (Pdo c f)
        (node_at-without_other es q p (Pdo c f) differ at)))
        ∙ ap (λ (m : ℕ). outs (forest_of (node_at after m))) same
    by false true i j h = let bad : ⊥ = cc in absurd bad
    by false false i j h =
        tells n ns h
        ∙ ap (λ (x : Option Node). outs (forest_of x))
        (sym (node_set (without es q) p n (Pdo c new) (eqb-false n p i)
        ∙ node_without es q n (eqb-false n q j)))

pub tells_more : (t u : ℕ → Option (List ℕ)) (es : List Entry) (q : ℕ) (xs : List ℕ)
    → Tells t es → ((n : ℕ) → u n ≡ cond (eqb n q) (Some xs) (t n))
    → xs ≡ outs (forest_of (node_at es q)) → Tells u es
tells_more t u es q xs tells told is n ns e = by (eqb n q) refl (sym (told n) ∙ e)
  where
    by : (b : Bool) → eqb n q ≡ b → cond b (Some xs) (t n) ≡ Some ns
        → ns ≡ outs (forest_of (node_at es n))
    by true i h =
        let same : xs ≡ ns = cc in
        let here : q ≡ n = sym (eqb-true n q i) in
        sym same ∙ is ∙ ap (λ (m : ℕ). outs (forest_of (node_at es m))) here
    by false i h = tells n ns h

-- ---- lists in lists

spliced_place : (j : ℕ) (k : Bool) (ys xs : List ℕ) → holds xs j ≡ true
    → spliced j k ys xs ≡ spliced_at (place_of xs j) k ys xs
spliced_place j k ys [] h = absurd (false≢true h)
spliced_place j k ys (x ∷ xs) h = by (eqb x j) h (spliced_place j k ys xs)
  where
    first : (b : Bool) → cond b (x ∷ []) [] ++ (ys ++ xs) ≡ spliced_at 0 b ys (x ∷ xs)
    first true = refl
    first false = refl

    next : (b : Bool) (i : ℕ) → x ∷ spliced_at i b ys xs ≡ spliced_at (suc i) b ys (x ∷ xs)
    next true i =
        let e : suc (i + 1) ≡ suc i + 1 = omega arith in
        ap (λ (m : ℕ). take m (x ∷ xs) ++ (ys ++ drop m (x ∷ xs))) e
    next false i =
        let e : suc (i + 1) ≡ suc i + 1 = omega arith in
        ap (λ (m : ℕ). x ∷ (take i xs ++ (ys ++ drop m (x ∷ xs)))) e

    by : (b : Bool) → (b || holds xs j) ≡ true
        → (holds xs j ≡ true → spliced j k ys xs ≡ spliced_at (place_of xs j) k ys xs)
        → cond b (cond k (x ∷ []) [] ++ (ys ++ xs)) (x ∷ spliced j k ys xs)
        ≡ spliced_at (cond b 0 (suc (place_of xs j))) k ys (x ∷ xs)
    by true e f = first k
    by false e f = ap (λ (l : List ℕ). x ∷ l) (f e) ∙ next k (place_of xs j)

pub known_is : (bare : Bool) (i : ℕ) (k : Bool) (n : ℕ) (f g new : Forest)
    (a b : Option (List ℕ)) → ((xs : List ℕ) → a ≡ Some xs → xs ≡ outs f)
    → ((ys : List ℕ) → b ≡ Some ys → ys ≡ outs g)
    → (bare ≡ true → outs new ≡ spliced n k (outs g) (outs f))
    → has_out n f ≡ true → number_after 0 f n ≡ i
    → (ns : List ℕ) → known bare (joined i k a b) ≡ Some ns → ns ≡ outs new
known_is false i k n f g new a b xs ys is has at ns h = let bad : ⊥ = cc in absurd bad
known_is true i k n f g new None b xs ys is has at ns h = let bad : ⊥ = cc in absurd bad
known_is true i k n f g new (Some own) None xs ys is has at ns h =
    let bad : ⊥ = cc in absurd bad
known_is true i k n f g new (Some own) (Some more) xs ys is has at ns h =
    by (ltb i (length own)) h
  where
    place : place_of (outs f) n ≡ i
    place = let a = number_place 0 f n in omega arith

    all : spliced_at i k more own ≡ outs new
    all =
        ap₂ (λ (l m : List ℕ). spliced_at i k m l) (xs own refl) (ys more refl)
        ∙ ap (λ (m : ℕ). spliced_at m k (outs g) (outs f)) (sym place)
        ∙ sym (spliced_place n k (outs g) (outs f) (holds_outs f n ∙ has))
        ∙ sym (is refl)

    by : (b : Bool) → cond b (Some (spliced_at i k more own)) None ≡ Some ns → ns ≡ outs new
    by true e = let same : ns ≡ spliced_at i k more own = cc in same ∙ all
    by false e = let bad : ⊥ = cc in absurd bad
