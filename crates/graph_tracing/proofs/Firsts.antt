-- A sibling changes of no collection which Pdo reads it first.
use Rattle.std.proofs.Common.{◌≡◌, ◌<◌, ℕ, Bool, true, false, cond, eqb, List, [], ◌∷◌, Option, Some, None, refl, sym, ap, ap₂, ◌∙◌, arith}
use Rattle.std.proofs.lemmas.Bool.{eqb-true, false≢true}
use Rattle.exec_graph.specs.Forests.{Forest}
use Rattle.exec_graph.specs.Meaning.{node_at}
use Rattle.exec_graph.specs.Readers.{calls_on, same_place}
use Rattle.exec_graph.specs.Wellformed.{Ascends}
use Rattle.exec_graph.specs.declared.graph.Entry.{Entry}
use Rattle.exec_graph.specs.declared.graph.Node.{Node}
use Rattle.exec_graph.specs.declared.graph.Node.TheVariants.{Source, Flatten, Pdo, Gbk, Barrier}
use Rattle.exec_graph.specs.declared.graph.Place.{Place}
use Rattle.exec_graph.proofs.Entries.{all_found, entry}
use Rattle.graph_joins.specs.Present.{is_here, present}
use Rattle.graph_laws.specs.Joining.{set_node, without}
use Rattle.graph_rewrites.specs.Rewrites.{input_of}
use Rattle.pardo_fuse.specs.Readers.{is_pdo}
use Rattle.graph_tracing.specs.inner.Callers.{below, first_caller, keeper_by}

-- what the Pdo reads is another one
first_other : (d c : Place) (es : List Entry) (q : ℕ) (g : Forest)
    → node_at es q ≡ Some (Pdo c g) → same_place d c ≡ false
    → first_caller d (without es q) ≡ first_caller d es
first_other d c [] q g at off = refl
first_other d c (e ∷ es) q g at off = by (eqb e.number q) at (first_other d c es q g)
  where
    by : (b : Bool) → cond b (Some e.node) (node_at es q) ≡ Some (Pdo c g)
        → (node_at es q ≡ Some (Pdo c g) → same_place d c ≡ false
        → first_caller d (without es q) ≡ first_caller d es)
        → first_caller d (cond b es (e ∷ without es q))
        ≡ cond (calls_on d e.node) (Some e.number) (first_caller d es)
    by true h f =
        let same : e.node ≡ Pdo c g = cc in
        sym (ap (λ (x : Node). cond (calls_on d x) (Some e.number) (first_caller d es)) same
        ∙ ap (λ (b : Bool). cond b (Some e.number) (first_caller d es)) off)
    by false h f =
        ap (λ (o : Option ℕ). cond (calls_on d e.node) (Some e.number) o) (f h off)

pub first_taken : (d c : Place) (es : List Entry) (p q : ℕ) (f g new : Forest) → Ascends es
    → p < q → node_at es p ≡ Some (Pdo c f) → node_at es q ≡ Some (Pdo c g)
    → first_caller d (set_node (without es q) p (Pdo c new)) ≡ first_caller d es
first_taken d c [] p q f g new a lt at bt = let bad : ⊥ = cc in absurd bad
first_taken d c (e ∷ es) p q f g new a lt at bt =
    by (eqb e.number p) (eqb e.number q) refl refl at bt
    (first_taken d c es p q f g new a.1 lt)
  where
    x : Node
    x = Pdo c new

    here : (b : Bool) → same_place d c ≡ b → node_at es q ≡ Some (Pdo c g)
        → cond b (Some p) (first_caller d (without es q)) ≡ cond b (Some p) (first_caller d es)
    here true i h = refl
    here false i h = first_other d c es q g h i

    by : (u v : Bool) → eqb e.number p ≡ u → eqb e.number q ≡ v
        → cond u (Some e.node) (node_at es p) ≡ Some (Pdo c f)
        → cond v (Some e.node) (node_at es q) ≡ Some (Pdo c g)
        → (node_at es p ≡ Some (Pdo c f) → node_at es q ≡ Some (Pdo c g)
        → first_caller d (set_node (without es q) p x) ≡ first_caller d es)
        → first_caller d (set_node (cond v es (e ∷ without es q)) p x)
        ≡ cond (calls_on d e.node) (Some e.number) (first_caller d es)
    by true true i k h m r =
        let n : e.number ≡ p = eqb-true e.number p i in
        let o : e.number ≡ q = eqb-true e.number q k in
        let bad : ⊥ = omega arith in absurd bad
    by false true i k h m r =
        let o : e.number ≡ q = eqb-true e.number q k in
        let far : e.number < p = all_found (λ (y : Entry). e.number < y.number) es p
        (Pdo c f) h a.0 in
        let bad : ⊥ = omega arith in absurd bad
    by true false i k h m r =
        let n : e.number ≡ p = eqb-true e.number p i in
        let same : e.node ≡ Pdo c f = cc in
        ap (λ (b : Bool). first_caller d (cond b (entry p x ∷ without es q)
        (e ∷ set_node (without es q) p x))) i
        ∙ here (same_place d c) refl m
        ∙ sym (ap₂ (λ (y : Node) (j : ℕ). cond (calls_on d y) (Some j) (first_caller d es)) same n)
    by false false i k h m r =
        ap (λ (b : Bool). first_caller d (cond b (entry p x ∷ without es q)
        (e ∷ set_node (without es q) p x))) i
        ∙ ap (λ (o : Option ℕ). cond (calls_on d e.node) (Some e.number) o) (r h m)

-- ---- nodes that are taken out read nothing

gone_calls : (d : Place) (x : Node) → is_here x ≡ false → calls_on d x ≡ false
gone_calls d (Source r) h = absurd (false≢true (sym h))
gone_calls d (Flatten ins) h = refl
gone_calls d (Pdo c f) h = absurd (false≢true (sym h))
gone_calls d (Gbk c o l k) h = absurd (false≢true (sym h))
gone_calls d (Barrier ins o l a) h = absurd (false≢true (sym h))

pub first_present : (d : Place) (es : List Entry) → first_caller d (present es) ≡ first_caller d es
first_present d [] = refl
first_present d (e ∷ es) = by (is_here e.node) refl (first_present d es)
  where
    by : (b : Bool) → is_here e.node ≡ b → first_caller d (present es) ≡ first_caller d es
        → first_caller d (cond b (e ∷ present es) (present es))
        ≡ cond (calls_on d e.node) (Some e.number) (first_caller d es)
    by true h i = ap (λ (o : Option ℕ). cond (calls_on d e.node) (Some e.number) o) i
    by false h i =
        i ∙ sym (ap (λ (b : Bool). cond b (Some e.number) (first_caller d es))
        (gone_calls d e.node h))

-- ---- the first Pdo that reads what a Pdo reads

pub keeper_pdo : (es : List Entry) (q : ℕ) (o : Option Node) → is_pdo o ≡ true
    → keeper_by es q o ≡ below q (first_caller (input_of o) es)
keeper_pdo es q None h = absurd (false≢true h)
keeper_pdo es q (Some (Source r)) h = absurd (false≢true h)
keeper_pdo es q (Some (Flatten ins)) h = absurd (false≢true h)
keeper_pdo es q (Some (Pdo c f)) h = refl
keeper_pdo es q (Some (Gbk c o l k)) h = absurd (false≢true h)
keeper_pdo es q (Some (Barrier ins o l a)) h = absurd (false≢true h)

pub keeper_other : (es : List Entry) (q : ℕ) (o : Option Node) → is_pdo o ≡ false
    → keeper_by es q o ≡ None
keeper_other es q None h = refl
keeper_other es q (Some (Source r)) h = refl
keeper_other es q (Some (Flatten ins)) h = refl
keeper_other es q (Some (Pdo c f)) h = absurd (false≢true (sym h))
keeper_other es q (Some (Gbk c o l k)) h = refl
keeper_other es q (Some (Barrier ins o l a)) h = refl
