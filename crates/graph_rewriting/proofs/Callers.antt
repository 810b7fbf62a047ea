-- The only Pdo that reads a group, and the mark that this leads to.
use Rattle.std.proofs.Common.{◌≡◌, ℕ, ◌+◌, ◌<◌, ◌≤◌, Bool, true, false, cond, eqb, List, [], ◌∷◌, ◌++◌, drop, length, get_or, Option, Some, None, refl, sym, ap, ◌∙◌}
use Rattle.std.proofs.lemmas.Bool.{false≢true}
use Rattle.std.proofs.lemmas.List.{drop_all, drop_more}
use Rattle.combine_table.specs.declared.comb.Comb.{Comb}
use Rattle.exec_graph.specs.Meaning.{node_at}
use Rattle.exec_graph.specs.Readers.{those}
use Rattle.exec_graph.specs.declared.graph.Entry.{Entry}
use Rattle.exec_graph.specs.declared.graph.Graph.{Graph}
use Rattle.exec_graph.specs.declared.graph.Node.{Node}
use Rattle.exec_graph.specs.declared.graph.Node.TheVariants.{Source, Flatten, Pdo, Gbk, Barrier}
use Rattle.exec_graph.proofs.Entries.{entry}
use Rattle.graph_laws.specs.Lifting.{CanLift, lift_of, lifted_at, marked, marked_entry, remarked}
use Rattle.graph_rewriting.specs.inner.Tests.{found_list, is_gbk, only}

-- ---- readers one after another

module _ (t : Node → Bool) (es : List Entry) (i : ℕ) (e : Entry) (lt : i < length es)
    (is : e ≡ get_or es i e) where
  here : those t (drop i es) ≡ cond (t e.node) (e.number ∷ those t (drop (i + 1) es))
      (those t (drop (i + 1) es))
  here =
      ap (λ (l : List Entry). those t l)
      (drop_more es i e lt ∙ ap (λ (d : Entry). d ∷ drop (i + 1) es) (sym is))

  calls_first : t e.node ≡ true
      → those t (drop i es) ≡ e.number ∷ those t (drop (i + 1) es)
  calls_first call =
      here ∙ ap (λ (b : Bool). cond b (e.number ∷ those t (drop (i + 1) es))
      (those t (drop (i + 1) es))) call

  pub calls_here : (all : List ℕ) → t e.node ≡ true → those t (drop i es) ≡ all
      → e.number ∷ those t (drop (i + 1) es) ≡ all
  calls_here all call so_far = sym (calls_first call) ∙ so_far

pub found_only : (t : Node → Bool) (es : List Entry) (i : ℕ) (found : Option ℕ) (all : List ℕ)
    → length es ≤ i → found_list found ++ those t (drop i es) ≡ all → found ≡ only all
found_only t es i found all past so_far =
    by found (ap (λ (l : List Entry). found_list found ++ those t l) (sym (drop_all i es past))
    ∙ so_far)
  where
    by : (o : Option ℕ) → found_list o ++ [] ≡ all → o ≡ only all
    by None h = ap only h
    by (Some m) h = ap only h

-- ---- marks

marked_stay : (x : Node) → marked (λ k. k) x ≡ x
marked_stay (Source r) = refl
marked_stay (Flatten ins) = refl
marked_stay (Pdo c f) = refl
marked_stay (Gbk c o l k) = refl
marked_stay (Barrier ins o l a) = refl

pub marked_here : (comb : Comb) (e : Entry) (n : ℕ) → eqb e.number n ≡ true
    → entry e.number (marked (λ k. Some comb) e.node)
    ≡ marked_entry (λ m k. cond (eqb m n) (Some comb) k) e
marked_here comb e n i =
    ap (λ (b : Bool). entry e.number (marked (λ k. cond b (Some comb) k) e.node)) (sym i)

pub marked_other : (comb : Comb) (e : Entry) (n : ℕ) → eqb e.number n ≡ false
    → e ≡ marked_entry (λ m k. cond (eqb m n) (Some comb) k) e
marked_other comb e n i =
    ap (λ (x : Node). entry e.number x) (sym (marked_stay e.node))
    ∙ ap (λ (b : Bool). entry e.number (marked (λ k. cond b (Some comb) k) e.node)) (sym i)

-- the mark by the combiner, where that is what the group may be lifted with
pub lifted_is : (g : Graph) (n : ℕ) (comb : Comb) → lift_of g n ≡ Some comb
    → remarked (λ m k. cond (eqb m n) (Some comb) k) g ≡ lifted_at n g
lifted_is g n comb e =
    ap (λ (o : Option Comb). remarked (λ m k. cond (eqb m n) o k) g) (sym e)

-- ---- groups

-- a node that is a group can be lifted, where it has a combiner for that
gbk_can_lift : (g : Graph) (n : ℕ) (comb : Comb) (o : Option Node) → node_at g.nodes n ≡ o
    → is_gbk o ≡ true → lift_of g n ≡ Some comb → CanLift g n
gbk_can_lift g n comb (Some (Gbk c o l k)) is h e =
    record { input = c; origin = o; last = l; mark = k; gbk = is; comb = comb; may = e }
gbk_can_lift g n comb _ is h e = absurd (false≢true h)

pub can_lift : (g : Graph) (n : ℕ) (comb : Comb) → is_gbk (node_at g.nodes n) ≡ true
    → lift_of g n ≡ Some comb → CanLift g n
can_lift g n comb = gbk_can_lift g n comb (node_at g.nodes n) refl

pub no_group : (g : Graph) (n : ℕ) → is_gbk (node_at g.nodes n) ≡ false → CanLift g n → ⊥
no_group g n h can = false≢true (sym h ∙ ap is_gbk can.gbk)

pub no_comb : (g : Graph) (n : ℕ) → lift_of g n ≡ None → CanLift g n → ⊥
no_comb g n h can =
    let e : lift_of g n ≡ None = h in
    let f : lift_of g n ≡ Some can.comb = can.may in
    cc
