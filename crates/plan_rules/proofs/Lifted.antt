-- A lifted Gbk that has a reducer is reduced by a step of its combiner, which is its one reader.
use Rattle.std.proofs.Common.{◌≡◌, ℕ, Bool, true, false, cond, eqb, List, [], ◌∷◌, Option, Some, None, refl, sym, ap, ◌∙◌, subst, inl, inr}
use Rattle.std.proofs.lemmas.Bool.{eqb-true}
use Rattle.std.specs.List.{AllByRecursion}
use Rattle.combine_table.specs.declared.comb.Comb.{Comb}
use Rattle.graph_laws.specs.of_exec_graph.Meaning.{node_at, place}
use Rattle.graph_laws.specs.of_exec_graph.Readers.{calls_on, readers, those}
use Rattle.graph_laws.specs.of_exec_graph.Wellformed.{IsGraphOk, IsNodeOk, comb_at, is_lifted}
use Rattle.graph_laws.specs.of_exec_graph.declared.graph.Place.{Place}
use Rattle.graph_laws.specs.of_exec_graph.declared.graph.Node.{Node}
use Rattle.graph_laws.specs.of_exec_graph.declared.graph.Node.TheVariants.{Source, Flatten, Pdo, Gbk, Barrier}
use Rattle.graph_laws.specs.of_exec_graph.declared.graph.Entry.{Entry}
use Rattle.graph_laws.specs.of_exec_graph.declared.graph.Graph.{Graph}
use Rattle.graph_laws.proofs.of_exec_graph.Entries.{all_found}
use Rattle.plan_making.specs.of_exec_plan.Wellformed.{IsLiftOk}
use Rattle.plan_laws.specs.declared.operations.Key.{Key}
use Rattle.plan_laws.specs.declared.operations.Grouped.{Grouped}
use Rattle.plan_laws.specs.Operations.{IsGroupedOk, IsReducer, IsPdoOn, forest_in, reducer_forest, IsIn}
use Rattle.plan_rules.specs.Fitting.{HasReducer, IsReduced}
use Rattle.plan_rules.proofs.Staging.{AreLifted, IsLifted}
use Rattle.plan_laws.proofs.Running.{same_self}

those_by : (t : Node → Bool) (e : Entry) (es : List Entry) (r : ℕ) (x : Node) (b : Bool)
    → eqb e.number r ≡ b → cond b (Some e.node) (node_at es r) ≡ Some x → t x ≡ true
    → (node_at es r ≡ Some x → IsIn r (those t es)) → IsIn r (those t (e ∷ es))
those_by t e es r x true i h p f =
    let s : e.node ≡ x = cc in
    subst (λ (b : Bool). IsIn r (cond b (e.number ∷ those t es) (those t es)))
    (sym (ap t s ∙ p)) (inl (eqb-true e.number r i))
those_by t e es r x false i h p f =
    elim (t e.node) as (λ b. IsIn r (cond b (e.number ∷ those t es) (those t es)))
    [ true ↦ inr (f h) | false ↦ f h ]

-- a node that passes the test is among those that do
those_has : (t : Node → Bool) (es : List Entry) (r : ℕ) (x : Node) → node_at es r ≡ Some x
    → t x ≡ true → IsIn r (those t es)
those_has t [] r x h p = let bad : ⊥ = cc in absurd bad
those_has t (e ∷ es) r x h p =
    those_by t e es r x (eqb e.number r) refl h p (λ i. those_has t es r x i p)

one_reader : (n r : ℕ) (ns : List ℕ) → ns ≡ n ∷ [] → IsIn r ns → n ≡ r
one_reader n r ns e h =
    elim (subst (λ (l : List ℕ). IsIn r l) e h) [ inl i ↦ i | inr i ↦ absurd i ]

forest_lifted : (es : List Entry) (c : Place) (n r : ℕ) (k : Comb) (o : Option Node)
    → node_at es r ≡ o → IsPdoOn c o → readers es c ≡ n ∷ []
    → comb_at (node_at es n) ≡ Some k → IsLiftOk (Some k) (forest_in o)
forest_lifted es c n r k None h i a q = absurd i
forest_lifted es c n r k (Some (Source s)) h i a q = absurd i
forest_lifted es c n r k (Some (Flatten ins)) h i a q = absurd i
forest_lifted es c n r k (Some (Gbk d x l m)) h i a q = absurd i
forest_lifted es c n r k (Some (Barrier ins x y d)) h i a q = absurd i
forest_lifted es c n r k (Some (Pdo d f)) h i a q =
    let same : n ≡ r = one_reader n r (readers es c) a
    (those_has (calls_on c) es r (Pdo d f) h (same_self c d (sym i))) in
    sym (ap comb_at h) ∙ ap (λ (j : ℕ). comb_at (node_at es j)) (sym same) ∙ q

reducer_lifted : (g : Graph) (n : ℕ) (r : Option ℕ) (k : Comb) (c : Place) (o : ℕ) (l : Bool)
    → IsNodeOk g n (Gbk c o l (Some k)) → IsReducer g.nodes n r → HasReducer true r
    → IsLiftOk (Some k) (reducer_forest g.nodes r)
reducer_lifted g n None k c o l h i s = absurd s
reducer_lifted g n (Some r) k c o l h i s =
    forest_lifted g.nodes (place n 0) h.reader r k (node_at g.nodes r) refl i h.alone h.root

gbk_lifted : (g : Graph) (n : ℕ) (r : Option ℕ) (o : Option Node) → IsGraphOk g
    → node_at g.nodes n ≡ o → IsReducer g.nodes n r → HasReducer (is_lifted o) r
    → IsLifted g.nodes o r
gbk_lifted g n r None ok h i s = tt
gbk_lifted g n r (Some (Source m)) ok h i s = tt
gbk_lifted g n r (Some (Flatten ins)) ok h i s = tt
gbk_lifted g n r (Some (Pdo c f)) ok h i s = tt
gbk_lifted g n r (Some (Gbk c o l None)) ok h i s = tt
gbk_lifted g n r (Some (Gbk c o l (Some k))) ok h i s =
    reducer_lifted g n r k c o l
    (all_found (λ e. IsNodeOk g e.number e.node) g.nodes n (Gbk c o l (Some k)) h ok.nodes) i s
gbk_lifted g n r (Some (Barrier ins o l a)) ok h i s = tt

pub all_lifted : (g : Graph) (keys : List Key) (gs : List Grouped) → IsGraphOk g
    → AllByRecursion (IsGroupedOk g.nodes keys) gs → AllByRecursion (IsReduced g.nodes) gs
    → AreLifted g.nodes gs
all_lifted g keys [] ok a s = tt
all_lifted g keys (x ∷ xs) ok a s = (
  gbk_lifted g x.gbk x.reducer (node_at g.nodes x.gbk) ok refl a.0.1 s.0,
  all_lifted g keys xs ok a.1 s.1,
)
