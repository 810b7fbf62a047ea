-- A graph whose Pdos have one step of few outputs has forests of few outputs.
use Rattle.std.proofs.Common.{◌≡◌, ℕ, suc, ◌+◌, ◌≤◌, List, [], ◌∷◌, length, inr, refl, sym, ap, ◌∙◌, subst, arith, add-one}
use Rattle.std.specs.List.{AllByRecursion}
use Rattle.flume_value.proofs.EachLemmas.{Each-both}
use Rattle.exec_graph.specs.Forests.{Branch, Forest, Bare, Twig, twigs}
use Rattle.exec_graph.specs.declared.graph.Entry.{Entry}
use Rattle.exec_graph.specs.declared.graph.Graph.{Graph}
use Rattle.exec_graph.specs.declared.graph.Node.{Node}
use Rattle.exec_graph.specs.declared.graph.Node.TheVariants.{Source, Flatten, Pdo, Gbk, Barrier}
use Rattle.graph_laws.specs.Single.{HasNarrowSteps, HasSteps, IsOneStep, IsUnfused, most_outputs, width}
use Rattle.graph_rewrites.specs.Replays.{HasNarrowForests}
use Rattle.graph_rewrites.specs.of_plan_rules.Fitting.{HasFewOutputs, IsNarrow}

twigs_wide : (b : Branch) (n : ℕ) (ts : List Twig) → width (twigs b n ts Bare) ≡ length ts
twigs_wide b n [] = refl
twigs_wide b n (t ∷ ts) = ap suc (twigs_wide b (suc n) ts)

few_twigs : (b : Branch) (n : ℕ) (ts : List Twig) → n + length ts ≤ most_outputs
    → AllByRecursion (λ t. t.kids ≡ Bare) ts → HasFewOutputs n (twigs b n ts Bare)
few_twigs b n [] few bare = tt
few_twigs b n (t ∷ ts) few bare = (
  inr (refl, omega arith),
  subst (λ (f : Forest). HasFewOutputs 0 f) (sym bare.0) tt,
  subst (λ (m : ℕ). HasFewOutputs m (twigs b (suc n) ts Bare)) (sym (add-one n))
      (few_twigs b (suc n) ts (omega arith) bare.1),
)

step_few : (f : Forest) → IsOneStep f → width f ≤ most_outputs → HasFewOutputs 0 f
step_few f one few =
    let b : Branch = one.step in
    let all : List Twig = b.first ∷ b.more in
    let wide : width f ≡ length all = ap width one.alone ∙ twigs_wide b 0 all in
    subst (λ (h : Forest). HasFewOutputs 0 h) (sym one.alone)
    (few_twigs b 0 all (omega arith) (one.first, one.more))

node_few : (x : Node) → HasSteps IsOneStep x → HasSteps (λ f. width f ≤ most_outputs) x
    → IsNarrow x
node_few (Source r) a b = tt
node_few (Flatten ins) a b = tt
node_few (Pdo c f) a b = step_few f a b
node_few (Gbk c o l k) a b = tt
node_few (Barrier ins o l s) a b = tt

pub narrow_forests : (g : Graph) → IsUnfused g → HasNarrowSteps g → HasNarrowForests g
narrow_forests g a b =
    Each-both (λ (e : Entry). HasSteps IsOneStep e.node)
    (λ (e : Entry). HasSteps (λ f. width f ≤ most_outputs) e.node)
    (λ (e : Entry). IsNarrow e.node) (λ e p q. node_few e.node p q) g.nodes a b
