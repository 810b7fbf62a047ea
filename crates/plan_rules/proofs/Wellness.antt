-- A plan of operations that carry out a graph and that fit is well-formed, and can be numbered.
use Rattle.std.proofs.Common.{◌≡◌, ℕ, ◌<◌, ◌≤◌, ◌^◌, List, [], ◌∷◌, Some, length, arith}
use Rattle.std.specs.List.{AllByRecursion, flat_map}
use Rattle.flume_value.proofs.EachLemmas.{Each-weaker}
use Rattle.graph_laws.specs.of_exec_graph.Meaning.{node_at}
use Rattle.graph_laws.specs.of_exec_graph.Wellformed.{IsGraphOk, IsNodeOk, most_nodes, total_size}
use Rattle.graph_laws.specs.of_exec_graph.declared.graph.Node.{Node}
use Rattle.graph_laws.specs.of_exec_graph.declared.graph.Node.TheVariants.{Source, Flatten, Pdo, Gbk, Barrier}
use Rattle.graph_laws.specs.of_exec_graph.declared.graph.Entry.{Entry}
use Rattle.graph_laws.specs.of_exec_graph.declared.graph.Graph.{Graph}
use Rattle.graph_laws.proofs.of_exec_graph.Solving.{each_found}
use Rattle.graph_laws.proofs.of_exec_graph.Soundness.{differ_ascends}
use Rattle.plan_making.specs.of_exec_plan.Wellformed.{IsPlanOk}
use Rattle.plan_laws.specs.declared.operations.Operation.{Operation}
use Rattle.plan_laws.specs.declared.operations.Operation.TheVariants.{Flat, Class}
use Rattle.plan_laws.specs.Operations.{DoAll, IsHonest, gives_of, plan_of, runs}
use Rattle.plan_making.specs.Small.{IsNarrowOperation, IsSmall}
use Rattle.plan_rules.specs.Fitting.{AreFit, FitsEntries, IsInBounds}
use Rattle.plan_rules.proofs.Apart.{IsApart, operations_apart}
use Rattle.plan_rules.proofs.Beside.{ascending_differ}
use Rattle.plan_rules.proofs.Collections.{collections, few_collections}
use Rattle.plan_rules.proofs.Lifted.{all_lifted}
use Rattle.plan_rules.proofs.Limits.{class_bounded}
use Rattle.plan_rules.proofs.Members.{Differ, shorter}
use Rattle.plan_rules.proofs.Places.{nodes_short, numbers}
use Rattle.plan_rules.proofs.Planning.{plan_kept}
use Rattle.plan_rules.proofs.PlanObjects.{PassesCollections, passes_fit}
use Rattle.plan_rules.proofs.Runs.{each_differ, operations_short, runs_differ, runs_stand}
use Rattle.plan_rules.proofs.Staging.{IsShort}
use Rattle.plan_rules.proofs.Taking.{AreNumbered, IsNodeNumbered}
use Rattle.plan_rules.proofs.Widths.{class_widths, length_map}

node_numbered : (g : Graph) (n : ℕ) (x : Node) → IsNodeOk g n x → IsNodeNumbered x
node_numbered g n (Source r) h = tt
node_numbered g n (Flatten ins) h = tt
node_numbered g n (Pdo c f) h = h.order
node_numbered g n (Gbk c o l k) h = tt
node_numbered g n (Barrier ins o l a) h = tt

pub nodes_numbered : (g : Graph) → IsGraphOk g → AreNumbered g.nodes
nodes_numbered g ok =
    Each-weaker (λ (e : Entry). IsNodeOk g e.number e.node) (λ e. IsNodeNumbered e.node)
    (λ e h. node_numbered g e.number e.node h) g.nodes ok.nodes

abbrev pub Founds : List Entry → Type 0
Founds es = AllByRecursion (λ e. node_at es e.number ≡ Some e.node) es

pub founds : (g : Graph) → IsGraphOk g → Founds g.nodes
founds g ok = each_found g.nodes (differ_ascends g.nodes ok.founded.ascends)

-- what is shown of each operation
pub record IsGood (es : List Entry) (o : Operation) : Type 0 where
  pub short : IsShort es o
  pub narrow : IsNarrowOperation es o
  pub results : length (gives_of es o) < 2 ^ 32

one_good : (g : Graph) (o : Operation) → IsGraphOk g → length (collections g.nodes) ≤ 131072
    → IsHonest g.nodes o → FitsEntries g.nodes o → Differ (runs o) → IsApart o → IsGood g.nodes o
one_good g (Flat n) ok m h t d a = record { short = tt; narrow = tt; results = omega arith }
one_good g (Class keys gs cs) ok m h t d a =
    let b = class_bounded g.nodes keys gs cs (founds g ok)
    (ascending_differ g.nodes ok.founded.ascends) m h t d a in
    let i : length keys ≤ 131072 = b.inputs in
    let r : length (gives_of g.nodes (Class keys gs cs)) ≤ 131072 = b.results in
    let w = class_widths g.nodes keys gs cs h.1 in
    record {
      short = record {
        some = t.some;
        inputs = i;
        outputs = b.outputs;
        lifted = all_lifted g keys gs ok h.1 t.reduced;
      };
      narrow = record { channels = omega arith; outputs = omega arith };
      results = omega arith;
    }

all_good : (g : Graph) (os : List Operation) → IsGraphOk g
    → length (collections g.nodes) ≤ 131072 → AllByRecursion (IsHonest g.nodes) os
    → AllByRecursion (FitsEntries g.nodes) os → AllByRecursion (λ o. Differ (runs o)) os
    → AllByRecursion IsApart os → AllByRecursion (IsGood g.nodes) os
all_good g [] ok m h t d a = tt
all_good g (o ∷ os) ok m h t d a =
    (one_good g o ok m h.0 t.0 d.0 a.0, all_good g os ok m h.1 t.1 d.1 a.1)

operations_good : (n : ℕ) (g : Graph) (os : List Operation) → IsGraphOk g → IsInBounds n g
    → DoAll g os → AreFit g.nodes os → AllByRecursion (IsGood g.nodes) os
operations_good n g os ok b d f =
    let m = few_collections g.nodes b.narrow in
    let t : total_size g.nodes ≤ most_nodes = ok.few in
    let r = runs_differ g os d f in
    all_good g os ok (omega arith) d.sound f.fit (each_differ os r)
    (operations_apart g.nodes os (founds g ok) d.sound d.ready r)

-- fewer operations than numbers of nodes
operations_few : (n : ℕ) (g : Graph) (os : List Operation) → IsGraphOk g → IsInBounds n g
    → DoAll g os → AreFit g.nodes os → length os < 2 ^ 32
operations_few n g os ok b d f =
    let a = operations_short g.nodes os f.fit in
    let s = shorter (flat_map runs os) (numbers g.nodes) (runs_differ g os d f)
    (runs_stand g.nodes os d.sound) in
    let m = length_map (λ (e : Entry). e.number) g.nodes in
    let k = nodes_short g.nodes g.next ok.founded.ascends ok.founded.below in
    let x : g.next < 2 ^ 32 = b.numbers in
    omega arith

pub plan_well_formed : (n : ℕ) (g : Graph) (os : List Operation) → IsGraphOk g → IsInBounds n g
    → DoAll g os → AreFit g.nodes os → IsPlanOk (plan_of n g.nodes g.outputs os)
plan_well_formed n g os ok b d f =
    plan_kept n g os d (nodes_numbered g ok) (founds g ok) b.below
    (Each-weaker (IsGood g.nodes) (IsShort g.nodes) (λ o h. h.short) os
    (operations_good n g os ok b d f))
    (operations_few n g os ok b d f) b.agree ok.objects
    (Each-weaker (FitsEntries g.nodes) (PassesCollections g.nodes) (passes_fit g.nodes) os f.fit)

pub operations_small : (n : ℕ) (g : Graph) (os : List Operation) → IsGraphOk g → IsInBounds n g
    → DoAll g os → AreFit g.nodes os → IsSmall g.nodes os
operations_small n g os ok b d f =
    let h = operations_good n g os ok b d f in
    record {
      stages = operations_few n g os ok b d f;
      narrow = Each-weaker (IsGood g.nodes) (IsNarrowOperation g.nodes) (λ o q. q.narrow) os h;
      results = Each-weaker (IsGood g.nodes) (λ o. length (gives_of g.nodes o) < 2 ^ 32)
          (λ o q. q.results) os h;
    }
