-- A plan of operations that carry out a graph means what the graph means.
use Rattle.std.proofs.Common.{◌≡◌, ℕ, ◌+◌, List, [], ◌∷◌, length, Option, Some, sym, ap, ◌∙◌, inl, inr}
use Rattle.std.specs.List.{flat_map, AllByRecursion as Each}
use Rattle.exec_plan.specs.of_flume_value.Bag.{bag_of}
use Rattle.exec_plan.proofs.of_flume_value.EachLemmas.{Each-weaker}
use Rattle.exec_plan.specs.of_flume_collection.Traps.{trap_set}
use Rattle.exec_plan.specs.of_exec_graph.Meaning.{Holds, IsSound, IsThere, Meets, collection, node_at, reads}
use Rattle.exec_plan.proofs.of_exec_graph.Solving.{collection_meets, each_found}
use Rattle.exec_plan.specs.declared.plan.PlanPlace.{PlanPlace}
use Rattle.exec_plan.specs.declared.plan.PlanPlace.TheVariants as at
use Rattle.exec_plan.specs.Meaning.{Parts, own_parts, stages_run, sources, stage_sum, trap_parts}
use Rattle.plan_laws.specs.declared.operations.Operation.{Operation}
use Rattle.plan_laws.specs.Operations.{DoAll, IsHonest, IsIn, SamePlan, at_source, made_after, places_of, plan_of, runs, source_at, source_place, source_places, stages_of}
use Rattle.plan_laws.proofs.Running.{Carries, Tells, TellsAll, all_in, in_append, run_sums, run_tells, values_named}
use Rattle.plan_laws.proofs.Carrying.{IsPlain, sound_carries}
use Rattle.plan_laws.proofs.Adding.{operations_sum, sum_at}
use Rattle.plan_laws.proofs.Counting.{own_same}
use Rattle.plan_laws.proofs.Trapping.{traps_same}
use Rattle.plan_laws.proofs.Plainness.{collection_plain}
use Rattle.exec_plan.specs.of_flume_collection.Collection.{Collection}
use Rattle.exec_plan.specs.of_exec_graph.World.{World}
use Rattle.exec_plan.specs.of_exec_graph.declared.graph.Place.{Place}
use Rattle.exec_plan.specs.of_exec_graph.declared.graph.Node.{Node}
use Rattle.exec_plan.specs.of_exec_graph.declared.graph.Node.TheVariants.{Source, Flatten, Pdo, Gbk, Barrier}
use Rattle.exec_plan.specs.of_exec_graph.declared.graph.Entry.{Entry}
use Rattle.exec_plan.specs.of_exec_graph.declared.graph.Graph.{Graph}

-- ---- sources
source_tells : (w : World) (m : Place → Collection) (all : List Entry) (n : ℕ) (x : Node)
    (c : Place) → node_at all n ≡ Some x → Holds w m n x → IsIn c (source_place n x)
    → Tells m (sources w) (at_source all) 1 c
source_tells w m all n (Source r) c e h (inl i) =
    let found : node_at all c.node ≡ Some (Source r) =
    ap (λ (d : Place). node_at all d.node) (sym i) ∙ e in record {
      same = ap (λ (o : Option Node). sources w (at.Source (source_at o))) found ∙ sym h ∙ ap m i;
      below = tt;
    }
source_tells w m all n (Source r) c e h (inr i) = absurd i
source_tells w m all n (Flatten ins) c e h i = absurd i
source_tells w m all n (Pdo d f) c e h i = absurd i
source_tells w m all n (Gbk d o l k) c e h i = absurd i
source_tells w m all n (Barrier ins o l a) c e h i = absurd i

sources_tell : (w : World) (m : Place → Collection) (all es : List Entry)
    → Each (λ e. node_at all e.number ≡ Some e.node) es → Meets w es m → TellsAll m (sources w)
    (at_source all) 1 (source_places es)
sources_tell w m all [] a h c i = absurd i
sources_tell w m all (e ∷ es) a h c i =
    elim (in_append c (source_place e.number e.node) (source_places es) i) [
      | inl j ↦ source_tells w m all e.number e.node c a.0 h.0 j
      | inr j ↦ sources_tell w m all es a.1 h.1 c j
    ]

-- ---- each collection
all_carry : (w : World) (m : Place → Collection) (es : List Entry) (os : List Operation) → IsPlain m
    → Meets w es m → Each (λ e. Each (IsThere es) (reads e.node)) es → Each (IsHonest es) os
    → Each (Carries w m es) os
all_carry w m es os p a t h = Each-weaker (IsHonest es) (Carries w m es) (λ o i. sound_carries w m
    es o p a t i) os h

plan_tells : (w : World) (m : Place → Collection) (g : Graph) (os : List Operation) → IsSound g
    → IsPlain m → Meets w g.nodes m → DoAll g os → TellsAll m
    (stages_run w 1 (stages_of g.nodes 1 (at_source g.nodes) os) (sources w))
    (places_of g.nodes 1 (at_source g.nodes) os) (1 + length os)
    (made_after g.nodes (source_places g.nodes) os)
plan_tells w m g os ok p a d =
    run_tells w g.nodes m (sources w) (at_source g.nodes) 1 (source_places g.nodes) os
    (sources_tell w m g.nodes g.nodes (each_found g.nodes ok.differ) a) (all_carry w m g.nodes os p
    a ok.there d.sound) d.ready

-- ---- what the stages add up to
plan_sums : {Y : Type 0} (w : World) (s : Parts Y) (m : Place → Collection) (g : Graph)
    (os : List Operation) → IsSound g → IsPlain m → Meets w g.nodes m → DoAll g os
    → flat_map (stage_sum w s (stages_run w 1 (stages_of g.nodes 1 (at_source g.nodes) os)
    (sources w)))
    (stages_of g.nodes 1 (at_source g.nodes) os) ≡ flat_map (λ n. sum_at w s m (node_at g.nodes n))
    (flat_map runs os)
plan_sums w s m g os ok p a d =
    run_sums w g.nodes s m (sources w) (at_source g.nodes) 1 (source_places g.nodes) os
    (sources_tell w m g.nodes g.nodes (each_found g.nodes ok.differ) a) (all_carry w m g.nodes os p
    a ok.there d.sound) d.ready
    ∙ operations_sum w s m g.nodes os p a ok.there d.sound

-- ---- the law
-- operations that do all of a graph make a plan that means what the graph means
pub plan_means : (w : World) (n : ℕ) (g : Graph) (os : List Operation) → IsSound g → DoAll g os
    → SamePlan w g (plan_of n g.nodes g.outputs os)
plan_means w n g os ok d =
    let m : Place → Collection = collection w g in
    let p : IsPlain m = collection_plain w g in
    let a : Meets w g.nodes m = collection_meets w g ok in
    let tell = plan_tells w m g os ok p a d in
    let f : Place → PlanPlace = places_of g.nodes 1 (at_source g.nodes) os in
    let t : PlanPlace → Collection =
    stages_run w 1 (stages_of g.nodes 1 (at_source g.nodes) os) (sources w) in
    record {
      outputs = sym (values_named m t f g.outputs (all_in (λ c. t (f c) ≡ m c)
          (made_after g.nodes (source_places g.nodes) os) (λ c i. (tell c i).same) g.outputs
          d.told));
      own = λ i. own_same w m g os i ok d
          ∙ sym (ap bag_of (plan_sums w (own_parts w i) m g os ok p a d));
      traps = traps_same w m g os ok a d
          ∙ sym (ap trap_set (plan_sums w (trap_parts w) m g os ok p a d));
    }
