-- The groups that are lifted, one after another: a lift of each that is lifted at the end.
use Rattle.std.proofs.Common.{◌≡◌, ℕ, ◌≤◌, Bool, true, false, cond, ◌&&◌, List, [], ◌∷◌, Option, Some, None, is_some, map, refl, sym, ap, ◌∙◌, subst, arith}
use Rattle.std.specs.List.{AllByRecursion}
use Rattle.combine_table.specs.declared.comb.Comb.{Comb}
use Rattle.exec_graph.specs.Wellformed.{IsGraphOk, is_lifted}
use Rattle.exec_graph.specs.declared.graph.Node.{Node}
use Rattle.exec_graph.specs.declared.graph.Node.TheVariants.{Source, Flatten, Pdo, Gbk, Barrier}
use Rattle.exec_graph.specs.declared.graph.Entry.{Entry}
use Rattle.exec_graph.specs.declared.graph.Graph.{Graph}
use Rattle.fusion_blocks.specs.Blocks.{unmarked}
use Rattle.graph_laws.specs.Lifting.{LiftsLead, lift_of, lifted, lifted_at, marked, marked_entry}
use Rattle.graph_laws.proofs.LiftChain.{all_lead, all_lifts, is_group, may_lift}
use Rattle.graph_rewrites.specs.Replays.{Leads, rewrite_group}
use Rattle.graph_rewrites.specs.declared.rewrite.Rewrite.{Rewrite}
use Rattle.graph_rewrites.specs.declared.rewrite.Rewrite.TheVariants.{Lift}
use Rattle.graph_tracing.specs.Traces.{IsTrace}
use Rattle.plan_tracing.specs.Lists.{lifts_in}

abbrev lift_all : List ℕ → List Rewrite
lift_all ns = map (λ (n : ℕ). Lift n) ns

is_lift : (x : Node) (o : Option Comb)
    → is_lifted (Some (marked (λ k. o) x)) ≡ (is_group x && is_some o)
is_lift (Source r) o = refl
is_lift (Flatten ins) o = refl
is_lift (Pdo c f) o = refl
is_lift (Gbk c i l k) None = refl
is_lift (Gbk c i l k) (Some q) = refl
is_lift (Barrier ins i l a) o = refl

found_lifts : (g : Graph) (es : List Entry)
    → lifts_in (map (marked_entry (λ n k. lift_of g n)) es) ≡ lift_all (all_lifts g es)
found_lifts g [] = refl
found_lifts g (e ∷ es) =
    ap (λ (b : Bool). cond b (Lift e.number ∷ rest) rest)
    (is_lift e.node (lift_of g e.number))
    ∙ by (may_lift g e) (found_lifts g es)
  where
    rest : List Rewrite
    rest = lifts_in (map (marked_entry (λ n k. lift_of g n)) es)

    by : (b : Bool) → rest ≡ lift_all (all_lifts g es)
        → cond b (Lift e.number ∷ rest) rest
        ≡ lift_all (cond b (e.number ∷ all_lifts g es) (all_lifts g es))
    by true i = ap (λ (l : List Rewrite). Lift e.number ∷ l) i
    by false i = i

lifts_by : (ns : List ℕ) (g h : Graph) → LiftsLead ns g h
    → Leads 1 (lift_all ns) (unmarked g) (unmarked h)
lifts_by [] g h l = ap unmarked l
lifts_by (n ∷ ns) g h l =
    ((let at : 1 ≤ 1 = omega arith in at, l.0), lifts_by ns (lifted_at n g) h l.1)

lifts_all : (ns : List ℕ) → AllByRecursion (λ r. rewrite_group r ≡ 1) (lift_all ns)
lifts_all [] = tt
lifts_all (n ∷ ns) = (refl, lifts_all ns)

pub lifts_traced : (g : Graph) → IsGraphOk g → IsTrace 1 g (lifts_in (lifted g).nodes) (lifted g)
lifts_traced g ok =
    subst (λ (rs : List Rewrite). IsTrace 1 g rs (lifted g)) (sym (found_lifts g g.nodes)) (record {
      all = lifts_all (all_lifts g g.nodes);
      leads = lifts_by (all_lifts g g.nodes) g (lifted g) (all_lead g ok);
    })
