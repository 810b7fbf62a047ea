-- All passes before forming, with their rewrites.
use Rattle.std.proofs.Common.{◌≡◌, ◌≤◌, ℕ, List, [], ◌∷◌, ◌++◌, refl, sym, ap, ◌∙◌, subst, arith, append_assoc}
use Rattle.std.specs.List.{AllByRecursion as Each}
use Rattle.exec_graph.specs.Wellformed.{Ascends, IsBlockedOk, IsGraphOk}
use Rattle.exec_graph.specs.declared.graph.Blocked.{Blocked}
use Rattle.exec_graph.specs.declared.graph.Graph.{Graph}
use Rattle.exec_graph.proofs.Soundness.{differ_ascends}
use Rattle.exec_plan.specs.declared.plan.Plan.{Plan}
use Rattle.graph_tracing.specs.of_form_laws.Formed.{IsFormed}
use Rattle.graph_tracing.proofs.of_form_laws.SameMarks.{plan_same, some_plan}
use Rattle.fusion_blocks.specs.Blocks.{CanMark, IsBlocked, unmarked}
use Rattle.graph_rewrites.proofs.of_graph_bounds.Narrowing.{narrow_lifted, narrow_sunk}
use Rattle.graph_laws.specs.Lifting.{lift_of, lifted}
use Rattle.graph_laws.specs.Single.{HasNarrowSteps, IsOneStep, IsUnfused}
use Rattle.graph_laws.proofs.SingleSteps.{AllSteps-remarked}
use Rattle.graph_rewrites.specs.Replays.{Leads, rewrite_group}
use Rattle.graph_rewrites.specs.Rewrites.{applied}
use Rattle.graph_rewrites.specs.declared.rewrite.Rewrite.{Rewrite}
use Rattle.graph_tracing.specs.Sinks.{IsSinking}
use Rattle.graph_tracing.specs.Traces.{IsTrace}
use Rattle.plan_check.specs.of_optimise.Optimised.{IsOptimised, source_count}
use Rattle.pardo_fuse.specs.Fusing.{fused}
use Rattle.pardo_fuse.specs.Wellformed.{IsFusible}
use Rattle.graph_tracing.proofs.of_pass_rewrites.Lists.{leads_both}
use Rattle.graph_tracing.proofs.of_pass_rewrites.Marking.{fused_list}
use Rattle.sink_laws.specs.Chain.{IsSunk}
use Rattle.sink_laws.specs.Kept.{KeepsSteps}
use Rattle.sink_laws.proofs.TypesKept.{AllSteps-kept}
use Rattle.plan_check.specs.Checked.{Forms}
use Rattle.plan_tracing.specs.Lists.{lifts_in}
use Rattle.plan_tracing.specs.Refined.{IsFusedBy, IsRefinedBy}
use Rattle.plan_tracing.proofs.Marks.{marks_can}

-- ---- what is blocked can be fused

pub fusible : (g sunk raised : Graph) (b : Blocked) → IsBlockedOk b → b.graph ≡ raised
    → raised ≡ lifted sunk → KeepsSteps g sunk → IsUnfused g → HasNarrowSteps g → IsFusible b
fusible g sunk raised b ok same lift keeps u n =
    let is : b.graph ≡ lifted sunk = same ∙ lift in
    record {
      ok = ok;
      unfused = subst IsUnfused (sym is)
          (AllSteps-remarked IsOneStep (λ m k. lift_of sunk m) sunk
          (AllSteps-kept IsOneStep g sunk keeps u));
      narrow = subst HasNarrowSteps (sym is)
          (narrow_lifted sunk (narrow_sunk g sunk keeps n));
    }

pub can_be_marked : (scales : List ℕ) (b : Blocked) → IsFusible b → IsBlocked scales b
    → Each (CanMark (fused b).graph) (fused b).marks
can_be_marked scales b fu blocked = marks_can (fused b) (fused_list b scales fu blocked)

-- ---- the order of all

-- what is led to behind lifts is of the groups behind them
late : (group : ℕ) (rs : List Rewrite) (a b : Blocked) → 2 ≤ group → Leads group rs a b
    → Each (λ r. 2 ≤ rewrite_group r) rs
late group [] a b up l = tt
late group (r ∷ rs) a b up l =
    let at : 2 ≤ rewrite_group r = omega (arith, up, l.0.0) in
    (at, late (rewrite_group r) rs (applied a r) b at l.1)

-- ---- the whole

pub refined_by : (scales : List ℕ) (g sunk raised : Graph) (b c : Blocked)
    (sinks lifts rest : List Rewrite) → IsSunk g sunk → raised ≡ lifted sunk → b.graph ≡ raised
    → IsBlocked scales b → IsSinking g sinks sunk → IsTrace 1 sunk lifts raised
    → lifts ≡ lifts_in raised.nodes → IsFusedBy b.graph (fused b) rest c
    → IsRefinedBy scales g ((sinks ++ lifts) ++ rest) c
refined_by scales g sunk raised b c sinks lifts rest s lift same blocked a l is m =
    let from : Leads 2 rest (unmarked raised) c =
    subst (λ (x : Graph). Leads 2 rest (unmarked x) c) same m.marked.leads in
    let behind : Leads 1 (lifts ++ rest) (unmarked sunk) c =
    leads_both 1 2 lifts rest (unmarked sunk) (unmarked raised) c l.all (omega arith) l.leads from
    in
    let whole : Leads 0 (sinks ++ (lifts ++ rest)) (unmarked g) c =
    leads_both 0 1 sinks (lifts ++ rest) (unmarked g) (unmarked sunk) c a.traced.all (omega arith)
    a.traced.leads behind in
    let one : sinks ++ (lifts ++ rest) ≡ (sinks ++ lifts) ++ rest =
    sym (append_assoc sinks lifts rest) in
    record {
      refined = fused b;
      is_refined = record {
        sunk = sunk;
        is_sunk = s;
        blocked = b;
        is_lifted = same ∙ lift;
        is_blocked = blocked;
        is_fused = refl;
      };
      marked = record {
        graph = m.marked.graph;
        marks = m.marked.marks;
        leads = subst (λ (rs : List Rewrite). Leads 0 rs (unmarked g) c) one whole;
      };
      order = record {
        sunk = sunk;
        is_sunk = s;
        sinks = sinks;
        are_next = a.order;
        rest = rest;
        are_late = late 2 rest (unmarked b.graph) c (omega arith) m.marked.leads;
        order = m.order;
        whole = ap (λ (rs : List Rewrite). (sinks ++ rs) ++ rest)
            (is ∙ ap (λ (h : Graph). lifts_in h.nodes) lift);
      };
    }

-- ---- the plan

pub optimised : (scales : List ℕ) (g : Graph) (rs : List Rewrite) (c : Blocked) (plan : Plan)
    → IsRefinedBy scales g rs c → IsBlockedOk c → IsFormed (source_count g.nodes) c plan
    → IsOptimised scales g plan
optimised scales g rs c plan r ok formed =
    let n : ℕ = source_count g.nodes in
    let b : Blocked = r.refined in
    let same : c.graph ≡ b.graph = r.marked.graph in
    let other = some_plan n b
    (subst (λ (x : Graph). Ascends x.nodes) same ok.ok.founded.ascends) in
    let one : other.0 ≡ plan =
    sym (plan_same n c b plan other.0 (differ_ascends c.graph.nodes ok.ok.founded.ascends) same
    r.marked.marks formed other.1) in
    record {
      refined = b;
      is_refined = r.is_refined;
      is_formed = subst (λ (p : Plan). IsFormed n b p) one other.1;
    }

pub forms : (scales : List ℕ) (g : Graph) (rs : List Rewrite) (c : Blocked) (plan : Plan)
    → IsRefinedBy scales g rs c → IsFormed (source_count g.nodes) c plan → Forms g rs plan
forms scales g rs c plan r formed =
    record { blocked = c; leads = r.marked.leads; formed = formed }
