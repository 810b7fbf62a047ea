-- All passes before forming, as one list of rewrites.
use Rattle.std.proofs.Common.{◌≡◌, ℕ, List, ◌++◌, map, sym, subst, arith}
use Rattle.exec_graph.specs.Wellformed.{IsBlockedOk, IsGraphOk}
use Rattle.exec_graph.specs.declared.graph.Blocked.{Blocked}
use Rattle.exec_graph.specs.declared.graph.Graph.{Graph}
use Rattle.fusion_blocks.specs.Blocks.{unmarked}
use Rattle.fusion_blocks.proofs.Blocking.{blocked_can, can_ok}
use Rattle.graph_rewrites.proofs.of_graph_bounds.Narrowing.{narrow_lifted, narrow_sunk}
use Rattle.graph_laws.specs.Lifting.{lift_of, lifted}
use Rattle.graph_laws.specs.Single.{HasNarrowSteps, IsOneStep, IsUnfused}
use Rattle.graph_laws.proofs.Lifting.{IsGraphOk-lifted}
use Rattle.graph_laws.proofs.SingleSteps.{AllSteps-remarked}
use Rattle.optimise.specs.Optimised.{IsRefined}
use Rattle.fuse_chain.specs.of_pardo_fuse.Fusing.{fused}
use Rattle.fuse_chain.specs.of_pardo_fuse.Wellformed.{IsFusible}
use Rattle.sink_laws.specs.Kept.{KeepsTypesAndSteps}
use Rattle.sink_laws.proofs.Nexts.{kept_sunk}
use Rattle.sink_laws.proofs.TypesKept.{AllSteps-kept}
use Rattle.graph_rewrites.specs.Replays.{Leads}
use Rattle.graph_rewrites.specs.declared.rewrite.Rewrite.{Rewrite}
use Rattle.pass_rewrites.specs.Passes.{ByFusing, ByRewrites, as_rewrite, present_fusions}
use Rattle.pass_rewrites.proofs.FusedList.{fusing_list}
use Rattle.pass_rewrites.proofs.Fusing.{fusions_all}
use Rattle.pass_rewrites.proofs.Lists.{leads_both}
use Rattle.pass_rewrites.proofs.Marking.{fused_list}
use Rattle.pass_rewrites.proofs.Sinking.{lifts_list, sinks_lead}

-- ---- fusing, and then marks

fused_lead : (g : Graph) (b : Blocked) → b.graph ≡ g → IsFusible b
    → ByRewrites 3 (unmarked (fused b).graph) (fused b)
    → (rs : List Rewrite) × Leads 2 rs (unmarked g) (fused b)
fused_lead g b same fu m =
    let f : ByFusing b.graph (fused b).graph = fusing_list b fu in
    let rs : List Rewrite = map as_rewrite (f.siblings ++ present_fusions (λ n. n) f.formers) in (
      rs ++ m.rewrites,
      subst (λ (x : Graph). Leads 2 (rs ++ m.rewrites) (unmarked x) (fused b)) same
          (leads_both 2 3 rs m.rewrites (unmarked b.graph) (unmarked (fused b).graph) (fused b)
          (fusions_all (f.siblings ++ present_fusions (λ n. n) f.formers)) (omega arith) f.leads
          m.leads),
    )

-- ---- sinking and lifting, and then these

begun_lead : (g sunk : Graph) (b : Blocked) → ByRewrites 0 (unmarked g) (unmarked sunk)
    → ByRewrites 1 (unmarked sunk) (unmarked (lifted sunk))
    → (rs : List Rewrite) × Leads 2 rs (unmarked (lifted sunk)) b
    → (rs : List Rewrite) × Leads 0 rs (unmarked g) b
begun_lead g sunk b s l more =
    let rest : Leads 1 (l.rewrites ++ more.0) (unmarked sunk) b =
    leads_both 1 2 l.rewrites more.0 (unmarked sunk) (unmarked (lifted sunk)) b l.all (omega arith)
    l.leads more.1 in (
      s.rewrites ++ (l.rewrites ++ more.0),
      leads_both 0 1 s.rewrites (l.rewrites ++ more.0) (unmarked g) (unmarked sunk) b s.all
          (omega arith) s.leads rest,
    )

pub refined_list : (scales : List ℕ) (g : Graph) (b : Blocked) → IsGraphOk g → IsUnfused g
    → HasNarrowSteps g → IsRefined scales g b
    → (rs : List Rewrite) × Leads 0 rs (unmarked g) b
refined_list scales g b ok u n x =
    let m : Blocked = x.blocked in
    let k : KeepsTypesAndSteps g x.sunk = kept_sunk g x.sunk ok x.is_sunk.leads in
    let good : IsGraphOk m.graph =
    subst IsGraphOk (sym x.is_lifted) (IsGraphOk-lifted x.sunk k.good.ok) in
    let ready : IsBlockedOk m =
    can_ok m.graph m.marks good (blocked_can scales m good x.is_blocked) in
    let fu : IsFusible m = record {
      ok = ready;
      unfused = subst IsUnfused (sym x.is_lifted)
          (AllSteps-remarked IsOneStep (λ m k. lift_of x.sunk m) x.sunk
          (AllSteps-kept IsOneStep g x.sunk k.steps u));
      narrow = subst HasNarrowSteps (sym x.is_lifted)
          (narrow_lifted x.sunk (narrow_sunk g x.sunk k.steps n));
    } in
    subst (λ (y : Blocked). (rs : List Rewrite) × Leads 0 rs (unmarked g) y) (sym x.is_fused)
    (begun_lead g x.sunk (fused m) (sinks_lead g x.sunk ok x.is_sunk.leads)
    (lifts_list x.sunk k.good.ok)
    (fused_lead (lifted x.sunk) m x.is_lifted fu
    (fused_list m scales fu x.is_blocked)))
