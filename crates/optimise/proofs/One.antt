-- The passes leave one result.
use Rattle.std.proofs.Common.{◌≡◌, ℕ, List, refl, sym, ap, ◌∙◌, subst}
use Rattle.exec_graph.specs.Meaning.{AllDiffer}
use Rattle.exec_graph.specs.Readers.{among}
use Rattle.exec_graph.specs.Wellformed.{IsBlockedOk, IsGraphOk}
use Rattle.exec_graph.specs.declared.graph.Blocked.{Blocked}
use Rattle.exec_graph.specs.declared.graph.Graph.{Graph}
use Rattle.exec_graph.specs.declared.graph.Place.{Place}
use Rattle.exec_graph.proofs.Soundness.{IsSound-ok}
use Rattle.exec_plan.specs.declared.plan.Plan.{Plan}
use Rattle.mscr_form.proofs.of_form_laws.SameMarks.{plan_same, some_plan}
use Rattle.mscr_form.proofs.of_fusion_blocks.Blocking.{blocked_can, can_ok, ranked_ok}
use Rattle.mscr_form.proofs.of_fusion_blocks.Existing.{some_blocked}
use Rattle.mscr_form.proofs.of_fusion_blocks.Unique.{marks_agree}
use Rattle.combine_lift.proofs.of_graph_laws.Lifting.{IsGraphOk-lifted}
use Rattle.combine_lift.proofs.of_graph_laws.SingleSteps.{AllSteps-remarked}
use Rattle.combine_lift.specs.of_graph_laws.Lifting.{lift_of, lifted}
use Rattle.combine_lift.specs.of_graph_laws.Single.{HasNarrowSteps, IsOneStep, IsUnfused}
use Rattle.optimise.specs.Optimised.{IsOptimised, IsRefined, source_count}
use Rattle.optimise.proofs.Passes.{fusible}
use Rattle.graph_bounds.specs.of_pardo_fuse.Fusing.{fused}
use Rattle.graph_bounds.proofs.of_pardo_fuse.Fused.{IsBlockedOk-fused}
use Rattle.graph_bounds.proofs.of_pardo_fuse.SameMarks.{fused_graphs, fused_marks}
use Rattle.flatten_sink.specs.of_sink_laws.Kept.{KeepsTypesAndSteps}
use Rattle.flatten_sink.proofs.of_sink_laws.Nexts.{kept_sunk}
use Rattle.sink_weights.proofs.Ending.{ends_once, ends_somewhere}

-- ---- before fusing

sunk_kept : (scales : List ℕ) (g : Graph) (a : Blocked) → IsGraphOk g
    → (r : IsRefined scales g a) → KeepsTypesAndSteps g r.sunk
sunk_kept scales g a ok r = kept_sunk g r.sunk ok r.is_sunk.leads

lifted_ok : (scales : List ℕ) (g : Graph) (a : Blocked) → IsGraphOk g
    → (r : IsRefined scales g a) → IsGraphOk r.blocked.graph
lifted_ok scales g a ok r =
    subst IsGraphOk (sym r.is_lifted)
    (IsGraphOk-lifted r.sunk (sunk_kept scales g a ok r).good.ok)

-- both were sunk and lifted to one graph
blocked_graph : (scales : List ℕ) (g : Graph) (a b : Blocked) (x : IsRefined scales g a)
    (y : IsRefined scales g b) → x.blocked.graph ≡ y.blocked.graph
blocked_graph scales g a b x y =
    x.is_lifted ∙ ap lifted (ends_once g x.sunk y.sunk x.is_sunk y.is_sunk) ∙ sym y.is_lifted

blocked_marks : (scales : List ℕ) (g : Graph) (a b : Blocked) → IsGraphOk g
    → (x : IsRefined scales g a) (y : IsRefined scales g b) → (d : Place)
    → among d x.blocked.marks ≡ among d y.blocked.marks
blocked_marks scales g a b ok x y =
    marks_agree scales x.blocked y.blocked
    (ranked_ok x.blocked.graph (lifted_ok scales g a ok x))
    (blocked_graph scales g a b x y) x.is_blocked y.is_blocked

-- ---- fused

pub refined_graph : (scales : List ℕ) (g : Graph) (a b : Blocked) → IsGraphOk g
    → IsRefined scales g a → IsRefined scales g b → a.graph ≡ b.graph
refined_graph scales g a b ok x y =
    ap (λ (c : Blocked). c.graph) x.is_fused
    ∙ fused_graphs x.blocked y.blocked (blocked_graph scales g a b x y)
    (blocked_marks scales g a b ok x y)
    ∙ sym (ap (λ (c : Blocked). c.graph) y.is_fused)

pub refined_marks : (scales : List ℕ) (g : Graph) (a b : Blocked) → IsGraphOk g
    → IsRefined scales g a → IsRefined scales g b → (d : Place)
    → among d a.marks ≡ among d b.marks
refined_marks scales g a b ok x y d =
    ap (λ (c : Blocked). among d c.marks) x.is_fused
    ∙ fused_marks x.blocked y.blocked (blocked_graph scales g a b x y)
    (blocked_marks scales g a b ok x y) d
    ∙ sym (ap (λ (c : Blocked). among d c.marks) y.is_fused)

refined_ok : (scales : List ℕ) (g : Graph) (a : Blocked) → IsGraphOk g → IsUnfused g
    → HasNarrowSteps g → IsRefined scales g a → IsBlockedOk a
refined_ok scales g a ok u n x =
    let b : Blocked = x.blocked in
    let ready : IsBlockedOk b =
    can_ok b.graph b.marks (lifted_ok scales g a ok x)
    (blocked_can scales b (lifted_ok scales g a ok x) x.is_blocked) in
    subst IsBlockedOk (sym x.is_fused) (IsBlockedOk-fused b
    (fusible g x.sunk (lifted x.sunk) b ready x.is_lifted refl
    (sunk_kept scales g a ok x).steps (AllSteps-remarked IsOneStep (λ m k. lift_of x.sunk m) x.sunk)
    u n))

pub one_plan : (scales : List ℕ) (g : Graph) (p q : Plan) → IsGraphOk g → IsUnfused g
    → HasNarrowSteps g → IsOptimised scales g p → IsOptimised scales g q → p ≡ q
one_plan scales g p q ok u n x y =
    let whole : IsBlockedOk x.refined = refined_ok scales g x.refined ok u n x.is_refined in
    let differ : AllDiffer x.refined.graph.nodes =
    (IsSound-ok x.refined.graph whole.ok).differ in
    plan_same (source_count g.nodes) x.refined y.refined p q differ
    (refined_graph scales g x.refined y.refined ok x.is_refined y.is_refined)
    (refined_marks scales g x.refined y.refined ok x.is_refined y.is_refined)
    x.is_formed y.is_formed

-- ---- there is one

pub some_refined : (scales : List ℕ) (g : Graph) → IsGraphOk g
    → (b : Blocked) × IsRefined scales g b
some_refined scales g ok =
    let s = ends_somewhere g ok in
    let raised : IsGraphOk (lifted s.0) =
    IsGraphOk-lifted s.0 (kept_sunk g s.0 ok s.1.leads).good.ok in
    let m = some_blocked scales (lifted s.0) raised in (
      fused m.0,
      record {
        sunk = s.0;
        is_sunk = s.1;
        blocked = m.0;
        is_lifted = m.1;
        is_blocked = m.2;
        is_fused = refl;
      },
    )

pub some_optimised : (scales : List ℕ) (g : Graph) → IsGraphOk g → IsUnfused g
    → HasNarrowSteps g → (p : Plan) × IsOptimised scales g p
some_optimised scales g ok u n =
    let r = some_refined scales g ok in
    let whole : IsBlockedOk r.0 = refined_ok scales g r.0 ok u n r.1 in
    let f = some_plan (source_count g.nodes) r.0 whole.ok.founded.ascends in
    (f.0, record { refined = r.0; is_refined = r.1; is_formed = f.1 })
