-- What is told of parts, put together.
use Rattle.std.proofs.Common.{◌≡◌, ℕ, List, Result, Ok, Err, refl, sym, ◌∙◌, subst}
use Rattle.std.specs.Prelude.{IfOk}
use Rattle.exec_graph.specs.Meaning.{SameMeaning}
use Rattle.exec_graph.specs.World.{World}
use Rattle.exec_graph.specs.declared.graph.Graph.{Graph}
use Rattle.exec_plan.specs.declared.plan.Plan.{Plan}
use Rattle.graph_rewrites.specs.declared.rewrite.Rewrite.{Rewrite}
use Rattle.graph_rewriting.specs.Replayed.{IsReplayed}
use Rattle.graph_rewriting.specs.declared.replaying.ReplayFault.{ReplayFault}
use Rattle.graph_rewriting.specs.declared.replaying.ReplayFault.TheVariants as replay
use Rattle.plan_files.specs.Reads.{IsFile, IsReadAs}
use Rattle.plan_files.specs.declared.file.FileFault.{FileFault}
use Rattle.plan_files.specs.declared.file.FileFault.TheVariants as file
use Rattle.plan_files.specs.declared.file.PlanFile.{PlanFile}
use Rattle.plan_laws.specs.Operations.{SamePlan}
use Rattle.plan_writing.specs.Naming.{Naming}
use Rattle.plan_check.specs.Checked.{Forms, HasText, IsChecked, IsCompared, IsFormedOf}
use Rattle.plan_check.specs.Faults.{of_file, of_replay}
use Rattle.plan_faults.specs.declared.fault.PlanFault.{PlanFault}
use Rattle.plan_faults.specs.declared.fault.PlanFault.TheVariants.{Refused, Memory}
use Rattle.plan_faults.specs.declared.fault.PlanKind.TheVariants.{NotJson, Shape, BadStep, Differs}

-- ---- the file

file_fault : (names : Naming) (g : Graph) (bytes : List ℕ) (f : FileFault)
    → IsReadAs bytes (Err f) → IsChecked names g bytes (Err (of_file f))
file_fault names g bytes file.NotJson r = (refl, r)
file_fault names g bytes file.Shape r = (refl, r)
file_fault names g bytes file.Memory r = tt

pub file_refused : (names : Naming) (g : Graph) (bytes : List ℕ) (f : FileFault)
    (e : PlanFault) → IsReadAs bytes (Err f) → e ≡ of_file f → IsChecked names g bytes (Err e)
file_refused names g bytes f e r is =
    subst (λ (x : PlanFault). IsChecked names g bytes (Err x)) (sym is)
    (file_fault names g bytes f r)

-- ---- the rewrites

replay_fault : (g : Graph) (rs : List Rewrite) (f : ReplayFault) → IsReplayed g rs (Err f)
    → IsFormedOf g rs (Err (of_replay f))
replay_fault g rs (replay.Step i) r = r
replay_fault g rs replay.Memory r = tt

pub replay_refused : (g : Graph) (rs : List Rewrite) (f : ReplayFault) (e : PlanFault)
    → IsReplayed g rs (Err f) → e ≡ of_replay f → IsFormedOf g rs (Err e)
replay_refused g rs f e r is =
    subst (λ (x : PlanFault). IsFormedOf g rs (Err x)) (sym is) (replay_fault g rs f r)

pub formed_refused : (names : Naming) (g : Graph) (bytes : List ℕ) (f : PlanFile)
    (e : PlanFault) → IsFile bytes f → IsFormedOf g f.rewrites (Err e)
    → IsChecked names g bytes (Err e)
formed_refused names g bytes f Memory is m = tt
formed_refused names g bytes f (Refused step BadStep) is m =
    record { file = f; is_file = is; stops = m }
formed_refused names g bytes f (Refused step NotJson) is m = absurd m
formed_refused names g bytes f (Refused step Shape) is m = absurd m
formed_refused names g bytes f (Refused step Differs) is m = absurd m

-- ---- the plan

pub same_plan : (g h : Graph) (p : Plan) → SameMeaning g h → ((w : World) → SamePlan w h p)
    → (w : World) → SamePlan w g p
same_plan g h p a b w = record {
  outputs = (a w).outputs ∙ (b w).outputs;
  own = λ n. (a w).own n ∙ (b w).own n;
  traps = (a w).traps ∙ (b w).traps;
}

pub carried : (P : Plan → Type 0) (r : Result Plan PlanFault) (plan : Plan)
    → IfOk r (λ p. p ≡ plan) → P plan → IfOk r P
carried P (Ok p) plan is h = subst P (sym is) h
carried P (Err e) plan is h = tt

pub compared_checked : (names : Naming) (g : Graph) (bytes : List ℕ) (f : PlanFile)
    (plan : Plan) (r : Result Plan PlanFault) → IsFile bytes f → Forms g f.rewrites plan
    → IfOk r (λ p. p ≡ plan) → IsCompared names f plan r → IsChecked names g bytes r
compared_checked names g bytes f plan (Ok p) is forms same m = (
  record {
    file = f;
    is_file = is;
    forms = subst (λ (q : Plan). Forms g f.rewrites q) (sym same) forms;
  },
  subst (λ (q : Plan). HasText names f q) (sym same) m,
)
compared_checked names g bytes f plan (Err Memory) is forms same m = tt
compared_checked names g bytes f plan (Err (Refused step Differs)) is forms same m = record {
  plan = plan;
  led = record { file = f; is_file = is; forms = forms };
  behind = m.0;
  other = m.1;
}
compared_checked names g bytes f plan (Err (Refused step NotJson)) is forms same m = absurd m.0
compared_checked names g bytes f plan (Err (Refused step Shape)) is forms same m = absurd m.0
compared_checked names g bytes f plan (Err (Refused step BadStep)) is forms same m = absurd m.0
