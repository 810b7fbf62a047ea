-- When a stage can be run over the lists that it finds, and where a run of a plan stands.
use Rattle.std.specs.Prelude.{◌≡◌, ◌⊎◌, ℕ, List, [], take}
use Rattle.flume_value.specs.declared.value.Value.{Value}
use Rattle.flume_types.specs.declared.types.Ty.{Ty}
use Rattle.exec_graph.specs.Typing.{IsWorldTyped, Signatures}
use Rattle.exec_graph.specs.World.{World}
use Rattle.exec_plan.specs.declared.plan.Plan.{Plan}
use Rattle.exec_plan.specs.declared.plan.PlanPlace.{PlanPlace}
use Rattle.exec_plan.specs.declared.plan.Stage.{Stage}
use Rattle.exec_plan.specs.Typing.{IsPlanTyped, StageTyped}
use Rattle.exec_plan.specs.Wellformed.{IsStageOk}
use Rattle.forest_courses.specs.of_task_lists.Lists.{run_lists, source_lists}
use Rattle.forest_courses.specs.of_task_lists.Tasks.{Lists, Split}
use Rattle.forest_courses.specs.of_task_lists.Typing.{AreListsTyped}
use Rattle.task_safety.specs.Taking.{Takes}

-- ---- a stage

-- the world has types, functions may be called on what they take by them, and the lists and stage k
-- fit them
pub record CanRunStage (w : World) (takes : ℕ → Value → Type 0) (k : ℕ) (t : Lists) (s : Stage)
    : Type 0 where
  pub signatures : Signatures
  pub types : PlanPlace → Ty
  pub world : IsWorldTyped signatures w
  pub calls : (f : ℕ) (x : Value) → Takes signatures f x → takes f x
  pub lists : AreListsTyped types t
  pub typed : StageTyped signatures types k s
  -- and it is well-formed behind these stages
  pub sources : ℕ
  pub before : List Stage
  pub ok : IsStageOk sources before s

-- ---- a run

-- the world and the plan have the same types, and functions may be called on what they take by them
pub record IsTypedRun (w : World) (takes : ℕ → Value → Type 0) (p : Plan) : Type 0 where
  pub signatures : Signatures
  pub world : IsWorldTyped signatures w
  pub calls : (f : ℕ) (x : Value) → Takes signatures f x → takes f x
  pub plan : IsPlanTyped signatures p

-- the list of each collection when the first k stages of the plan have run
abbrev pub lists_before : World → Split → Plan → ℕ → Lists
lists_before w n p k = run_lists w n 1 (take k p.stages) (source_lists w)

-- these are those lists, but for some that were dropped
abbrev pub AreSoFar : World → Split → Plan → ℕ → Lists → Type 0
AreSoFar w n p k t = (c : PlanPlace) → (t c ≡ []) ⊎ (t c ≡ lists_before w n p k c)
