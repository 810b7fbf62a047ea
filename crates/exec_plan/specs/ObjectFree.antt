-- Plans without objects: no stage operates on one, and no channel calls its steps beside one.
use Rattle.std.specs.Prelude.{◌≡◌, None}
use Rattle.std.specs.List.{AllByRecursion}
use Rattle.exec_plan.specs.declared.plan.Stage.{Stage}
use Rattle.exec_plan.specs.declared.plan.Stage.TheVariants.{Mscr, Flatten, Operate}
use Rattle.exec_plan.specs.declared.plan.Plan.{Plan}

abbrev pub IsStageFree : Stage → Type 0
IsStageFree (Mscr m) = AllByRecursion (λ c. c.beside ≡ None) m.inputs
IsStageFree (Flatten takes) = Unit {0}
IsStageFree (Operate takes o l a) = ⊥

abbrev pub IsPlanObjectFree : Plan → Type 0
IsPlanObjectFree p = AllByRecursion IsStageFree p.stages
