-- How the collections of a plan are printed, and what output channels take and give.
use Rattle.std.specs.Prelude.{ℕ, ◌+◌, List, ◌++◌, codes, decimal}
use Rattle.exec_plan.specs.declared.plan.Grouping.{Grouping}
use Rattle.exec_plan.specs.declared.plan.PlanPlace.{PlanPlace}
use Rattle.exec_plan.specs.declared.plan.PlanPlace.TheVariants as at
use Rattle.exec_plan.specs.declared.plan.Take.{Take}

-- two numbers, with a dot between them
abbrev pub dotted : ℕ → ℕ → List ℕ
dotted a b = decimal a ++ (codes "." ++ decimal b)

-- a source by its number, and a result by those of its stage and itself
abbrev pub place_text : PlanPlace → List ℕ
place_text (at.Source number) = codes "s" ++ decimal number
place_text (at.Result stage number) = dotted stage number

-- an output of an input channel
abbrev pub take_text : Take → List ℕ
take_text take = dotted take.channel take.out

-- the result that a grouping channel of a stage gives for an output of its reducer: they are
-- numbered from the channel's first on
abbrev pub given_text : ℕ → Grouping → ℕ → List ℕ
given_text stage group out = dotted stage (group.first + out)
