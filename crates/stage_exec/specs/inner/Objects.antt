-- Objects as an Operate stage makes them.
use Rattle.std.specs.Prelude.{◌≡◌, ◌++◌, ◌∷◌, [], true, ℕ, Bool, List, Option, Some, Result, Ok, Err, ⊤, option_map, slice_get, sum}
use Rattle.std.specs.Result.{MatchResult}
use Rattle.flume_collection.specs.Collection.{Collection}
use Rattle.flume_collection.specs.declared.trap.Trap.{Trap}
use Rattle.flume_value.specs.declared.value.Value.{Value}
use Rattle.exec_graph.specs.Objects.{gives_object, trap_object, untrapped}
use Rattle.exec_graph.specs.World.{World}
use Rattle.exec_plan.specs.declared.plan.Stage.{Stage}
use Rattle.exec_plan.specs.declared.plan.Stage.TheVariants.{Mscr, Flatten, Operate}
use Rattle.stage_results.specs.of_step_counts.Sizes.{HaveGrown}
use Rattle.task_lists.specs.Plans.{task_counts}
use Rattle.plan_phases.specs.declared.fault.RunFault.{RunFault}
use Rattle.plan_phases.specs.declared.fault.RunFault.TheVariants as fault

-- an Operate stage gives an object
abbrev pub GivesObject : Stage → Type 0
GivesObject (Mscr s) = Unit {0}
GivesObject (Flatten takes) = Unit {0}
GivesObject (Operate takes o l a) = gives_object a ≡ true

-- the object of these members, or of a trap
abbrev pub made_object : Result (List Value) Trap → Collection
made_object (Ok members) = untrapped members
made_object (Err trap) = trap_object trap

-- the values so far, and then these
abbrev pub then_values : List Value → Option (List Value) → Option (List Value)
then_values values rest = option_map (λ vs. values ++ vs) rest

-- why a stage stops that makes an object with these traps: by the first, or for want of memory
abbrev pub IsActFault : List Trap → RunFault → Type 0
IsActFault traps (fault.Trap trap) = slice_get traps 0 ≡ Some trap
IsActFault traps (fault.GaveUp stage phase task) = ⊥
IsActFault traps fault.Memory = ⊤

-- an object without traps is given as one list, and the sizes have grown by its members
pub record IsObjectGiven (w : World) (origin : ℕ) (last : Bool) (object : Collection)
    (first sizes : List ℕ) (given : List (List Value)) : Type 0 where
  pub lists : given ≡ object.bag ∷ []
  pub calm : object.traps ≡ []
  pub grown : HaveGrown (λ i. sum ((task_counts w i).objects origin last object)) first sizes

-- the making of an object has ended: it is given, or the stage stops by its first trap
abbrev pub MakingHasEnded : World → ℕ → Bool → Collection → List ℕ → List ℕ
    → Result (List (List Value)) RunFault → Type 0
MakingHasEnded w origin last object first sizes result =
    MatchResult result (IsObjectGiven w origin last object first sizes) (IsActFault object.traps)
