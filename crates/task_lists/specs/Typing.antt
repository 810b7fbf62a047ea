-- The types of the lists of a plan's collections, and of the elements of its tasks.
use Rattle.std.specs.Prelude.{ℕ, ◌<◌, All, List, Option, Some, None}
use Rattle.flume_value.specs.declared.value.Value.{Value}
use Rattle.flume_types.specs.declared.types.Ty.{Ty}
use Rattle.flume_types.specs.Typing.{AllHave, Has}
use Rattle.bag_groups.specs.Pairs.{IsPair}
use Rattle.combine_table.specs.declared.comb.Comb.{Comb}
use Rattle.shuffle_parts.specs.of_partial_tables.Merges.{IsCombinable}
use Rattle.exec_plan.specs.of_exec_graph.declared.graph.Place.{Place}
use Rattle.exec_plan.specs.of_exec_graph.Forests.{Forest}
use Rattle.exec_plan.specs.of_exec_graph.Typing.{Signatures}
use Rattle.exec_plan.specs.declared.plan.PlanPlace.{PlanPlace}
use Rattle.exec_plan.specs.Typing.{BesideTyped, ChannelTyped}
use Rattle.task_lists.specs.Tasks.{Lists, Task, asks_of}

-- each list has its collection's type
abbrev pub AreListsTyped : (PlanPlace → Ty) → Lists → Type 0
AreListsTyped types t = (c : PlanPlace) → AllHave (types c) (t c)

-- steps over members of t, where they are called beside a value or not: outputs (n, 0), (n, 1), ..
-- have their types
abbrev pub StepsTyped : Signatures → (Place → Ty) → ℕ → Ty → Option Value → Option Forest → Type 0
StepsTyped s outs n t None f = ChannelTyped s outs n t f
StepsTyped s outs n t (Some v) f = (object : Ty) × Has object v × BesideTyped s outs n t object f

-- the elements of a task have a type whose members its steps take, where there are any
pub record IsTaskTyped (s : Signatures) (task : Task) : Type 0 where
  pub element : Ty
  -- the types of its outputs
  pub outs : Place → Ty
  pub node : ℕ
  pub members : AllHave element task.elements
  pub steps : 0 < asks_of task → StepsTyped s outs node element task.beside task.does

-- what a grouping channel may be given: pairs, and a lifted one pairs of a key and a value that its
-- combiner takes
abbrev pub AreGroupable : Option Comb → List Value → Type 0
AreGroupable None pairs = All IsPair pairs
AreGroupable (Some c) pairs = All (IsCombinable c) pairs
