-- What a channel takes of an input channel whose outputs were given these lists.
use Rattle.std.specs.Prelude.{ℕ, ◌==◌, ◌++◌, ◌∷◌, cond, drop, List, [], slice_get}
use Rattle.std.specs.List.{flat_map}
use Rattle.flume_value.specs.declared.value.Value.{Value}
use Rattle.flume_collection.specs.Calls.{or_none}
use Rattle.exec_plan.specs.declared.plan.Take.{Take}
use Rattle.exec_plan.specs.declared.plan.OutChannel.{OutChannel}
use Rattle.exec_plan.specs.declared.plan.OutChannel.TheVariants.{Group, Pass}
use Rattle.task_safety.specs.of_task_lists.Typing.{AreGroupable}

abbrev pub taken_by : ℕ → List (List Value) → Take → List Value
taken_by m lists k = cond (k.channel == m) (or_none (slice_get lists k.out)) []

abbrev pub taken : ℕ → List (List Value) → List Take → List Value
taken m lists takes = flat_map (taken_by m lists) takes

-- values that are fit for the channel
abbrev pub IsSendable : OutChannel → List Value → Type 0
IsSendable (Pass k number) values = Unit {0}
IsSendable (Group g) values = AreGroupable g.lifted values

abbrev pub takes_of : OutChannel → List Take
takes_of (Pass k number) = k ∷ []
takes_of (Group g) = g.takes

abbrev pub CanSend : ℕ → List (List Value) → OutChannel → Type 0
CanSend m lists channel = IsSendable channel (taken m lists (takes_of channel))

-- of lists, one for each take: those of the first takes together, and those that are left
abbrev pub takes_joined : List Take → List (List Value) → List Value
takes_joined [] lists = []
takes_joined (k ∷ ks) lists = or_none (slice_get lists 0) ++ takes_joined ks (drop 1 lists)

abbrev pub left : List Take → List (List Value) → List (List Value)
left [] lists = lists
left (k ∷ ks) lists = left ks (drop 1 lists)
