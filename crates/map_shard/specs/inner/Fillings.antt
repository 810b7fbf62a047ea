-- What output channels were given so far, and what they get in the end.
use Rattle.std.specs.Prelude.{◌≡◌, ℕ, List, map, Option, Some, None}
use Rattle.std.specs.List.{AllZip}
use Rattle.flume_value.specs.declared.value.Value.{Value}
use Rattle.combine_table.specs.declared.comb.Comb.{Comb}
use Rattle.partial_tables.specs.Lifted.{IsLifted, accumulators_of}
use Rattle.shuffle_parts.specs.declared.out.Sent.{Sent}
use Rattle.shuffle_parts.specs.declared.out.Sent.TheVariants as sent
use Rattle.shuffle_parts.specs.Partitions.{in_parts}
use Rattle.exec_plan.specs.declared.plan.Take.{Take}
use Rattle.exec_plan.specs.declared.plan.OutChannel.{OutChannel}
use Rattle.exec_plan.specs.declared.plan.OutChannel.TheVariants.{Group, Pass}
use Rattle.map_shard.specs.declared.filling.Filling.{Filling}
use Rattle.map_shard.specs.declared.filling.Filling.TheVariants.{Passed, Grouped, Combined}
use Rattle.map_shard.specs.inner.Sending.{takes_of}

-- the values that pass through a channel
abbrev pub ArePassed : Filling → List Value → Type 0
ArePassed (Passed all) values = all ≡ values
ArePassed _ values = ⊥

-- the pairs of a channel that groups, by the partition of their keys
abbrev pub AreParted : ℕ → Filling → List Value → Type 0
AreParted n (Grouped parts) pairs = parts.items ≡ in_parts n pairs
AreParted n _ pairs = ⊥

-- those of a lifted one, put into the accumulators of that partition
abbrev pub AreLifted : Comb → ℕ → Filling → List Value → Type 0
AreLifted c n (Combined parts) pairs = AllZip (IsLifted c) parts.items (in_parts n pairs)
AreLifted c n _ pairs = ⊥

abbrev pub AreFilled : Option Comb → ℕ → Filling → List Value → Type 0
AreFilled None n filling pairs = AreParted n filling pairs
AreFilled (Some c) n filling pairs = AreLifted c n filling pairs

-- the channel was given these values
abbrev pub IsFilling : ℕ → OutChannel → Filling → List Value → Type 0
IsFilling n (Pass k number) filling values = ArePassed filling values
IsFilling n (Group g) filling values = AreFilled g.lifted n filling values

-- it was given what `given` says of its takes
abbrev pub IsFilled : ℕ → (List Take → List Value) → OutChannel → Filling → Type 0
IsFilled n given channel filling = IsFilling n channel filling (given (takes_of channel))

-- what it gets
abbrev pub sent_of : Filling → Sent
sent_of (Passed values) = sent.Passed values
sent_of (Grouped parts) = sent.Grouped parts.items
sent_of (Combined parts) = sent.Combined (map accumulators_of parts.items)
