-- What an answer and a member have to read.
use Rattle.std.specs.Prelude.{ℕ, ◌<◌, IsSome, length, Ok, Err}
use Rattle.flume_value.specs.declared.value.Value.{Value}
use Rattle.bag_groups.specs.Combining.{group_of}
use Rattle.flume_collection.specs.Calls.{Called}

-- a list for the output of that place, where the call does not trap
abbrev pub HasOutput : ℕ → Called → Type 0
HasOutput at (Ok outputs) = at < length outputs
HasOutput at (Err trap) = Unit {0}

-- a key and a list
abbrev pub IsListed : Value → Type 0
IsListed member = IsSome (group_of member)
