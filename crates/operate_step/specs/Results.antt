-- The object that a run of an act stands for.
use Rattle.std.specs.Prelude.{Result, Ok, Err}
use Rattle.flume_value.specs.declared.value.Value.{Value}
use Rattle.flume_collection.specs.Collection.{Collection}
use Rattle.flume_collection.specs.declared.trap.Trap.{Trap}
use Rattle.exec_graph.specs.Objects.{trap_object, value_object}

-- that of the value, or the one behind which the trap is
abbrev pub object_of : Result Value Trap → Collection
object_of (Ok v) = value_object v
object_of (Err trap) = trap_object trap
