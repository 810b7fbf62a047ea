-- What the functions of a script answer.
use Rattle.std.specs.Prelude.{◌≡◌, ℕ, [], ◌∷◌, Err}
use Rattle.flume_value.specs.declared.value.Value.{Value}
use Rattle.flume_value.specs.declared.fault.CallFault.{CallFault}
use Rattle.flume_value.specs.declared.fault.CallFault.TheVariants as call
use Rattle.flume_collection.specs.Calls.{Called, trap_of}
use Rattle.exec_graph.specs.World.{World}
use Rattle.forest_steps.specs.declared.fault.StepFault.{StepFault}
use Rattle.forest_steps.specs.declared.fault.StepFault.TheVariants as fault

-- a world in which functions answer so; the rows of its sources do not matter to steps
abbrev pub world_of : (ℕ → Value → Called) → World
world_of called = record { rows = λ r. []; called = called }

-- the call of a function on x traps, and names x; want of memory comes at any time
abbrev pub IsCallFault : Called → Value → CallFault → Type 0
IsCallFault answer x (call.Trap kind) = answer ≡ Err (kind, x)
IsCallFault answer x call.Memory = Unit {0}

-- the call of a step of this script node traps; want of memory comes at any time
abbrev pub IsTrapOf : ℕ → Called → StepFault → Type 0
IsTrapOf origin answer (fault.Trap e) = trap_of origin answer ≡ e ∷ []
IsTrapOf origin answer fault.Memory = Unit {0}
