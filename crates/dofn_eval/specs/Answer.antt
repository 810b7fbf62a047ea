-- What a call answers: emissions, or a trap.
use Rattle.std.specs.Prelude.{◌≡◌, Option, Some, None, Result, Ok, Err, List}
use Rattle.std.specs.List.{AllZip}
use Rattle.flume_value.specs.declared.fault.Kind.{Kind}
use Rattle.flume_types.specs.declared.types.Ty.{Ty}
use Rattle.flume_types.specs.Typing.{AllHave}
use Rattle.dofn_eval.specs.Outcome.{Outcome, Gives, Traps, Stuck}
use Rattle.dofn_eval.specs.Run.{Emissions}

-- the emissions to each output in order, or why there are none
abbrev pub Answer : Type 0
Answer = Result Emissions Kind

-- the answer, where no operation meets an operand of another type
abbrev pub answered : {A : Type 0} → Outcome A → Option (Result A Kind)
answered (Gives a) = Some (Ok a)
answered (Traps kind) = Some (Err kind)
answered Stuck = None

-- as many lists as types, and what is emitted to each output has its type
abbrev pub OutputsHave : List Ty → Emissions → Type 0
OutputsHave types lists = AllZip AllHave types lists

-- what is emitted has the outputs' types
abbrev pub HaveOutputTypes : List Ty → Answer → Type 0
HaveOutputTypes types (Ok lists) = OutputsHave types lists
HaveOutputTypes types (Err kind) = Unit {0}

-- there is an answer, and what it emits has the outputs' types
abbrev pub HasAnswer : List Ty → Outcome Emissions → Type 0
HasAnswer types outcome =
    (answer : Answer) × (answered outcome ≡ Some answer) × HaveOutputTypes types answer
