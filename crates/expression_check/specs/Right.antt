-- What holds of an expression's slots: they have its type, and give what it gives.
use Rattle.std.specs.Prelude.{◌≡◌, ℕ, Ok, Err, List, [], ◌∷◌}
use Rattle.flume_value.specs.declared.value.Value.{Value}
use Rattle.type_table.specs.of_flume_types.declared.types.Ty.{Ty}
use Rattle.flume_grammar.specs.declared.tree.Expr.{Expr}
use Rattle.dofn_eval.specs.Outcome.{Outcome}
use Rattle.dofn_eval.specs.Meaning.{expression_value}
use Rattle.dofn_eval.specs.Typed as typing
use Rattle.expression_types.specs.of_written_types.Answer.{Checked}
use Rattle.expression_types.specs.Sight.{Newest, Sight}
use Rattle.expression_check.specs.Types.{type_of}
use Rattle.expression_check.specs.Given.{Thing, Environment, tagged, given_in}
use Rattle.expression_check.specs.Slots.{SlotsAndType, slots_of}

-- the types of names
abbrev pub types : Newest Ty → List Ty
types [] = []
types ((name, type) ∷ names) = type ∷ types names

-- the names, where they stand for these values
abbrev pub bound : Newest Ty → List Value → Environment
bound [] vs = []
bound ((name, type) ∷ names) [] = []
bound ((name, type) ∷ names) (v ∷ vs) = (name, (type, v)) ∷ bound names vs

-- the slots have the type, and give what is given; where there is a fault it is that of the type
abbrev pub IsRight : Newest Ty → Checked SlotsAndType → Checked Ty → (Environment → Outcome Thing) →
    Type 0
IsRight names (Err e) type given = type ≡ Err e
IsRight names (Ok x) type given =
    (type ≡ Ok x.1)
    × typing.Typed (types names) x.0 x.1
    × ((vs : List Value) → given (bound names vs) ≡ tagged x.1 (expression_value x.0 vs))

abbrev pub IsRightExpr : ℕ → Expr → Sight → Type 0
IsRightExpr line e s =
    IsRight s.names (slots_of line e s) (type_of line e s) (given_in line s.known e)
