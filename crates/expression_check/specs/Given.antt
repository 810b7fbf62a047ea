-- The meaning of an expression: what it gives where names stand for values, by one equation for
-- each form.
use Rattle.std.specs.Prelude.{ℕ, true, false, Option, Ok, Err, List, [], ◌∷◌, ◌++◌}
use Rattle.flume_value.specs.declared.value.Value.{Value}
use Rattle.flume_value.specs.declared.value.Value.TheVariants as value
use Rattle.type_table.specs.of_flume_types.declared.types.Ty.{Ty}
use Rattle.type_table.specs.of_flume_types.declared.types.Ty.TheVariants as ty
use Rattle.flume_grammar.specs.declared.tree.Expr.{Expr, Expr-F, fold-Expr}
use Rattle.int_text.specs.Ints.{int_of_text}
use Rattle.dofn_eval.specs.Outcome.{Outcome, Gives, Stuck, then, then_both, with_part}
use Rattle.dofn_eval.specs.Operations.{of_one, of_two, field_in, member_in, chosen}
use Rattle.expression_types.specs.of_written_types.Answer.{Checked}
use Rattle.expression_types.specs.of_written_types.Named.{Named, find}
use Rattle.expression_types.specs.of_written_types.Written.{whole_type}
use Rattle.expression_types.specs.declared.operator.Operator.{Operator}
use Rattle.expression_types.specs.declared.operator.Operator.TheVariants.{And, Or, Two}
use Rattle.expression_types.specs.Operators.{operator, concat, unary_slot, side_slot}
use Rattle.expression_types.specs.Fields.{typed_fields, named_field, record_fields}
use Rattle.expression_types.specs.Sight.{Newest}
use Rattle.expression_types.specs.Types.{unary_type, two_type, index_type, either_of}

-- a value with its type, by which the fields of a record have their places
abbrev pub Thing : Type 0
Thing = Ty × Value

-- what the names in sight stand for, the newest first
abbrev pub Environment : Type 0
Environment = Newest Thing

-- what is given, with its type
abbrev pub tagged : Ty → Outcome Value → Outcome Thing
tagged type outcome = then outcome (λ value. Gives (type, value))

-- the same where there is a type, as a well-typed form has one
abbrev pub typed : Option Ty → Outcome Value → Outcome Thing
typed type outcome = with_part type (λ t. tagged t outcome)

-- what is given, without its type
abbrev pub valued : Outcome Thing → Outcome Value
valued outcome = then outcome (λ thing. Gives thing.1)

-- goes on with a type that is written without a fault
abbrev pub with_type : Checked Ty → (Ty → Outcome Thing) → Outcome Thing
with_type (Ok type) f = f type
with_type (Err e) f = Stuck

-- `e.name`: the part at the place that the name has in the type
abbrev pub dotted_thing : List ℕ → Thing → Outcome Thing
dotted_thing name thing =
    with_part (record_fields thing.0) (λ fields.
    with_part (named_field name 0 fields) (λ at. tagged at.1 (field_in at.0 thing.1)))

-- `a and b`, `a or b` need the second only where the first does not decide
abbrev pub operated_thing : Operator → Outcome Thing → Outcome Thing → Outcome Thing
operated_thing And a b = chosen (valued a) b (Gives (ty.Bool, value.Bool false))
operated_thing Or a b = chosen (valued a) (Gives (ty.Bool, value.Bool true)) b
operated_thing (Two op) a b = then_both a b (λ x y. typed (two_type op x.0 y.0) (of_two op x.1 y.1))

-- what parts give, from the left, behind the types and the values so far
abbrev pub all_given : {X : Type 0} → (X → Environment → Outcome Thing) → List X → Environment →
    List Ty → List Value → Outcome (List Ty × List Value)
all_given f [] env types values = Gives (types, values)
all_given f (part ∷ parts) env types values =
    then (f part env) (λ x. all_given f parts env (types ++ x.0 ∷ []) (values ++ x.1 ∷ []))

-- a record of these parts
abbrev pub recorded : List (List ℕ) → List Ty × List Value → Outcome Thing
recorded names parts = Gives (ty.Rec (typed_fields names parts.0), value.Rec parts.1)

-- a list of these members, all of the type that the first one has
abbrev pub list_given : List Ty → List Value → Outcome Thing
list_given [] values = Stuck
list_given (t ∷ ts) values = Gives (ty.List t, value.List values)

abbrev pub list_of_things : List Ty × List Value → Outcome Thing
list_of_things parts = list_given parts.0 parts.1

-- names of types stand for these; the line is that of the statement, as faults are told on it
module _ (line : ℕ) (known : Named Ty) where
  -- what each form gives, where f says what its parts give
  abbrev pub layer_given : {X : Type 0} → (X → Environment → Outcome Thing) →
      Expr-F X → Environment → Outcome Thing
  layer_given f (Expr-F.Number digits) env =
      with_part (int_of_text digits) (λ n. Gives (ty.Int, value.Int n))
  layer_given f (Expr-F.Text text) env = Gives (ty.Text, value.Text text)
  layer_given f (Expr-F.Bool b) env = Gives (ty.Bool, value.Bool b)
  layer_given f (Expr-F.Name name) env = with_part (find name env) Gives
  layer_given f (Expr-F.Empty written) env =
      with_type (whole_type line written known) (λ t. Gives (ty.List t, value.List []))
  layer_given f (Expr-F.Unary op e) env =
      then (f e env) (λ x. typed (unary_type op x.0) (of_one (unary_slot op) x.1))
  layer_given f (Expr-F.Binary op a b) env = operated_thing (operator op) (f a env) (f b env)
  layer_given f (Expr-F.Field e name) env = then (f e env) (dotted_thing name)
  layer_given f (Expr-F.Index a b) env =
      then_both (f a env) (f b env) (λ x y. typed (index_type x.0 y.0) (member_in x.1 y.1))
  layer_given f (Expr-F.Record names parts) env =
      then (all_given f parts env [] []) (recorded names)
  layer_given f (Expr-F.List parts) env = then (all_given f parts env [] []) list_of_things
  layer_given f (Expr-F.Side side written e) env =
      with_type (whole_type line written known) (λ other.
      then (f e env) (λ x. tagged (either_of side other x.0) (of_one (side_slot side) x.1)))
  layer_given f (Expr-F.Concat a b) env = operated_thing concat (f a env) (f b env)
  layer_given f (Expr-F.Pick c a b) env = chosen (valued (f c env)) (f a env) (f b env)

  -- what an expression gives
  abbrev pub given_in : Expr → Environment → Outcome Thing
  given_in = fold-Expr (Environment → Outcome Thing) (layer_given (λ m. m))
