-- The rules of a function's body, or its first fault, on the line of the innermost statement.
use Rattle.std.specs.Prelude.{ℕ, List, [], ◌∷◌, Ok, length, slice_get}
use Rattle.flume_types.specs.declared.types.Ty.{Ty, out-Ty}
use Rattle.flume_grammar.specs.declared.tree.Body.{Body, Body-F, fold-Body}
use Rattle.flume_grammar.specs.declared.fault.ScriptKind.TheVariants.{BadNumber, Mistyped}
use Rattle.expression_check.specs.of_written_types.Answer.{Checked, ◌>>=◌, unless, or_fault}
use Rattle.expression_check.specs.of_written_types.Named.{Named, fresh}
use Rattle.expression_check.specs.of_expression_types.Sight.{Sight, with_name}
use Rattle.expression_check.specs.of_expression_types.Fields.{member_type, side_types}
use Rattle.expression_check.specs.of_expression_types.Types.{is_same, is_bool}
use Rattle.expression_check.specs.Types.{type_of}
use Rattle.body_check.specs.Outputs.{output_written}

-- statements one after another, where f gives what is in sight after each
abbrev pub after_all : {X : Type 0} → (X → Sight → Checked Sight) → List X → Sight → Checked Sight
after_all f [] s = Ok s
after_all f (statement ∷ rest) s = do
  next ← f statement s
  after_all f rest next

-- what the function emits to each output has its type, of these
module _ (gives : List Ty) where
  -- what is in sight after each form of statement
  abbrev pub layer_after : {X : Type 0} → (X → Sight → Checked Sight) →
      Body-F X → Sight → Checked Sight
  layer_after f (Body-F.Let line name e) s = do
    new ← fresh line name s.names
    t ← type_of line e s
    Ok (with_name name t s)
  layer_after f (Body-F.Emit line to e) s = do
    output ← or_fault line BadNumber (output_written (length gives) to)
    wanted ← or_fault line BadNumber (slice_get gives output)
    t ← type_of line e s
    same ← unless line Mistyped (is_same t wanted)
    Ok s
  layer_after f (Body-F.If line e a b) s = do
    t ← type_of line e s
    test ← unless line Mistyped (is_bool (out-Ty t))
    then_ ← after_all f a s
    else_ ← after_all f b s
    Ok s
  layer_after f (Body-F.For line name e block) s = do
    new ← fresh line name s.names
    t ← type_of line e s
    member ← or_fault line Mistyped (member_type t)
    inner ← after_all f block (with_name name member s)
    Ok s
  layer_after f (Body-F.Case line e left a right b) s = do
    t ← type_of line e s
    sides ← or_fault line Mistyped (side_types t)
    new ← fresh line left s.names
    on_left ← after_all f a (with_name left sides.0 s)
    also ← fresh line right s.names
    on_right ← after_all f b (with_name right sides.1 s)
    Ok s

  -- what is in sight after a statement, or its first fault
  abbrev pub sight_after : Body → Sight → Checked Sight
  sight_after = fold-Body (Sight → Checked Sight) (layer_after (λ m. m))

-- what is in sight at a body's start: the argument, where these names stand for types
abbrev pub at_start : Named Ty → List ℕ → Ty → Sight
at_start known argument takes = record { known = known; names = (argument, takes) ∷ [] }

-- the first fault of the body of a function that takes and gives values of these types, one for
-- each output
abbrev pub body_of : Named Ty → List ℕ → Ty → List Ty → List Body → Checked (Unit {0})
body_of known argument takes gives body = do
  end ← after_all (sight_after gives) body (at_start known argument takes)
  Ok tt
