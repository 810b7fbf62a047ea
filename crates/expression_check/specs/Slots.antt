-- The slots of expressions, with the types of what they give; or the first fault.
use Rattle.std.specs.Prelude.{ℕ, ℤ, Ok, Option, List, [], ◌∷◌, ◌++◌, map}
use Rattle.flume_value.specs.declared.value.Value.TheVariants as value
use Rattle.type_table.specs.of_flume_types.declared.types.Ty.{Ty}
use Rattle.type_table.specs.of_flume_types.declared.types.Ty.TheVariants as ty
use Rattle.flume_grammar.specs.declared.tree.Side.{Side}
use Rattle.flume_grammar.specs.declared.tree.Unary.{Unary}
use Rattle.flume_grammar.specs.declared.tree.Type as tree
use Rattle.flume_grammar.specs.declared.tree.Expr.{Expr, Expr-F, fold-Expr}
use Rattle.flume_grammar.specs.declared.fault.ScriptKind.TheVariants.{Unknown, BadNumber, Mistyped}
use Rattle.int_text.specs.Ints.{int_of_text}
use Rattle.dofn_eval.specs.declared.expr.Expr.{Expr as Slots}
use Rattle.dofn_eval.specs.declared.expr.Expr.TheVariants as expr
use Rattle.type_table.specs.Table.{type_at}
use Rattle.expression_types.specs.of_written_types.Answer.{Checked, ◌>>=◌, or_fault}
use Rattle.expression_types.specs.of_written_types.Written.{shallow, whole_type}
use Rattle.expression_check.specs.declared.typed.Typed.{Typed as Made}
use Rattle.expression_check.specs.declared.typed.Operand.{Operand}
use Rattle.expression_check.specs.declared.typed.Pair.{Pair}
use Rattle.expression_check.specs.declared.typed.AllTyped.{AllTyped}
use Rattle.expression_types.specs.declared.operator.Operator.{Operator}
use Rattle.expression_types.specs.declared.operator.Operator.TheVariants.{And, Or, Two}
use Rattle.expression_types.specs.Operators.{operator, concat, unary_slot, side_slot}
use Rattle.expression_types.specs.Sight.{Newest, Sight}
use Rattle.expression_types.specs.Types.{unary_type, binary_type, index_type, pick_type, either_of, place_under, record_type, list_type, empty_type}
use Rattle.expression_types.specs.Places.{place_in}

-- slots, and the type of what they give
abbrev pub SlotsAndType : Type 0
SlotsAndType = Slots × Ty

-- what was made, where these types are under numbers
abbrev pub slots_typed : List Ty → Made → SlotsAndType
slots_typed types made = (made.expr, type_at types made.ty)

abbrev pub operand : List Ty → Operand → SlotsAndType
operand types made = (made.expr, type_at types made.ty)

abbrev pub both_typed : List Ty → Pair → SlotsAndType × SlotsAndType
both_typed types pair = (operand types pair.first, operand types pair.second)

abbrev pub all_typed : List Ty → AllTyped → List Slots × List Ty
all_typed types all = (all.exprs, map (type_at types) all.types)

abbrev pub operation : Operator → Slots → Slots → Slots
operation And a b = expr.And a b
operation Or a b = expr.Or a b
operation (Two op) a b = expr.Binary op a b

-- ---- parts

abbrev pub pair_slots : {X : Type 0} → (X → Sight → Checked SlotsAndType) → X → X → Sight →
    Checked (SlotsAndType × SlotsAndType)
pair_slots f a b s = do
  x ← f a s
  y ← f b s
  Ok (x, y)

-- those of parts, behind those so far
abbrev pub all_slots : {X : Type 0} → (X → Sight → Checked SlotsAndType) → List X → Sight →
    List Slots → List Ty → Checked (List Slots × List Ty)
all_slots f [] s slots types = Ok (slots, types)
all_slots f (part ∷ parts) s slots types = do
  x ← f part s
  all_slots f parts s (slots ++ x.0 ∷ []) (types ++ x.1 ∷ [])

-- each fault is told on this line
module _ (line : ℕ) where
  -- ---- each form, from the slots and types of its parts

  abbrev pub literal : Option ℤ → Checked SlotsAndType
  literal digits = do
    n ← or_fault line BadNumber digits
    Ok (expr.Literal (value.Int n), ty.Int)

  abbrev pub variable : List ℕ → Newest Ty → Checked SlotsAndType
  variable name names = do
    at ← or_fault line Unknown (place_in name names)
    Ok (expr.Variable at.0, at.1)

  abbrev pub empty : tree.Type → Sight → Checked SlotsAndType
  empty written s = do
    t ← empty_type line written s.known
    Ok (expr.List [], t)

  abbrev pub unary : Unary → SlotsAndType → Checked SlotsAndType
  unary op x = do
    t ← or_fault line Mistyped (unary_type op x.1)
    Ok (expr.Unary (unary_slot op) x.0, t)

  abbrev pub binary : Operator → SlotsAndType → SlotsAndType → Checked SlotsAndType
  binary op x y = do
    t ← or_fault line Mistyped (binary_type op x.1 y.1)
    Ok (operation op x.0 y.0, t)

  abbrev pub field : List ℕ → SlotsAndType → Checked SlotsAndType
  field name x = do
    at ← place_under line name x.1
    Ok (expr.Field x.0 at.0, at.1)

  abbrev pub index : SlotsAndType → SlotsAndType → Checked SlotsAndType
  index x y = do
    t ← or_fault line Mistyped (index_type x.1 y.1)
    Ok (expr.Index x.0 y.0, t)

  abbrev pub fields : List (List ℕ) → List Slots × List Ty → Checked SlotsAndType
  fields names all = do
    t ← record_type line names all.1
    Ok (expr.Record all.0, t)

  abbrev pub members_slots : List Slots × List Ty → Checked SlotsAndType
  members_slots all = do
    t ← list_type line all.1
    Ok (expr.List all.0, t)

  abbrev pub sided : Side → Ty → SlotsAndType → Checked SlotsAndType
  sided side other x = do
    t ← shallow line (either_of side other x.1)
    Ok (expr.Unary (side_slot side) x.0, t)

  abbrev pub pick : SlotsAndType → SlotsAndType → SlotsAndType → Checked SlotsAndType
  pick c x y = do
    t ← or_fault line Mistyped (pick_type c.1 x.1 y.1)
    Ok (expr.Pick c.0 x.0 y.0, t)

  -- ---- each form, where f gives the slots of its parts

  abbrev pub unary_slots : {X : Type 0} → (X → Sight → Checked SlotsAndType) → Unary → X →
      Sight → Checked SlotsAndType
  unary_slots f op e s = do
    x ← f e s
    unary op x

  abbrev pub field_slots : {X : Type 0} → (X → Sight → Checked SlotsAndType) → X → List ℕ →
      Sight → Checked SlotsAndType
  field_slots f e name s = do
    x ← f e s
    field name x

  abbrev pub record_slots : {X : Type 0} → (X → Sight → Checked SlotsAndType) → List (List ℕ) →
      List X → Sight → Checked SlotsAndType
  record_slots f names parts s = do
    all ← all_slots f parts s [] []
    fields names all

  abbrev pub list_slots : {X : Type 0} → (X → Sight → Checked SlotsAndType) → List X →
      Sight → Checked SlotsAndType
  list_slots f parts s = do
    all ← all_slots f parts s [] []
    members_slots all

  abbrev pub two_slots : {X : Type 0} → (X → Sight → Checked SlotsAndType) → Operator → X → X →
      Sight → Checked SlotsAndType
  two_slots f op a b s = do
    both ← pair_slots f a b s
    binary op both.0 both.1

  abbrev pub index_slots : {X : Type 0} → (X → Sight → Checked SlotsAndType) → X → X →
      Sight → Checked SlotsAndType
  index_slots f a b s = do
    both ← pair_slots f a b s
    index both.0 both.1

  abbrev pub pick_slots : {X : Type 0} → (X → Sight → Checked SlotsAndType) → X → X → X →
      Sight → Checked SlotsAndType
  pick_slots f c a b s = do
    test ← f c s
    both ← pair_slots f a b s
    pick test both.0 both.1

  abbrev pub side_slots : {X : Type 0} → (X → Sight → Checked SlotsAndType) → Side → tree.Type → X →
      Sight → Checked SlotsAndType
  side_slots f side written e s = do
    other ← whole_type line written s.known
    x ← f e s
    sided side other x

  abbrev pub layer_slots : {X : Type 0} → (X → Sight → Checked SlotsAndType) →
      Expr-F X → Sight → Checked SlotsAndType
  layer_slots f (Expr-F.Number digits) s = literal (int_of_text digits)
  layer_slots f (Expr-F.Text text) s = Ok (expr.Literal (value.Text text), ty.Text)
  layer_slots f (Expr-F.Bool b) s = Ok (expr.Literal (value.Bool b), ty.Bool)
  layer_slots f (Expr-F.Name name) s = variable name s.names
  layer_slots f (Expr-F.Empty written) s = empty written s
  layer_slots f (Expr-F.Unary op e) s = unary_slots f op e s
  layer_slots f (Expr-F.Binary op a b) s = two_slots f (operator op) a b s
  layer_slots f (Expr-F.Field e name) s = field_slots f e name s
  layer_slots f (Expr-F.Index a b) s = index_slots f a b s
  layer_slots f (Expr-F.Record names parts) s = record_slots f names parts s
  layer_slots f (Expr-F.List parts) s = list_slots f parts s
  layer_slots f (Expr-F.Side side written e) s = side_slots f side written e s
  layer_slots f (Expr-F.Concat a b) s = two_slots f concat a b s
  layer_slots f (Expr-F.Pick c a b) s = pick_slots f c a b s

  -- the slots of an expression, and the type of what they give
  abbrev pub slots_of : Expr → Sight → Checked SlotsAndType
  slots_of = fold-Expr (Sight → Checked SlotsAndType) (layer_slots (λ m. m))
