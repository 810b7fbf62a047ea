-- The types of expressions, or their first fault.
use Rattle.std.specs.Prelude.{ℕ, List, [], ◌∷◌, Ok}
use Rattle.type_table.specs.of_flume_types.declared.types.Ty.{Ty}
use Rattle.type_table.specs.of_flume_types.declared.types.Ty.TheVariants as ty
use Rattle.flume_grammar.specs.declared.tree.Expr.{Expr, Expr-F, fold-Expr}
use Rattle.flume_grammar.specs.declared.fault.ScriptKind.TheVariants.{Unknown, BadNumber, Mistyped}
use Rattle.int_text.specs.Ints.{int_of_text}
use Rattle.expression_types.specs.of_written_types.Answer.{Checked, ◌>>=◌, or_fault}
use Rattle.expression_types.specs.of_written_types.Named.{find}
use Rattle.expression_types.specs.of_written_types.Written.{shallow, whole_type}
use Rattle.expression_types.specs.Operators.{operator, concat}
use Rattle.expression_types.specs.Sight.{Sight}
use Rattle.expression_types.specs.Types.{unary_type, binary_type, index_type, pick_type, either_of, place_under, record_type, list_type, empty_type}

-- the types of parts, from the left
abbrev pub all_types : {X : Type 0} → (X → Sight → Checked Ty) → List X → Sight →
    Checked (List Ty)
all_types f [] s = Ok []
all_types f (part ∷ parts) s = do
  t ← f part s
  ts ← all_types f parts s
  Ok (t ∷ ts)

-- each fault is told on this line
module _ (line : ℕ) where
  -- the type of each form, where f gives those of its parts
  abbrev pub layer_type : {X : Type 0} → (X → Sight → Checked Ty) → Expr-F X → Sight → Checked Ty
  layer_type f (Expr-F.Number digits) s = do
    n ← or_fault line BadNumber (int_of_text digits)
    Ok ty.Int
  layer_type f (Expr-F.Text text) s = Ok ty.Text
  layer_type f (Expr-F.Bool b) s = Ok ty.Bool
  layer_type f (Expr-F.Name name) s = or_fault line Unknown (find name s.names)
  layer_type f (Expr-F.Empty written) s = empty_type line written s.known
  layer_type f (Expr-F.Unary op e) s = do
    t ← f e s
    or_fault line Mistyped (unary_type op t)
  layer_type f (Expr-F.Binary op a b) s = do
    t ← f a s
    u ← f b s
    or_fault line Mistyped (binary_type (operator op) t u)
  layer_type f (Expr-F.Field e name) s = do
    t ← f e s
    at ← place_under line name t
    Ok (at.1)
  layer_type f (Expr-F.Index a b) s = do
    t ← f a s
    u ← f b s
    or_fault line Mistyped (index_type t u)
  layer_type f (Expr-F.Record names parts) s = do
    types ← all_types f parts s
    record_type line names types
  layer_type f (Expr-F.List parts) s = do
    types ← all_types f parts s
    list_type line types
  layer_type f (Expr-F.Side side written e) s = do
    other ← whole_type line written s.known
    t ← f e s
    shallow line (either_of side other t)
  layer_type f (Expr-F.Concat a b) s = do
    t ← f a s
    u ← f b s
    or_fault line Mistyped (binary_type concat t u)
  layer_type f (Expr-F.Pick c a b) s = do
    t ← f c s
    u ← f a s
    w ← f b s
    or_fault line Mistyped (pick_type t u w)

  -- the type of an expression, or its first fault
  abbrev pub type_of : Expr → Sight → Checked Ty
  type_of = fold-Expr (Sight → Checked Ty) (layer_type (λ m. m))
