-- The types of what operations give, from those of their operands; or the first fault.
use Rattle.std.specs.Prelude.{ℕ, Bool, true, false, ◌&&◌, nat_eq, length, List, [], ◌∷◌, Option, Some, None, Err, if◌then◌else◌}
use Rattle.std.specs.List.{list_all}
use Rattle.flume_types.specs.declared.types.Ty.{Ty, Ty-F, out-Ty}
use Rattle.flume_types.specs.declared.types.Ty.TheVariants as ty
pub use Rattle.flume_types.specs.Equality.{type_eq as is_same}
use Rattle.flume_grammar.specs.declared.tree.Unary.{Unary}
use Rattle.flume_grammar.specs.declared.tree.Unary.TheVariants as unary
use Rattle.flume_grammar.specs.declared.tree.Side.{Side}
use Rattle.flume_grammar.specs.declared.tree.Side.TheVariants as side
use Rattle.flume_grammar.specs.declared.tree.Type as tree
use Rattle.flume_grammar.specs.declared.fault.ScriptKind.TheVariants.{Unknown, Twice, Mistyped}
use Rattle.flume_grammar.specs.declared.fault.ScriptFault.TheVariants.{Refused}
use Rattle.dofn_eval.specs.declared.expr.Binary.{Binary as Two_}
use Rattle.dofn_eval.specs.declared.expr.Binary.TheVariants as two
use Rattle.written_types.specs.Answer.{Checked, ◌>>=◌, unless, or_fault}
use Rattle.written_types.specs.Named.{Named}
use Rattle.written_types.specs.Written.{shallow, whole_type}
use Rattle.expression_types.specs.declared.operator.Operator.{Operator}
use Rattle.expression_types.specs.declared.operator.Operator.TheVariants.{And, Or, Two}
use Rattle.expression_types.specs.Fields.{are_different, typed_fields, named_field, record_fields, member_type}

-- ---- what each operation gives of operands of these types; none where it does not take them

abbrev pub is_int : Ty-F Ty → Bool
is_int Ty-F.Int = true
is_int _ = false

abbrev pub is_bool : Ty-F Ty → Bool
is_bool Ty-F.Bool = true
is_bool _ = false

abbrev pub is_text : Ty-F Ty → Bool
is_text Ty-F.Text = true
is_text _ = false

-- texts and lists
abbrev pub is_long : Ty-F Ty → Bool
is_long Ty-F.Text = true
is_long (Ty-F.List member) = true
is_long _ = false

abbrev pub where_true : Bool → Ty → Option Ty
where_true test type = if test then Some type else None

abbrev pub unary_type : Unary → Ty → Option Ty
unary_type unary.Not t = where_true (is_bool (out-Ty t)) ty.Bool
unary_type unary.Negate t = where_true (is_int (out-Ty t)) ty.Int
unary_type unary.Len t = where_true (is_long (out-Ty t)) ty.Int
unary_type unary.Words t = where_true (is_text (out-Ty t)) (ty.List ty.Text)
unary_type unary.Text t = where_true (is_int (out-Ty t)) ty.Text
unary_type unary.Number t = where_true (is_text (out-Ty t)) ty.Int

abbrev pub two_type : Two_ → Ty → Ty → Option Ty
two_type (two.Arithmetic op) t u = where_true (is_int (out-Ty t) && is_int (out-Ty u)) ty.Int
two_type (two.Comparison op) t u = where_true (is_same t u) ty.Bool
two_type two.Concat t u = where_true (is_same t u && is_long (out-Ty t)) t

abbrev pub bools_type : Ty → Ty → Option Ty
bools_type t u = where_true (is_bool (out-Ty t) && is_bool (out-Ty u)) ty.Bool

abbrev pub binary_type : Operator → Ty → Ty → Option Ty
binary_type And t u = bools_type t u
binary_type Or t u = bools_type t u
binary_type (Two op) t u = two_type op t u

abbrev pub index_type : Ty → Ty → Option Ty
index_type t u = if is_int (out-Ty u) then member_type t else None

abbrev pub pick_type : Ty → Ty → Ty → Option Ty
pick_type t u w = where_true (is_bool (out-Ty t) && is_same u w) u

-- the either of a side of this type whose other side has that type
abbrev pub either_of : Side → Ty → Ty → Ty
either_of side.Left other type = ty.Either type other
either_of side.Right other type = ty.Either other type

-- each fault is told on this line
module _ (line : ℕ) where
  -- the place and the type of a record's field
  abbrev pub place_under : List ℕ → Ty → Checked (ℕ × Ty)
  place_under name type = do
    fields ← or_fault line Mistyped (record_fields type)
    or_fault line Unknown (named_field name 0 fields)

  -- the type of a record of parts of these types under these names
  abbrev pub record_type : List (List ℕ) → List Ty → Checked Ty
  record_type names types = do
    new ← unless line Twice (are_different names)
    as_many ← unless line Mistyped (nat_eq (length names) (length types))
    shallow line (ty.Rec (typed_fields names types))

  -- the type of a list of members of these types
  abbrev pub list_type : List Ty → Checked Ty
  list_type [] = Err (Refused line Mistyped)
  list_type (t ∷ ts) = do
    same ← unless line Mistyped (list_all (is_same t) ts)
    shallow line (ty.List t)

  -- the type of `empty<T>`
  abbrev pub empty_type : tree.Type → Named Ty → Checked Ty
  empty_type written known = do
    t ← whole_type line written known
    shallow line (ty.List t)
