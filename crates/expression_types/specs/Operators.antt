-- The operators of a script by what they do.
use Rattle.flume_grammar.specs.declared.tree.Binary.{Binary}
use Rattle.flume_grammar.specs.declared.tree.Binary.TheVariants as binary
use Rattle.flume_grammar.specs.declared.tree.Unary.{Unary}
use Rattle.flume_grammar.specs.declared.tree.Unary.TheVariants as unary
use Rattle.flume_grammar.specs.declared.tree.Side.{Side}
use Rattle.flume_grammar.specs.declared.tree.Side.TheVariants as side
use Rattle.dofn_eval.specs.declared.expr.Unary.{Unary as One}
use Rattle.dofn_eval.specs.declared.expr.Unary.TheVariants as slot
use Rattle.dofn_eval.specs.declared.expr.Binary.TheVariants.{Arithmetic, Comparison, Concat}
use Rattle.dofn_eval.specs.declared.expr.Arithmetic.TheVariants as arithmetic
use Rattle.dofn_eval.specs.declared.expr.Comparison.TheVariants as comparison
use Rattle.expression_types.specs.declared.operator.Operator.{Operator}
use Rattle.expression_types.specs.declared.operator.Operator.TheVariants.{And, Or, Two}

abbrev pub operator : Binary → Operator
operator binary.Or = Or
operator binary.And = And
operator binary.Equal = Two (Comparison comparison.Equal)
operator binary.NotEqual = Two (Comparison comparison.NotEqual)
operator binary.Less = Two (Comparison comparison.Less)
operator binary.AtMost = Two (Comparison comparison.LessEqual)
operator binary.Greater = Two (Comparison comparison.Greater)
operator binary.AtLeast = Two (Comparison comparison.GreaterEqual)
operator binary.Add = Two (Arithmetic arithmetic.Add)
operator binary.Subtract = Two (Arithmetic arithmetic.Subtract)
operator binary.Multiply = Two (Arithmetic arithmetic.Multiply)
operator binary.Divide = Two (Arithmetic arithmetic.Divide)
operator binary.Remainder = Two (Arithmetic arithmetic.Remainder)

-- `concat`
abbrev pub concat : Operator
concat = Two Concat

abbrev pub unary_slot : Unary → One
unary_slot unary.Not = slot.Not
unary_slot unary.Negate = slot.Negate
unary_slot unary.Len = slot.Len
unary_slot unary.Words = slot.Words
unary_slot unary.Text = slot.Text
unary_slot unary.Number = slot.Number

abbrev pub side_slot : Side → One
side_slot side.Left = slot.Left
side_slot side.Right = slot.Right
