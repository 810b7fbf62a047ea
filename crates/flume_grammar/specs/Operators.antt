-- The operators between two operands, and how tight they bind.
use Rattle.std.specs.Prelude.{ℕ, Option, Some, None, ◌==◌, if◌then◌else◌}
use Rattle.flume_tokens.specs.declared.keyword.Keyword.TheVariants as keyword
use Rattle.flume_tokens.specs.declared.sign.Sign.{Sign}
use Rattle.flume_tokens.specs.declared.sign.Sign.TheVariants as sign
use Rattle.flume_tokens.specs.declared.token.TokenKind.{TokenKind}
use Rattle.flume_tokens.specs.declared.token.TokenKind.TheVariants as kind
use Rattle.flume_grammar.specs.declared.tree.Binary.{Binary}
use Rattle.flume_grammar.specs.declared.tree.Binary.TheVariants as operator

abbrev pub sign_operator : Sign → Option Binary
sign_operator sign.Equal = Some operator.Equal
sign_operator sign.NotEqual = Some operator.NotEqual
sign_operator sign.Less = Some operator.Less
sign_operator sign.AtMost = Some operator.AtMost
sign_operator sign.Greater = Some operator.Greater
sign_operator sign.AtLeast = Some operator.AtLeast
sign_operator sign.Plus = Some operator.Add
sign_operator sign.Minus = Some operator.Subtract
sign_operator sign.Times = Some operator.Multiply
sign_operator sign.Divide = Some operator.Divide
sign_operator sign.Remainder = Some operator.Remainder
sign_operator _ = None

-- the operator between two operands that a token is
abbrev pub operator_of : TokenKind → Option Binary
operator_of (kind.Keyword keyword.Or) = Some operator.Or
operator_of (kind.Keyword keyword.And) = Some operator.And
operator_of (kind.Sign s) = sign_operator s
operator_of _ = None

-- how tight an operator binds; 3 is `not`, 7 a `-` before an operand, and 8 an operand
abbrev pub rank : Binary → ℕ
rank operator.Or = 1
rank operator.And = 2
rank operator.Equal = 4
rank operator.NotEqual = 4
rank operator.Less = 4
rank operator.AtMost = 4
rank operator.Greater = 4
rank operator.AtLeast = 4
rank operator.Add = 5
rank operator.Subtract = 5
rank operator.Multiply = 6
rank operator.Divide = 6
rank operator.Remainder = 6

-- the least rank of its left operand: operators of one rank associate to the left, and a comparison
-- stands beside no other
abbrev pub left_rank : Binary → ℕ
left_rank o = if rank o == 4 then 5 else rank o
