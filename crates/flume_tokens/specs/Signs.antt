-- The signs. Of those that some bytes begin with the longest is taken.
use Rattle.std.specs.Prelude.{ℕ, List, [], ◌∷◌, Option, codes, find, nat_eq}
use Rattle.std.specs.List.{starts_with}
use Rattle.flume_tokens.specs.declared.sign.Sign.{Sign}
use Rattle.flume_tokens.specs.declared.sign.Sign.TheVariants as sign

-- how a sign is spelled
abbrev pub sign_spelling : Sign → List ℕ
sign_spelling sign.Equal = codes "=="
sign_spelling sign.NotEqual = codes "!="
sign_spelling sign.AtMost = codes "<="
sign_spelling sign.AtLeast = codes ">="
sign_spelling sign.Arrow = codes "->"
sign_spelling sign.OpenBrace = codes "{"
sign_spelling sign.CloseBrace = codes "}"
sign_spelling sign.Open = codes "("
sign_spelling sign.Close = codes ")"
sign_spelling sign.OpenBracket = codes "["
sign_spelling sign.CloseBracket = codes "]"
sign_spelling sign.Less = codes "<"
sign_spelling sign.Greater = codes ">"
sign_spelling sign.Comma = codes ","
sign_spelling sign.Colon = codes ":"
sign_spelling sign.Dot = codes "."
sign_spelling sign.Assign = codes "="
sign_spelling sign.Plus = codes "+"
sign_spelling sign.Minus = codes "-"
sign_spelling sign.Times = codes "*"
sign_spelling sign.Divide = codes "/"
sign_spelling sign.Remainder = codes "%"

-- all signs, those of two bytes before those of one
abbrev pub signs : List Sign
signs = sign.Equal ∷ sign.NotEqual ∷ sign.AtMost ∷ sign.AtLeast ∷ sign.Arrow ∷ sign.OpenBrace ∷
    sign.CloseBrace ∷ sign.Open ∷ sign.Close ∷ sign.OpenBracket ∷ sign.CloseBracket ∷ sign.Less ∷
    sign.Greater ∷ sign.Comma ∷ sign.Colon ∷ sign.Dot ∷ sign.Assign ∷ sign.Plus ∷ sign.Minus ∷
    sign.Times ∷ sign.Divide ∷ sign.Remainder ∷ []

-- the longest sign that the bytes begin with
unfoldable pub sign_of : List ℕ → Option Sign
sign_of bytes = find (λ s. starts_with nat_eq bytes (sign_spelling s)) signs
