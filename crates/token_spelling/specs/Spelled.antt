-- How tokens are spelled.
use Rattle.std.specs.Prelude.{ℕ, zero, suc, ◌-◌, List, [], ◌∷◌, ◌++◌, ◌==◌, if◌then◌else◌}
use Rattle.flume_tokens.specs.declared.token.Token.{Token}
use Rattle.flume_tokens.specs.declared.token.TokenKind.{TokenKind}
use Rattle.flume_tokens.specs.declared.token.TokenKind.TheVariants as kind
use Rattle.flume_tokens.specs.Keywords.{keyword_spelling}
use Rattle.flume_tokens.specs.Signs.{sign_spelling}

-- a byte of a text as it is written: `"`, `\` and LF behind a backslash, any other as itself
abbrev pub escape : ℕ → List ℕ
escape b =
    if b == 34 then 92 ∷ 34 ∷ [] else if b == 92 then 92 ∷ 92 ∷ [] else if b == 10 then
    92 ∷ 110 ∷ [] else b ∷ []

-- the content of a text as it is written
abbrev pub escaped : List ℕ → List ℕ
escaped [] = []
escaped (b ∷ bs) = escape b ++ escaped bs

-- how a token is written; a text stands in quotes
abbrev pub token_written : TokenKind → List ℕ
token_written (kind.Name name) = name
token_written (kind.Keyword keyword) = keyword_spelling keyword
token_written (kind.Number digits) = digits
token_written (kind.Text content) = 34 ∷ escaped content ++ 34 ∷ []
token_written (kind.Sign sign) = sign_spelling sign

-- so many line ends
abbrev pub line_ends : ℕ → List ℕ
line_ends zero = []
line_ends (suc n) = 10 ∷ line_ends n

-- tokens as they are written from a line on: line ends up to the line of each, the token, a blank
abbrev pub spelled_from : ℕ → List Token → List ℕ
spelled_from line [] = []
spelled_from line (t ∷ ts) =
    line_ends (t.line - line) ++ (token_written t.kind ++ 32 ∷ spelled_from t.line ts)

-- tokens as they are written, from line 1 on
abbrev pub spelled : List Token → List ℕ
spelled ts = spelled_from 1 ts

-- the line of the last token, or else this line
abbrev pub line_from : ℕ → List Token → ℕ
line_from line [] = line
line_from line (t ∷ ts) = line_from t.line ts

-- the line on which they end: that of the last token, or line 1
abbrev pub last_line : List Token → ℕ
last_line ts = line_from 1 ts
