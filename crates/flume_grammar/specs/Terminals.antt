-- The tokens that the grammar names.
use Rattle.std.specs.Prelude.{ℕ, List, Option, Some, None}
use Rattle.flume_tokens.specs.declared.keyword.Keyword.{Keyword}
use Rattle.flume_tokens.specs.declared.sign.Sign.{Sign}
use Rattle.flume_tokens.specs.declared.token.Token.{Token}
use Rattle.flume_tokens.specs.declared.token.TokenKind.{TokenKind}
use Rattle.flume_tokens.specs.declared.token.TokenKind.TheVariants as kind
use Rattle.flume_tokens.specs.Keywords.{keyword_spelling}

-- a token of a kind, on some line
abbrev pub keyword_token : Keyword → ℕ → Token
keyword_token k n = record { kind = kind.Keyword k; line = n }

abbrev pub mark : Sign → ℕ → Token
mark s n = record { kind = kind.Sign s; line = n }

abbrev pub name_token : List ℕ → ℕ → Token
name_token x n = record { kind = kind.Name x; line = n }

abbrev pub number_token : List ℕ → ℕ → Token
number_token digits n = record { kind = kind.Number digits; line = n }

abbrev pub text_token : List ℕ → ℕ → Token
text_token content n = record { kind = kind.Text content; line = n }

-- the name of a field, which may be any word, reserved or not
abbrev pub word_of : TokenKind → Option (List ℕ)
word_of (kind.Name x) = Some x
word_of (kind.Keyword k) = Some (keyword_spelling k)
word_of _ = None
