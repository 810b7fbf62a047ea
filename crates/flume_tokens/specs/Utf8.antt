-- What is UTF-8 in a script.
use Rattle.std.specs.Prelude.{IsUtf8}
use Rattle.flume_tokens.specs.declared.token.TokenKind.{TokenKind}
use Rattle.flume_tokens.specs.declared.token.TokenKind.TheVariants as kind

-- a text's content is UTF-8
abbrev pub IsUtf8Text : TokenKind → Type 0
IsUtf8Text (kind.Text content) = IsUtf8 content
IsUtf8Text _ = Unit {0}
