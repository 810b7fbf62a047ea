-- The statements of a script as texts.
use Rattle.std.specs.Prelude.{ℕ, suc, ◌-◌, ◌==◌, ◌&&◌, Bool, true, false, List, [], ◌∷◌, ◌++◌, map}
use Rattle.std.specs.List.{flat_map}
use Rattle.flume_tokens.specs.declared.keyword.Keyword.TheVariants as keyword
use Rattle.flume_tokens.specs.declared.sign.Sign.TheVariants as sign
use Rattle.flume_tokens.specs.declared.token.Token.{Token}
use Rattle.flume_tokens.specs.declared.token.TokenKind.{TokenKind}
use Rattle.flume_tokens.specs.declared.token.TokenKind.TheVariants as kind
use Rattle.token_spelling.specs.Spelled.{token_written}

-- the words with which statements begin
abbrev pub is_beginning_word : TokenKind → Bool
is_beginning_word (kind.Keyword keyword.Type) = true
is_beginning_word (kind.Keyword keyword.Input) = true
is_beginning_word (kind.Keyword keyword.Fn) = true
is_beginning_word (kind.Keyword keyword.Let) = true
is_beginning_word (kind.Keyword keyword.Output) = true
is_beginning_word _ = false

-- a statement begins with this token, where so many braces are open
abbrev pub is_beginning : ℕ → TokenKind → Bool
is_beginning depth token = (depth == 0) && is_beginning_word token

-- how many braces are open behind a token, before which so many are
abbrev pub braces_behind : ℕ → TokenKind → ℕ
braces_behind depth (kind.Sign sign.OpenBrace) = suc depth
braces_behind depth (kind.Sign sign.CloseBrace) = depth - 1
braces_behind depth _ = depth

-- what is left of a statement, and the statements behind it, each as its tokens
abbrev pub StatementParts : Type 0
StatementParts = List TokenKind × List (List TokenKind)

-- with one token before: the first of a statement, or one more of what is left
abbrev pub token_before : TokenKind → Bool → StatementParts → StatementParts
token_before token true parts = ([], (token ∷ parts.0) ∷ parts.1)
token_before token false parts = (token ∷ parts.0, parts.1)

-- the parts of tokens, where so many braces are open
unfoldable pub parts_from : ℕ → List TokenKind → StatementParts
parts_from depth [] = ([], [])
parts_from depth (token ∷ tokens) =
    token_before token (is_beginning depth token) (parts_from (braces_behind depth token) tokens)

-- the statements of a script, each as its tokens
abbrev pub statements_of : List TokenKind → List (List TokenKind)
statements_of tokens = (parts_from 0 tokens).1

-- tokens behind the first of a text: a space before each
abbrev pub joined_behind : List TokenKind → List ℕ
joined_behind tokens = flat_map (λ token. 32 ∷ token_written token) tokens

-- tokens as they are written, joined by one space
abbrev pub spaced_tokens : List TokenKind → List ℕ
spaced_tokens [] = []
spaced_tokens (token ∷ tokens) = token_written token ++ joined_behind tokens

-- what the tokens are, without the lines on which they stand
abbrev pub kinds_of : List Token → List TokenKind
kinds_of tokens = map (λ token. token.kind) tokens

-- the text of each statement that these are the tokens of, in order
abbrev pub texts_of : List Token → List (List ℕ)
texts_of tokens = map spaced_tokens (statements_of (kinds_of tokens))
