-- One token.
use Rattle.std.specs.Prelude.{ℕ, nat_lt, List, Bool, false, if◌then◌else◌, Option, Some, None, Result, Ok, Err}
use denote.Enum.Bare.{sameb}
use Rattle.flume_tokens.specs.contracts.keyword.Keyword as keyword_type
use Rattle.flume_tokens.specs.contracts.sign.Sign as sign_type
use Rattle.flume_tokens.specs.declared.keyword.Keyword.{Keyword}
use Rattle.flume_tokens.specs.declared.sign.Sign.{Sign}
use Rattle.flume_tokens.specs.declared.sign.Sign.TheVariants.{Comma}
use Rattle.flume_tokens.specs.declared.token.Token.{Token}
use Rattle.flume_tokens.specs.declared.token.TokenKind.{TokenKind}
use Rattle.flume_tokens.specs.declared.token.TokenKind.TheVariants as kind
use Rattle.flume_grammar.specs.declared.fault.ScriptKind.TheVariants.{Syntax, TooMany}
use Rattle.flume_grammar.specs.declared.fault.Stop.{Stop}
use Rattle.flume_grammar.specs.inner.Out.{Out, give, bind, at, one, next}
use Rattle.flume_grammar.specs.Terminals.{word_of}

-- `==` on signs and on keywords
abbrev pub same_sign : Sign → Sign → Bool
same_sign = sameb sign_type.the_type

abbrev pub same_keyword : Keyword → Keyword → Bool
same_keyword = sameb keyword_type.the_type

abbrev pub is_sign : Sign → TokenKind → Bool
is_sign s (kind.Sign r) = same_sign r s
is_sign s _ = false

abbrev pub is_keyword : Keyword → TokenKind → Bool
is_keyword k (kind.Keyword j) = same_keyword j k
is_keyword k _ = false

abbrev pub sign_at : Sign → Token → Result (Unit {0}) Stop
sign_at s t = if is_sign s t.kind then Ok tt else Err (at t Syntax)

abbrev pub keyword_at : Keyword → Token → Result (Unit {0}) Stop
keyword_at k t = if is_keyword k t.kind then Ok tt else Err (at t Syntax)

abbrev pub name_of : TokenKind → Option (List ℕ)
name_of (kind.Name x) = Some x
name_of _ = None

abbrev pub number_of : TokenKind → Option (List ℕ)
number_of (kind.Number digits) = Some digits
number_of _ = None

abbrev pub text_of : TokenKind → Option (List ℕ)
text_of (kind.Text text) = Some text
text_of _ = None

-- what the token is, or Syntax
abbrev pub or_syntax : {A : Type 0} → Token → Option A → Result A Stop
or_syntax t (Some a) = Ok a
or_syntax t None = Err (at t Syntax)

-- what the token begins, if it is a keyword
abbrev pub of_keyword : {A : Type 0} → (Keyword → Option A) → TokenKind → Option A
of_keyword f (kind.Keyword k) = f k
of_keyword f _ = None

abbrev pub name_at : Token → Result (List ℕ) Stop
name_at t = or_syntax t (name_of t.kind)

abbrev pub word_at : Token → Result (List ℕ) Stop
word_at t = or_syntax t (word_of t.kind)

abbrev pub number_at : Token → Result (List ℕ) Stop
number_at t = or_syntax t (number_of t.kind)

abbrev pub text_at : Token → Result (List ℕ) Stop
text_at t = or_syntax t (text_of t.kind)

-- the comma after so many parts, of which there may be so many
abbrev pub comma_at : ℕ → ℕ → Token → Result (Unit {0}) Stop
comma_at parts limit t =
    if is_sign Comma t.kind then (if nat_lt parts limit then Ok tt else Err (at t TooMany)) else Err
    (at t Syntax)

-- whether the next token is this
abbrev pub is_at_sign : Sign → Option TokenKind → Bool
is_at_sign s (Some k) = is_sign s k
is_at_sign s None = false

abbrev pub is_at_keyword : Keyword → Option TokenKind → Bool
is_at_keyword j (Some k) = is_keyword j k
is_at_keyword j None = false

abbrev pub digits : List Token → Out (Option (List ℕ))
digits ts = bind (one number_at ts) (λ n us. give (Some n) us)

-- the number behind a keyword, where that stands next
abbrev pub numbered : Keyword → List Token → Out (Option (List ℕ))
numbered k ts = if is_at_keyword k (next ts) then bind (one (keyword_at k) ts)
    (λ _ us. digits us) else give None ts
