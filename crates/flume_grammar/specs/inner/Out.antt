-- What a parser of tokens gives: what it read and the tokens that are left, or where it stopped.
use Rattle.std.specs.Prelude.{ℕ, zero, suc, nat_le, length, List, [], ◌∷◌, Bool, if◌then◌else◌, Option, Some, None, Result, Ok, Err}
use Rattle.flume_tokens.specs.declared.token.Token.{Token}
use Rattle.flume_tokens.specs.declared.token.TokenKind.{TokenKind}
use Rattle.flume_grammar.specs.declared.fault.ScriptKind.{ScriptKind}
use Rattle.flume_grammar.specs.declared.fault.ScriptKind.TheVariants.{Syntax, TooDeep}
use Rattle.flume_grammar.specs.declared.fault.Stop.{Stop}
use Rattle.flume_grammar.specs.declared.fault.Stop.TheVariants.{Fault}

abbrev pub Out : Type 0 → Type 0
Out A = Result (A × List Token) Stop

abbrev pub give : {A : Type 0} → A → List Token → Out A
give a ts = Ok (a, ts)

-- one parser, and then another over what it left
abbrev pub bind : {A B : Type 0} → Out A → (A → List Token → Out B) → Out B
bind (Ok x) f = f x.0 x.1
bind (Err e) f = Err e

-- what was read, if it is no deeper
abbrev pub no_deeper : {A : Type 0} → ℕ → A × ℕ → List Token → Out A
no_deeper limit x ts = if nat_le x.1 limit then give x.0 ts else Err (Fault None TooDeep)

-- the fault at a token
abbrev pub at : Token → ScriptKind → Stop
at t k = Fault (Some t.line) k

abbrev pub passed : {A : Type 0} → Result A Stop → List Token → Out A
passed (Ok a) ts = Ok (a, ts)
passed (Err e) ts = Err e

-- one token, by what it is
abbrev pub one : {A : Type 0} → (Token → Result A Stop) → List Token → Out A
one f [] = Err (Fault None Syntax)
one f (t ∷ ts) = passed (f t) ts

-- what the next token is
abbrev pub next : List Token → Option TokenKind
next [] = None
next (t ∷ ts) = Some t.kind

-- As long as the test holds, one more part. Each takes a token at least, so as many turns as there
-- are tokens are enough.
abbrev pub many : {A : Type 0} → ℕ → (A → List Token → Bool) → (A → List Token → Out A) → A
    → List Token → Out A
many zero more part a ts = Ok (a, ts)
many (suc k) more part a ts =
    if more a ts then bind (part a ts) (λ b us. many k more part b us) else Ok (a, ts)

unfoldable pub all_of : {A : Type 0} → (A → List Token → Bool) → (A → List Token → Out A) → A
    → List Token → Out A
all_of more part a ts = many (length ts) more part a ts
