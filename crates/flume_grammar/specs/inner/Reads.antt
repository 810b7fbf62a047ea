-- How the parser's code is tied to the parsers here: one clause says all of a call.
use Rattle.std.specs.Prelude.{◌≡◌, ◌≢◌, ℕ, ◌≤◌, ◌<◌, length, List, Result, Ok, Err}
use Rattle.flume_tokens.specs.declared.token.Token.{Token}
use Rattle.flume_grammar.specs.declared.fault.Stop.{Stop}
use Rattle.flume_grammar.specs.declared.fault.Stop.TheVariants.{Memory}
use Rattle.flume_grammar.specs.declared.parts.Parts.{Parts}
use Rattle.flume_grammar.specs.declared.parts.SoFar.{SoFar}
use Rattle.flume_grammar.specs.inner.Out.{Out}

-- the parser reads this and leaves those tokens, which are fewer; and what it read is such
pub record Read {A : Type 0} (such : A → Type 0) (p : List Token → Out A) (ts us : List Token)
    (x : A) : Type 0 where
  pub value : p ts ≡ Ok (x, us)
  pub shorter : length us < length ts
  pub fits : such x

-- the same, of a parser that may take no token
pub record Passed {A : Type 0} (such : A → Type 0) (p : List Token → Out A) (ts us : List Token)
    (x : A) : Type 0 where
  pub value : p ts ≡ Ok (x, us)
  pub shorter : length us ≤ length ts
  pub fits : such x

-- any value
abbrev pub all : {A : Type 0} → A → Type 0
all x = Unit {0}

-- What a call answers that finds the first tokens and leaves the second: what the parser reads,
-- which is such; or where the parser stops. Where memory ran out, nothing is said.
abbrev pub ReadsSuch : {A : Type 0} → (A → Type 0) → (List Token → Out A) → List Token → List Token
    → Result A Stop → Type 0
ReadsSuch such p ts us (Ok x) = Read such p ts us x
ReadsSuch such p ts us (Err e) = e ≢ Memory → p ts ≡ Err e

-- the same of any value
abbrev pub Reads : {A : Type 0} → (List Token → Out A) → List Token → List Token → Result A Stop
    → Type 0
Reads p ts us r = ReadsSuch all p ts us r

-- the same, of a call that may take no token
abbrev pub PassesSuch : {A : Type 0} → (A → Type 0) → (List Token → Out A) → List Token → List Token
    → Result A Stop → Type 0
PassesSuch such p ts us (Ok x) = Passed such p ts us x
PassesSuch such p ts us (Err e) = e ≢ Memory → p ts ≡ Err e

-- a tree with its depth, which is at most the limit
abbrev pub Within : {A : Type 0} → ℕ → A × ℕ → Type 0
Within limit x = x.1 ≤ limit

-- the same of an expression, which is one deep at least
abbrev pub Fits : {A : Type 0} → ℕ → A × ℕ → Type 0
Fits limit x = (1 ≤ x.1) × (x.1 ≤ limit)

abbrev pub FitsSoFar : ℕ → SoFar → Type 0
FitsSoFar limit x = (1 ≤ x.depth) × (x.depth ≤ limit)

-- parts of what may be as deep as the limit
abbrev pub Below : {A : Type 0} → ℕ → Parts A → Type 0
Below limit p = p.depth < limit

-- an expression that goes on with another
abbrev pub Grows : SoFar → ℕ → SoFar → Type 0
Grows left limit x = (left.depth < x.depth) × (x.depth ≤ limit)
