-- Types as they are written.
use Rattle.std.specs.Prelude.{ℕ, ◌≤◌, zero, suc, ◌+◌, ◌-◌, max, length, nat_lt, List, Bool, None, if◌then◌else◌, Result, Ok, Err}
use Rattle.flume_tokens.specs.declared.keyword.Keyword.{Keyword}
use Rattle.flume_tokens.specs.declared.keyword.Keyword.TheVariants as keyword
use Rattle.flume_tokens.specs.declared.sign.Sign.TheVariants as sign
use Rattle.flume_tokens.specs.declared.token.Token.{Token}
use Rattle.flume_tokens.specs.declared.token.TokenKind.{TokenKind}
use Rattle.flume_tokens.specs.declared.token.TokenKind.TheVariants as kind
use Rattle.flume_grammar.specs.declared.fault.ScriptKind.TheVariants.{Syntax, TooDeep}
use Rattle.flume_grammar.specs.declared.fault.Stop.{Stop}
use Rattle.flume_grammar.specs.declared.fault.Stop.TheVariants.{Fault}
use Rattle.flume_grammar.specs.declared.tree.Type.TheVariants as tree
use Rattle.flume_grammar.specs.declared.parts.Parts.{Parts}
use Rattle.flume_grammar.specs.declared.start.TypeStart.{TypeStart}
use Rattle.flume_grammar.specs.declared.start.TypeStart.TheVariants as start
use Rattle.flume_grammar.specs.inner.Out.{Out, give, bind, no_deeper, at, one, next, all_of}
use Rattle.flume_grammar.specs.inner.Reading.{sign_at, word_at, comma_at, is_at_sign}
use Rattle.flume_grammar.specs.Limits.{Limits, the_limits}
use Rattle.flume_grammar.specs.Parts.{Tree, none, with_named_part}

abbrev pub deep_start : ℕ → Token → TypeStart → Result TypeStart Stop
deep_start limit t s = if nat_lt 1 limit then Ok s else Err (at t TooDeep)

abbrev pub keyword_type : Keyword → ℕ → Token → Result TypeStart Stop
keyword_type keyword.Int limit t = Ok (start.Leaf tree.Int)
keyword_type keyword.Bool limit t = Ok (start.Leaf tree.Bool)
keyword_type keyword.Text limit t = Ok (start.Leaf tree.Text)
keyword_type keyword.List limit t = deep_start limit t start.List
keyword_type keyword.Either limit t = deep_start limit t start.Either
keyword_type keyword.Table limit t = deep_start limit t start.Table
keyword_type _ limit t = Err (at t Syntax)

abbrev pub kind_type : TokenKind → ℕ → Token → Result TypeStart Stop
kind_type (kind.Name x) limit t = Ok (start.Leaf (tree.Named x))
kind_type (kind.Keyword k) limit t = keyword_type k limit t
kind_type (kind.Sign sign.OpenBrace) limit t = deep_start limit t start.Record
kind_type _ limit t = Err (at t Syntax)

abbrev pub type_start : ℕ → Token → Result TypeStart Stop
type_start limit t = kind_type t.kind limit t

-- what has parts may be two deep
abbrev pub HasRoom : TypeStart → ℕ → Type 0
HasRoom (start.Leaf t) limit = Unit {0}
HasRoom _ limit = 2 ≤ limit

-- a part of a type
abbrev pub Inner : Type 0
Inner = List Token → Out (Tree × ℕ)

abbrev pub list_type : Inner → List Token → Out (Tree × ℕ)
list_type inner ts =
    bind (one (sign_at sign.Less) ts)
    (λ _ us. bind (inner us) (λ x vs. bind (one (sign_at sign.Greater) vs)
    (λ _ ws. give (tree.List x.0, x.1 + 1) ws)))

abbrev pub pair_type : Inner → List Token → Out (Tree × Tree × ℕ)
pair_type inner ts =
    bind (one (sign_at sign.Less) ts)
    (λ _ us. bind (inner us) (λ x vs. bind (one (sign_at sign.Comma) vs)
    (λ _ ws. bind (inner ws) (λ y xs.
    bind (one (sign_at sign.Greater) xs) (λ _ ys. give (x.0, y.0, max x.1 y.1 + 1) ys)))))

abbrev pub field_type : Inner → Parts Tree → List Token → Out (Parts Tree)
field_type inner p ts =
    bind (one word_at ts) (λ w us. bind (one (sign_at sign.Colon) us)
    (λ _ vs. bind (inner vs) (λ x ws. give (with_named_part p w x.0 x.1) ws)))

abbrev pub at_comma : {A : Type 0} → A → List Token → Bool
at_comma p ts = is_at_sign sign.Comma (next ts)

module _ (limits : Limits) where
  abbrev pub next_field_type : Inner → Parts Tree → List Token → Out (Parts Tree)
  next_field_type inner p ts = bind (one (comma_at (length p.names) limits.fields) ts)
      (λ _ us. field_type inner p us)

  abbrev pub record_type : Inner → List Token → Out (Tree × ℕ)
  record_type inner ts =
      bind (field_type inner none ts) (λ p us. bind (all_of at_comma (next_field_type inner) p us)
      (λ q vs.
      bind (one (sign_at sign.CloseBrace) vs)
      (λ _ ws. give (tree.Record q.names q.parts, q.depth + 1) ws)))

  abbrev pub after_start : Inner → TypeStart → List Token → Out (Tree × ℕ)
  after_start inner (start.Leaf t) ts = give (t, 1) ts
  after_start inner start.List ts = list_type inner ts
  after_start inner start.Either ts =
      bind (pair_type inner ts) (λ x us. give (tree.Either x.0 x.1, x.2) us)
  after_start inner start.Table ts =
      bind (pair_type inner ts) (λ x us. give (tree.Table x.0 x.1, x.2) us)
  after_start inner start.Record ts = record_type inner ts

  -- a type of at most that depth, whose parts are of less
  abbrev pub type_layer : ℕ → Inner → List Token → Out (Tree × ℕ)
  type_layer limit inner ts = bind (one (type_start limit) ts) (λ s us. after_start inner s us)

  unfoldable pub type_within : ℕ → Inner
  type_within zero ts = Err (Fault None TooDeep)
  type_within (suc n) ts = type_layer (suc n) (type_within n) ts

  -- a type as it is written is at most 32 deep
  abbrev pub whole_type : List Token → Out Tree
  whole_type ts = bind (type_within limits.depth ts) (no_deeper limits.depth)

-- the parts of a type that may have that depth
abbrev pub type_below : ℕ → Inner
type_below limit = type_within the_limits (limit - 1)
