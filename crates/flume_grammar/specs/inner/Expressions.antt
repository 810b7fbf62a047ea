-- Expressions.
use Rattle.std.specs.Prelude.{◌≡◌, ℕ, zero, suc, ◌+◌, ◌-◌, ◌≤◌, max, length, nat_lt, nat_le, is_some, List, [], ◌∷◌, ◌++◌, Bool, true, false, not, ◌==◌, ◌&&◌, ◌||◌, if◌then◌else◌, Option, Some, None, Result, Ok, Err}
use Rattle.flume_tokens.specs.declared.keyword.Keyword.{Keyword}
use Rattle.flume_tokens.specs.declared.keyword.Keyword.TheVariants as keyword
use Rattle.flume_tokens.specs.declared.sign.Sign.{Sign}
use Rattle.flume_tokens.specs.declared.sign.Sign.TheVariants as sign
use Rattle.flume_tokens.specs.declared.token.Token.{Token}
use Rattle.flume_tokens.specs.declared.token.TokenKind.{TokenKind}
use Rattle.flume_tokens.specs.declared.token.TokenKind.TheVariants as kind
use Rattle.flume_grammar.specs.declared.fault.ScriptKind.TheVariants.{Syntax, TooDeep}
use Rattle.flume_grammar.specs.declared.fault.Stop.{Stop}
use Rattle.flume_grammar.specs.declared.fault.Stop.TheVariants.{Fault}
use Rattle.flume_grammar.specs.declared.tree.Binary.{Binary}
use Rattle.flume_grammar.specs.declared.tree.Unary.{Unary}
use Rattle.flume_grammar.specs.declared.tree.Unary.TheVariants as unary
use Rattle.flume_grammar.specs.declared.tree.Side.{Side}
use Rattle.flume_grammar.specs.declared.tree.Side.TheVariants as side
use Rattle.flume_grammar.specs.declared.tree.Expr.{Expr}
use Rattle.flume_grammar.specs.declared.tree.Expr.TheVariants as tree
use Rattle.flume_grammar.specs.declared.parts.Parts.{Parts}
use Rattle.flume_grammar.specs.declared.start.Start.{Start}
use Rattle.flume_grammar.specs.declared.start.Start.TheVariants as start
use Rattle.flume_grammar.specs.declared.parts.SoFar.{SoFar}
use Rattle.flume_grammar.specs.declared.parts.Suffix.{Suffix}
use Rattle.flume_grammar.specs.declared.parts.Suffix.TheVariants as suffix
use Rattle.flume_grammar.specs.inner.Out.{Out, give, bind, at, one, next, all_of}
use Rattle.flume_grammar.specs.inner.Reading.{is_sign, sign_at, word_at, comma_at}
use Rattle.flume_grammar.specs.Parts.{none, with_named_part}
use Rattle.flume_grammar.specs.inner.Types.{at_comma, whole_type}
use Rattle.flume_grammar.specs.Limits.{Limits, the_limits}
use Rattle.flume_grammar.specs.Operators.{operator_of, rank, left_rank}

-- ---- how an operand begins

abbrev pub keyword_start : Keyword → Option Start
keyword_start keyword.True = Some (start.Leaf (tree.Bool true))
keyword_start keyword.False = Some (start.Leaf (tree.Bool false))
keyword_start keyword.Empty = Some start.Empty
keyword_start keyword.Not = Some (start.Prefix unary.Not)
keyword_start keyword.Left = Some (start.Side side.Left)
keyword_start keyword.Right = Some (start.Side side.Right)
keyword_start keyword.Concat = Some start.Concat
keyword_start keyword.Pick = Some start.Pick
keyword_start keyword.Len = Some (start.Call unary.Len)
keyword_start keyword.Words = Some (start.Call unary.Words)
keyword_start keyword.Text = Some (start.Call unary.Text)
keyword_start keyword.Number = Some (start.Call unary.Number)
keyword_start _ = None

abbrev pub sign_start : Sign → Option Start
sign_start sign.OpenBrace = Some start.Record
sign_start sign.OpenBracket = Some start.List
sign_start sign.Minus = Some (start.Prefix unary.Negate)
sign_start _ = None

abbrev pub start_of : TokenKind → Option Start
start_of (kind.Name x) = Some (start.Leaf (tree.Name x))
start_of (kind.Number digits) = Some (start.Leaf (tree.Number digits))
start_of (kind.Text text) = Some (start.Leaf (tree.Text text))
start_of (kind.Keyword k) = keyword_start k
start_of (kind.Sign s) = sign_start s

-- `not` is no operand of what binds tighter
abbrev pub fits : Start → ℕ → Bool
fits (start.Prefix unary.Not) least = nat_le least 3
fits _ least = true

abbrev pub is_leaf : Start → Bool
is_leaf (start.Leaf e) = true
is_leaf start.Empty = true
is_leaf _ = false

-- what has parts may be two deep
abbrev pub HasRoom : Start → ℕ → Type 0
HasRoom (start.Leaf e) limit = Unit {0}
HasRoom start.Empty limit = Unit {0}
HasRoom _ limit = 2 ≤ limit

abbrev pub started : ℕ → ℕ → Token → Option Start → Result Start Stop
started limit least t None = Err (at t Syntax)
started limit least t (Some s) =
    if not (fits s least) then Err (at t Syntax) else if nat_lt 1 limit || is_leaf s then Ok s else
    Err (at t TooDeep)

abbrev pub operand_start : ℕ → ℕ → Token → Result Start Stop
operand_start limit least t = started limit least t (start_of t.kind)

-- ---- what goes on with an expression

abbrev pub so_far : ℕ → Expr → ℕ → SoFar
so_far r e d = record { rank = r; expr = e; depth = d }

abbrev pub operator_suffix : Option Binary → ℕ → ℕ → Option Suffix
operator_suffix (Some o) own least = if nat_le least (rank o) && nat_le (left_rank o) own then Some
    (suffix.Operator o) else None
operator_suffix None own least = None

abbrev pub suffix_of : Option TokenKind → ℕ → ℕ → Option Suffix
suffix_of (Some (kind.Sign sign.Dot)) own least = if own == 8 then Some suffix.Field else None
suffix_of (Some (kind.Sign sign.OpenBracket)) own least =
    if own == 8 then Some suffix.Index else None
suffix_of (Some k) own least = operator_suffix (operator_of k) own least
suffix_of None own least = None

-- a part of an expression, of at least that rank
abbrev pub Inner : Type 0
Inner = ℕ → List Token → Out (Expr × ℕ)

abbrev pub extend : Inner → SoFar → Suffix → List Token → Out SoFar
extend inner x suffix.Field ts =
    bind (one word_at ts) (λ w us. give (so_far 8 (tree.Field x.expr w) (x.depth + 1)) us)
extend inner x suffix.Index ts =
    bind (inner 1 ts) (λ y us. bind (one (sign_at sign.CloseBracket) us)
    (λ _ vs. give (so_far 8 (tree.Index x.expr y.0) (max x.depth y.1 + 1)) vs))
extend inner x (suffix.Operator o) ts =
    bind (inner (rank o + 1) ts)
    (λ y us. give (so_far (rank o) (tree.Binary o x.expr y.0) (max x.depth y.1 + 1)) us)

abbrev pub passing : Token → Result (Unit {0}) Stop
passing t = Ok tt

abbrev pub deep_at : Token → Result SoFar Stop
deep_at t = Err (at t TooDeep)

-- the suffix's token is passed
abbrev pub extended : Inner → SoFar → Suffix → List Token → Out SoFar
extended inner x s ts = bind (one passing ts) (λ _ us. extend inner x s us)

abbrev pub with_suffix : ℕ → Inner → SoFar → Option Suffix → List Token → Out SoFar
with_suffix limit inner x None ts = give x ts
with_suffix limit inner x (Some s) ts =
    if nat_lt x.depth limit then extended inner x s ts else one deep_at ts

abbrev pub goes_on : ℕ → SoFar → List Token → Bool
goes_on least x ts = is_some (suffix_of (next ts) x.rank least)

abbrev pub next_suffix : ℕ → Inner → ℕ → SoFar → List Token → Out SoFar
next_suffix limit inner least x ts = with_suffix limit inner x (suffix_of (next ts) x.rank least) ts

-- the whole expression of at least that rank that begins with this
abbrev pub continued : ℕ → Inner → ℕ → SoFar → List Token → Out (Expr × ℕ)
continued limit inner least x ts =
    bind (all_of (goes_on least) (next_suffix limit inner least) x ts)
    (λ y us. give (y.expr, y.depth) us)

-- ---- operands

abbrev pub field : Inner → Parts Expr → List Token → Out (Parts Expr)
field inner p ts =
    bind (one word_at ts) (λ w us. bind (one (sign_at sign.Colon) us)
    (λ _ vs. bind (inner 1 vs) (λ x ws. give (with_named_part p w x.0 x.1) ws)))

-- the members of a list so far, with the depth of the deepest
abbrev pub Members : Type 0
Members = List Expr × ℕ

-- the rank of an operator before its operand, and of the operand
abbrev pub prefix_rank : Unary → ℕ
prefix_rank unary.Not = 3
prefix_rank _ = 7

abbrev pub prefix : Inner → Unary → List Token → Out SoFar
prefix inner u ts =
    bind (inner (prefix_rank u) ts)
    (λ x us. give (so_far (prefix_rank u) (tree.Unary u x.0) (x.1 + 1)) us)

-- an argument, and what ends it
abbrev pub argument : Inner → Sign → List Token → Out (Expr × ℕ)
argument inner end ts = bind (inner 1 ts) (λ x us. bind (one (sign_at end) us) (λ _ vs. give x vs))

abbrev pub call : Inner → Unary → List Token → Out SoFar
call inner u ts =
    bind (one (sign_at sign.Open) ts) (λ _ us. bind (argument inner sign.Close us)
    (λ x vs. give (so_far 8 (tree.Unary u x.0) (x.1 + 1)) vs))

abbrev pub concat : Inner → List Token → Out SoFar
concat inner ts =
    bind (one (sign_at sign.Open) ts) (λ _ us. bind (argument inner sign.Comma us)
    (λ x vs. bind (argument inner sign.Close vs) (λ y ws.
    give (so_far 8 (tree.Concat x.0 y.0) (max x.1 y.1 + 1)) ws)))

abbrev pub pick : Inner → List Token → Out SoFar
pick inner ts =
    bind (one (sign_at sign.Open) ts) (λ _ us. bind (argument inner sign.Comma us)
    (λ x vs. bind (argument inner sign.Comma vs) (λ y ws. bind (argument inner sign.Close ws)
    (λ z xs.
    give (so_far 8 (tree.Pick x.0 y.0 z.0) (max (max x.1 y.1) z.1 + 1)) xs))))

-- the expression that begins with this in a parenthesis that has opened
abbrev pub enclosed : ℕ → Inner → SoFar → List Token → Out SoFar
enclosed limit inner x ts =
    bind (continued limit inner 1 x ts) (λ y us. bind (one (sign_at sign.Close) us)
    (λ _ vs. give (so_far 8 y.0 y.1) vs))

-- what is read in so many parentheses
abbrev pub wrapped : ℕ → Inner → ℕ → Out SoFar → Out SoFar
wrapped limit inner zero o = o
wrapped limit inner (suc k) o = wrapped limit inner k (bind o (λ x us. enclosed limit inner x us))

-- in parentheses any expression may stand
abbrev pub least_in : ℕ → ℕ → ℕ
least_in zero least = least
least_in (suc k) least = 1

module _ (limits : Limits) where
  abbrev pub empty : List Token → Out SoFar
  empty ts =
      bind (one (sign_at sign.Less) ts)
      (λ _ us. bind ((whole_type limits) us) (λ x vs. bind (one (sign_at sign.Greater) vs)
      (λ _ ws. give (so_far 8 (tree.Empty x) 1) ws)))

  abbrev pub next_field : Inner → Parts Expr → List Token → Out (Parts Expr)
  next_field inner p ts = bind (one (comma_at (length p.names) limits.fields) ts)
      (λ _ us. field inner p us)

  abbrev pub record_ : Inner → List Token → Out SoFar
  record_ inner ts =
      bind (field inner none ts) (λ p us. bind (all_of at_comma (next_field inner) p us) (λ q vs.
      bind (one (sign_at sign.CloseBrace) vs)
      (λ _ ws. give (so_far 8 (tree.Record q.names q.parts) (q.depth + 1)) ws)))

  abbrev pub next_member : Inner → Members → List Token → Out Members
  next_member inner m ts = bind (one (comma_at (length m.0) limits.members) ts)
      (λ _ us. bind (inner 1 us) (λ x vs. give (m.0 ++ x.0 ∷ [], max m.1 x.1) vs))

  abbrev pub list : Inner → List Token → Out SoFar
  list inner ts =
      bind (inner 1 ts) (λ x us. bind (all_of at_comma (next_member inner) (x.0 ∷ [], x.1) us)
      (λ m vs.
      bind (one (sign_at sign.CloseBracket) vs)
      (λ _ ws. give (so_far 8 (tree.List m.0) (m.1 + 1)) ws)))

  abbrev pub sided : Inner → Side → List Token → Out SoFar
  sided inner s ts =
      bind (one (sign_at sign.Less) ts)
      (λ _ us. bind ((whole_type limits) us) (λ o vs. bind (one (sign_at sign.Greater) vs)
      (λ _ ws. bind (one (sign_at sign.Open) ws) (λ _ xs.
      bind (argument inner sign.Close xs)
      (λ x ys. give (so_far 8 (tree.Side s o x.0) (x.1 + 1)) ys)))))

  abbrev pub after_start : Inner → Start → List Token → Out SoFar
  after_start inner (start.Leaf e) ts = give (so_far 8 e 1) ts
  after_start inner start.Empty ts = empty ts
  after_start inner start.Record ts = record_ inner ts
  after_start inner start.List ts = list inner ts
  after_start inner (start.Side s) ts = sided inner s ts
  after_start inner (start.Prefix u) ts = prefix inner u ts
  after_start inner (start.Call u) ts = call inner u ts
  after_start inner start.Concat ts = concat inner ts
  after_start inner start.Pick ts = pick inner ts

  -- an operand that begins with no parenthesis
  abbrev pub bare : ℕ → Inner → ℕ → List Token → Out SoFar
  bare limit inner least ts =
      bind (one (operand_start limit least) ts) (λ s us. after_start inner s us)

  abbrev pub operand : ℕ → Inner → ℕ → List Token → Out SoFar
  operand limit inner least [] = bare limit inner least []
  operand limit inner least (t ∷ ts) =
      if is_sign sign.Open t.kind then bind (operand limit inner 1 ts)
      (λ x us. enclosed limit inner x us) else bare limit inner least (t ∷ ts)

  -- so many parentheses open here, and then those tokens come, of which the first opens none
  abbrev pub Opens : ℕ → List Token → List Token → Type 0
  Opens n ts us = (limit : ℕ) (inner : Inner) (least : ℕ)
      → operand limit inner least ts ≡ wrapped limit inner n
      (bare limit inner (least_in n least) us)

  -- an expression of at most that depth, whose parts are of less
  abbrev pub expression_layer : ℕ → Inner → Inner
  expression_layer limit inner least ts =
      bind (operand limit inner least ts) (λ x us. continued limit inner least x us)

  unfoldable pub expression_within : ℕ → Inner
  expression_within zero least ts = Err (Fault None TooDeep)
  expression_within (suc n) least ts = expression_layer (suc n) (expression_within n) least ts

-- the parts of an expression that may have that depth
abbrev pub expression_below : ℕ → Inner
expression_below limit = expression_within the_limits (limit - 1)
