-- Bodies of functions.
use Rattle.std.specs.Prelude.{ℕ, zero, suc, ◌+◌, ◌-◌, max, nat_le, is_some, List, [], ◌∷◌, ◌++◌, Bool, false, if◌then◌else◌, Option, Some, None, Result, Ok, Err}
use Rattle.flume_tokens.specs.declared.keyword.Keyword.{Keyword}
use Rattle.flume_tokens.specs.declared.keyword.Keyword.TheVariants as keyword
use Rattle.flume_tokens.specs.declared.sign.Sign.TheVariants as sign
use Rattle.flume_tokens.specs.declared.token.Token.{Token}
use Rattle.flume_tokens.specs.declared.token.TokenKind.{TokenKind}
use Rattle.flume_grammar.specs.declared.start.BodyStart.{BodyStart}
use Rattle.flume_grammar.specs.declared.start.BodyStart.TheVariants as start
use Rattle.flume_grammar.specs.declared.fault.ScriptKind.TheVariants.{Syntax, TooDeep}
use Rattle.flume_grammar.specs.declared.fault.Stop.{Stop}
use Rattle.flume_grammar.specs.declared.fault.Stop.TheVariants.{Fault}
use Rattle.flume_grammar.specs.declared.tree.Expr.{Expr}
use Rattle.flume_grammar.specs.declared.tree.Body.{Body}
use Rattle.flume_grammar.specs.declared.tree.Body.TheVariants as tree
use Rattle.flume_grammar.specs.inner.Out.{Out, give, bind, no_deeper, at, one, next, all_of}
use Rattle.flume_grammar.specs.inner.Reading.{sign_at, keyword_at, name_at, is_at_keyword, of_keyword, numbered}
use Rattle.flume_grammar.specs.inner.Expressions.{expression_within}
use Rattle.flume_grammar.specs.Limits.{Limits, the_limits}

abbrev pub keyword_body : Keyword → Option BodyStart
keyword_body keyword.Let = Some start.Let
keyword_body keyword.Emit = Some start.Emit
keyword_body keyword.If = Some start.If
keyword_body keyword.For = Some start.For
keyword_body keyword.Case = Some start.Case
keyword_body _ = None

abbrev pub begins_body : Option TokenKind → Bool
begins_body (Some k) = is_some (of_keyword keyword_body k)
begins_body None = false

abbrev pub started : ℕ → Token → Option BodyStart → Result (BodyStart × ℕ) Stop
started limit t (Some s) = if nat_le 2 limit then Ok (s, t.line) else Err (at t TooDeep)
started limit t None = Err (at t Syntax)

-- a statement is at least two deep
abbrev pub body_start : ℕ → Token → Result (BodyStart × ℕ) Stop
body_start limit t = started limit t (of_keyword keyword_body t.kind)

-- statements with the depth of the deepest
abbrev pub Block : Type 0
Block = List Body × ℕ

-- what stands after `else`
abbrev pub otherwise : (List Token → Out Block) → List Token → Out Block
otherwise inner ts = if is_at_keyword keyword.Else (next ts) then bind
    (one (keyword_at keyword.Else) ts) (λ _ us. inner us) else give ([], 0) ts

-- a side of a case: its name and its block
abbrev pub side : (List Token → Out Block) → Keyword → List Token → Out (List ℕ × List Body × ℕ)
side inner k ts =
    bind (one (keyword_at k) ts)
    (λ _ us. bind (one name_at us) (λ x vs. bind (inner vs) (λ b ws. give (x, b.0, b.1) ws)))

abbrev pub at_body : Block → List Token → Bool
at_body b ts = begins_body (next ts)

module _ (limits : Limits) where
  -- an expression in a statement of at most that depth
  abbrev pub value : ℕ → List Token → Out (Expr × ℕ)
  value limit ts = (expression_within limits) (limit - 1) 1 ts

  abbrev pub let_body : ℕ → ℕ → List Token → Out (Body × ℕ)
  let_body limit line ts =
      bind (one name_at ts) (λ x us. bind (one (sign_at sign.Assign) us)
      (λ _ vs. bind (value limit vs) (λ e ws. give (tree.Let line x e.0, e.1 + 1) ws)))

  abbrev pub emit_body : ℕ → ℕ → List Token → Out (Body × ℕ)
  emit_body limit line ts =
      bind (numbered keyword.To ts)
      (λ o us. bind (value limit us) (λ e vs. give (tree.Emit line o e.0, e.1 + 1) vs))

  abbrev pub if_body : ℕ → (List Token → Out Block) → ℕ → List Token → Out (Body × ℕ)
  if_body limit inner line ts =
      bind (value limit ts)
      (λ e us. bind (inner us)
      (λ b vs. bind (otherwise inner vs)
      (λ c ws. give (tree.If line e.0 b.0 c.0, max (max e.1 b.1) c.1 + 1) ws)))

  abbrev pub for_body : ℕ → (List Token → Out Block) → ℕ → List Token → Out (Body × ℕ)
  for_body limit inner line ts =
      bind (one name_at ts) (λ x us. bind (one (keyword_at keyword.In) us)
      (λ _ vs. bind (value limit vs) (λ e ws. bind (inner ws) (λ b xs.
      give (tree.For line x e.0 b.0, max e.1 b.1 + 1) xs))))

  abbrev pub case_body : ℕ → (List Token → Out Block) → ℕ → List Token → Out (Body × ℕ)
  case_body limit inner line ts =
      bind (value limit ts) (λ e us. bind (side inner keyword.Left us)
      (λ l vs. bind (side inner keyword.Right vs) (λ r ws.
      give (tree.Case line e.0 l.0 l.1 r.0 r.1, max (max e.1 l.2) r.2 + 1) ws)))

  abbrev pub after_start : ℕ → (List Token → Out Block) → BodyStart → ℕ → List Token
      → Out (Body × ℕ)
  after_start limit inner start.Let line ts = let_body limit line ts
  after_start limit inner start.Emit line ts = emit_body limit line ts
  after_start limit inner start.If line ts = if_body limit inner line ts
  after_start limit inner start.For line ts = for_body limit inner line ts
  after_start limit inner start.Case line ts = case_body limit inner line ts

  -- a statement of at most that depth
  abbrev pub body : ℕ → (List Token → Out Block) → List Token → Out (Body × ℕ)
  body limit inner ts =
      bind (one (body_start limit) ts) (λ s us. after_start limit inner s.0 s.1 us)

  abbrev pub next_body : ℕ → (List Token → Out Block) → Block → List Token → Out Block
  next_body limit inner b ts =
      bind (body limit inner ts) (λ x us. give (b.0 ++ x.0 ∷ [], max b.1 x.1) us)

  abbrev pub block_layer : ℕ → (List Token → Out Block) → List Token → Out Block
  block_layer limit inner ts =
      bind (one (sign_at sign.OpenBrace) ts)
      (λ _ us. bind (all_of at_body (next_body limit inner) ([], 0) us) (λ b vs.
      bind (one (sign_at sign.CloseBrace) vs) (λ _ ws. give b ws)))

  -- a block whose statements have at most that depth
  unfoldable pub block_within : ℕ → List Token → Out Block
  block_within zero ts = Err (Fault None TooDeep)
  block_within (suc n) ts = block_layer (suc n) (block_within n) ts

  -- a function's body is at most 32 deep
  abbrev pub whole_block : List Token → Out (List Body)
  whole_block ts = bind (block_within limits.depth ts) (no_deeper limits.depth)

-- the blocks of a statement that may have that depth
abbrev pub block_below : ℕ → List Token → Out Block
block_below limit = block_within the_limits (limit - 1)
