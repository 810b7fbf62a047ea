-- Pieces of expressions that are read by themselves.
use Rattle.std.specs.Prelude.{ℕ, ◌+◌, List}
use Rattle.flume_tokens.specs.declared.sign.Sign.TheVariants.{Close, CloseBrace, CloseBracket, Greater, Less, Open}
use Rattle.flume_tokens.specs.declared.token.Token.{Token}
use Rattle.flume_grammar.specs.declared.parts.Parts.{Parts}
use Rattle.flume_grammar.specs.declared.parts.SoFar.{SoFar}
use Rattle.flume_grammar.specs.declared.tree.Expr.{Expr}
use Rattle.flume_grammar.specs.declared.tree.Expr.TheVariants as tree
use Rattle.flume_grammar.specs.declared.tree.Side.{Side}
use Rattle.flume_grammar.specs.Limits.{the_limits}
use Rattle.flume_grammar.specs.Parts.{Tree}
use Rattle.flume_grammar.specs.inner.Out.{Out, give, bind, one}
use Rattle.flume_grammar.specs.inner.Reading.{comma_at, sign_at, word_at}
use Rattle.flume_grammar.specs.inner.Types.{whole_type}
use Rattle.flume_grammar.specs.inner.Expressions.{Inner, Members, argument, so_far}

-- so many parts that were read, where a comma and a part may follow
abbrev pub after_comma : {A : Type 0} → ℕ → ℕ → A → List Token → Out A
after_comma parts limit a ts = bind (one (comma_at parts limit) ts) (λ _ us. give a us)

-- the field, whose name comes here, of an expression of that depth
abbrev pub with_field : Expr → ℕ → List Token → Out SoFar
with_field left depth ts =
    bind (one word_at ts) (λ w us. give (so_far 8 (tree.Field left w) (depth + 1)) us)

-- an expression of that depth, where its parenthesis closes
abbrev pub closed : Expr × ℕ → List Token → Out SoFar
closed x ts = bind (one (sign_at Close) ts) (λ _ us. give (so_far 8 x.0 x.1) us)

-- the record of these fields, where it ends
abbrev pub recorded : Parts Expr → List Token → Out SoFar
recorded p ts =
    bind (one (sign_at CloseBrace) ts)
    (λ _ us. give (so_far 8 (tree.Record p.names p.parts) (p.depth + 1)) us)

-- the list of these members, where it ends
abbrev pub listed : Members → List Token → Out SoFar
listed m ts =
    bind (one (sign_at CloseBracket) ts)
    (λ _ us. give (so_far 8 (tree.List m.0) (m.1 + 1)) us)

-- `<T>(`, which is the type
abbrev pub other_side : List Token → Out Tree
other_side ts =
    bind (one (sign_at Less) ts)
    (λ _ us. bind (whole_type the_limits us) (λ o vs. bind (one (sign_at Greater) vs)
    (λ _ ws. bind (one (sign_at Open) ws) (λ _ xs. give o xs))))

-- a side, of which the other has that type
abbrev pub of_side : Inner → Side → Tree → List Token → Out SoFar
of_side inner s o ts =
    bind (argument inner Close ts) (λ x us. give (so_far 8 (tree.Side s o x.0) (x.1 + 1)) us)

abbrev pub sided : Inner → Side → List Token → Out SoFar
sided inner s ts = bind (other_side ts) (λ o us. of_side inner s o us)
