-- An expression takes a token at least, which is not `to`, and is one deep at least.
use Rattle.std.proofs.Common.{◌≡◌, ℕ, ◌≤◌, ◌<◌, length, List, false, Some, refl, arith}
use Rattle.flume_tokens.specs.declared.token.Token.{Token}
use Rattle.flume_tokens.specs.declared.keyword.Keyword.{Keyword}
use Rattle.flume_tokens.specs.declared.keyword.Keyword.TheVariants as keyword
use Rattle.flume_grammar.specs.declared.parts.Parts.{Parts}
use Rattle.flume_grammar.specs.declared.tree.Side.{Side}
use Rattle.flume_grammar.specs.declared.tree.Unary.{Unary}
use Rattle.flume_grammar.specs.declared.tree.Expr.{Expr}
use Rattle.flume_grammar.specs.inner.Out.{next}
use Rattle.flume_grammar.specs.inner.Reading.{same_keyword, is_at_keyword}
use Rattle.flume_grammar.specs.Grammar as g
use Rattle.flume_grammar.specs.Grammar.{IsExpr, AreFields, AreMembers, unary_call, side_keyword}
use Rattle.flume_grammar.proofs.Complete.{shorter_type}
use Rattle.flume_grammar.specs.Limits.{Limits}
use Rattle.flume_grammar.proofs.Fair.{IsFair}

side_no_to : (k : Keyword) (s : Side) → side_keyword k ≡ Some s → same_keyword k keyword.To ≡ false
side_no_to keyword.Left s q = refl
side_no_to keyword.Right s q = refl
side_no_to _ s q = cc

call_no_to : (k : Keyword) (u : Unary) → unary_call k ≡ Some u → same_keyword k keyword.To ≡ false
call_no_to keyword.Len u q = refl
call_no_to keyword.Words u q = refl
call_no_to keyword.Text u q = refl
call_no_to keyword.Number u q = refl
call_no_to _ u q = cc

module _ (limits : Limits) (fair : IsFair limits) where
  -- ---- what is read takes a token, and is at least one deep

  mutual
    pub shorter : {r a : ℕ} {ts us : List Token} {e : Expr} → IsExpr limits r ts us e a
        → length us < length ts
    shorter (g.above x) = shorter x
    shorter (g.binary k x y) = let h = shorter x in let i = shorter y in omega (arith, h, i)
    shorter (g.not_ x) = let h = shorter x in omega (arith, h)
    shorter (g.negate x) = let h = shorter x in omega (arith, h)
    shorter (g.field x w) = let h = shorter x in omega (arith, h)
    shorter (g.index x y) = let h = shorter x in let i = shorter y in omega (arith, h, i)
    shorter (g.paren x) = let h = shorter x in omega (arith, h)
    shorter (g.literal f l) = let h = shorter_fields f in omega (arith, h)
    shorter (g.members f l) = let h = shorter_members f in omega (arith, h)
    shorter (g.empty w) = let h = (shorter_type limits fair) w.spelled in omega (arith, h)
    shorter (g.sided k w x) = let h = (shorter_type limits fair) w.spelled in let i = shorter x in
        omega (arith, h, i)
    shorter (g.call k x) = let h = shorter x in omega (arith, h)
    shorter (g.concat x y) = let h = shorter x in let i = shorter y in omega (arith, h, i)
    shorter (g.pick x y z) = let h = shorter x in let i = shorter y in let j = shorter z in
        omega (arith, h, i, j)
    shorter _ = omega arith

    shorter_fields : {ts us : List Token} {p : Parts Expr} → AreFields limits ts us p
        → length us < length ts
    shorter_fields (g.first w x) = let h = shorter x in omega (arith, h)
    shorter_fields (g.next f w x) = let h = shorter_fields f in let i = shorter x in
        omega (arith, h, i)

    shorter_members : {a : ℕ} {ts us : List Token} {es : List Expr} → AreMembers limits ts us es a
        → length us < length ts
    shorter_members (g.one x) = shorter x
    shorter_members (g.more f x) = let h = shorter_members f in let i = shorter x in
        omega (arith, h, i)

  mutual
    pub positive : {r a : ℕ} {ts us : List Token} {e : Expr} → IsExpr limits r ts us e a → 1 ≤ a
    positive (g.above x) = positive x
    positive (g.paren x) = positive x
    positive _ = omega arith

    pub positive_fields : {ts us : List Token} {p : Parts Expr} → AreFields limits ts us p
        → 1 ≤ p.depth
    positive_fields (g.first w x) = let h = positive x in omega (arith, h)
    positive_fields (g.next f w x) = let h = positive x in omega (arith, h)

    pub positive_members : {a : ℕ} {ts us : List Token} {es : List Expr}
        → AreMembers limits ts us es a → 1 ≤ a
    positive_members (g.one x) = positive x
    positive_members (g.more f x) = let h = positive x in omega (arith, h)

  -- no expression begins with `to`
  pub no_to : {r a : ℕ} {ts us : List Token} {e : Expr} → IsExpr limits r ts us e a
      → is_at_keyword keyword.To (next ts) ≡ false
  no_to (g.above x) = no_to x
  no_to (g.binary o x y) = no_to x
  no_to (g.field x w) = no_to x
  no_to (g.index x y) = no_to x
  no_to (g.sided {k} {s} e w x) = side_no_to k s e
  no_to (g.call {k} {u} e x) = call_no_to k u e
  no_to _ = refl
