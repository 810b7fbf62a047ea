-- Operands and expressions that are read are in the grammar.
use Rattle.std.proofs.Common.{◌≡◌, ℕ, zero, suc, ◌+◌, ◌≤◌, List, [], ◌∷◌, Bool, true, false, Ok, if◌then◌else◌, refl, sym, subst, arith, lit≤}
use Rattle.std.proofs.lemmas.Bool.{leb-true}
use Rattle.flume_tokens.specs.declared.token.Token.{Token}
use Rattle.flume_tokens.specs.declared.token.TokenKind.TheVariants as kind
use Rattle.flume_tokens.specs.declared.keyword.Keyword.TheVariants as keyword
use Rattle.flume_tokens.specs.declared.sign.Sign.TheVariants as sign
use Rattle.flume_grammar.specs.declared.start.Start.{Start}
use Rattle.flume_grammar.specs.declared.start.Start.TheVariants as start
use Rattle.flume_grammar.specs.declared.parts.SoFar.{SoFar}
use Rattle.flume_grammar.specs.declared.tree.Unary.TheVariants as unary
use Rattle.flume_grammar.specs.declared.tree.Expr.TheVariants as tree
use Rattle.flume_grammar.specs.inner.Out.{bind, one}
use Rattle.flume_grammar.specs.inner.Reading.{is_sign}
use Rattle.flume_grammar.specs.inner.Expressions.{fits, operand_start, so_far, Inner, continued, after_start, bare, enclosed, operand, expression_layer, expression_within}
use Rattle.flume_grammar.specs.Grammar as g
use Rattle.flume_grammar.specs.Terminals.{keyword_token, mark}
use Rattle.flume_grammar.specs.Grammar.{IsExpr}
use Rattle.flume_grammar.proofs.Sound.{Bound, bound, gave}
use Rattle.flume_grammar.proofs.SoundTokens.{past_sign, sign_kind}
use Rattle.flume_grammar.specs.Limits.{Limits}
use Rattle.flume_grammar.proofs.Fair.{IsFair}
use Rattle.flume_grammar.proofs.SoundSuffixes.{SoundE, IsSoFar, so_moved, token_is, s_continued}
use Rattle.flume_grammar.proofs.SoundStarts.{Begun, begun}
use Rattle.flume_grammar.proofs.SoundParts.{s_record, s_list, s_empty, s_sided, s_call, s_concat, s_pick}

module _ (limits : Limits) (fair : IsFair limits) where
  module _ (limit : ℕ) (inner : Inner) (h : SoundE limits fair inner) where
    least_8 : (least : ℕ) (ts vs us : List Token) (x : SoFar) → least ≤ 7 → ts ≡ vs
        → IsSoFar limits fair 8 vs us x → IsSoFar limits fair least ts us x
    least_8 least ts vs us x l e (i, m) =
        (subst (λ z. IsExpr limits x.rank z us x.expr x.depth) (sym e) i, omega (arith, l, m))

    s_after : (least : ℕ) (s : Start) (ts vs : List Token) (x : SoFar) (us : List Token) → least ≤ 7
        → fits s least ≡ true → Begun limits fair limit inner h s ts vs → after_start limits inner s
        vs ≡ Ok (x, us)
        → IsSoFar limits fair least ts us x
    s_after least (start.Leaf e) ts vs x us l f w q = let v = gave (so_far 8 e 1) x vs us q in
        so_moved limits fair least ts ts vs us (so_far 8 e 1) x refl v.1 v.0 (w, omega (arith, l))
    s_after least start.Empty ts vs x us l f (n, e) q =
        least_8 least ts _ us x l e (s_empty limits fair limit inner h n vs x us q)
    s_after least start.Record ts vs x us l f (n, e) q =
        least_8 least ts _ us x l e (s_record limits fair limit inner h n vs x us q)
    s_after least start.List ts vs x us l f (n, e) q =
        least_8 least ts _ us x l e (s_list limits fair limit inner h n vs x us q)
    s_after least (start.Side s) ts vs x us l f (k, n, d, e) q =
        least_8 least ts _ us x l e (s_sided limits fair limit inner h k s d n vs x us q)
    s_after least (start.Prefix unary.Not) ts vs x us l f (n, e) q =
        let a = bound (inner 3 vs) _ x us q in
        let y = so_far 3 (tree.Unary unary.Not a.got.0) (a.got.1 + 1) in
        let v = gave y x a.rest us a.after in
        so_moved limits fair least (keyword_token keyword.Not n ∷ vs) ts a.rest us y x e v.1 v.0
        (g.not_ (h 3 vs a.got a.rest (lit≤ tt) a.part), leb-true least 3 f)
    s_after least (start.Prefix unary.Negate) ts vs x us l f (n, e) q =
        let a = bound (inner 7 vs) _ x us q in
        let y = so_far 7 (tree.Unary unary.Negate a.got.0) (a.got.1 + 1) in
        let v = gave y x a.rest us a.after in
        so_moved limits fair least (mark sign.Minus n ∷ vs) ts a.rest us y x e v.1 v.0
        (g.negate (h 7 vs a.got a.rest (lit≤ tt) a.part), l)
    s_after least (start.Prefix u) ts vs x us l f w q = absurd w
    s_after least (start.Call u) ts vs x us l f (k, n, d, e) q =
        least_8 least ts _ us x l e (s_call limits fair limit inner h k u d n vs x us q)
    s_after least start.Concat ts vs x us l f (n, e) q =
        least_8 least ts _ us x l e (s_concat limits fair limit inner h n vs x us q)
    s_after least start.Pick ts vs x us l f (n, e) q =
        least_8 least ts _ us x l e (s_pick limits fair limit inner h n vs x us q)

    s_bare : (least : ℕ) (ts : List Token) (x : SoFar) (us : List Token) → least ≤ 7
        → bare limits limit inner least ts ≡ Ok (x, us) → IsSoFar limits fair least ts us x
    s_bare least ts x us l q =
        let a = bound (one (operand_start limit least) ts) _ x us q in
        let b = begun limits fair limit inner h least a.got ts a.rest a.part in
        s_after least a.got ts a.rest x us l b.1 b.0 a.after

    s_enclosed : (n : ℕ) (ts : List Token) (x : SoFar) (vs : List Token) (y : SoFar)
        (us : List Token) → IsSoFar limits fair 1 ts vs x → enclosed limit inner x vs ≡ Ok (y, us)
        → IsSoFar limits fair 8 (mark sign.Open n ∷ ts) us y
    s_enclosed n ts x vs y us e q =
        let a = bound (continued limit inner 1 x vs) _ y us q in
        let b = past_sign sign.Close a.rest _ y us a.after in
        let v = gave (so_far 8 a.got.0 a.got.1) y b.rest us b.after in
        let w : (IsExpr limits) 1 ts (mark sign.Close b.line ∷ b.rest) a.got.0 a.got.1 = subst
        (λ z. (IsExpr limits) 1 ts z a.got.0 a.got.1) b.is
        (s_continued limits fair limit inner h 1 ts x vs a.got a.rest (lit≤ tt) e a.part) in
        so_moved limits fair 8 _ _ b.rest us (so_far 8 a.got.0 a.got.1) y refl v.1 v.0
        (g.paren w, lit≤ tt)

    opened_or : (b : Bool) (ts : List Token) (least : ℕ) (t : Token) (x : SoFar) (us : List Token)
        (P : Type 0)
        → (if b then bind (operand limits limit inner 1 ts) (λ y vs. enclosed limit inner y vs)
        else (bare limits) limit inner least (t ∷ ts)) ≡ Ok (x, us)
        → (b ≡ true
        → Bound (operand limits limit inner 1 ts) (λ y vs. enclosed limit inner y vs) x us
        → P) → (bare limits limit inner least (t ∷ ts) ≡ Ok (x, us) → P) → P
    opened_or true ts least t x us P q h g =
        h refl (bound (operand limits limit inner 1 ts) (λ y vs. enclosed limit inner y vs) x us
        q)
    opened_or false ts least t x us P q h g = g q

    s_operand : (ts : List Token) (least : ℕ) (x : SoFar) (us : List Token) → least ≤ 7
        → operand limits limit inner least ts ≡ Ok (x, us) → IsSoFar limits fair least ts us x
    s_operand [] least x us l q = s_bare least [] x us l q
    s_operand (t ∷ ts) least x us l q =
        opened_or (is_sign sign.Open t.kind) ts least t x us (IsSoFar limits fair least (t ∷ ts) us
        x) q
        (λ e a. least_8 least (t ∷ ts) _ us x l
        (token_is limits fair t (kind.Sign sign.Open) ts (sign_kind sign.Open t.kind e))
        (s_enclosed t.line ts a.got a.rest x us (s_operand ts 1 a.got a.rest (lit≤ tt) a.part)
        a.after))
        (λ p. s_bare least (t ∷ ts) x us l p)

    s_layer : SoundE limits fair (expression_layer limits limit inner)
    s_layer r ts x us l q =
        let a = bound (operand limits limit inner r ts) _ x us q in
        s_continued limits fair limit inner h r ts a.got a.rest x us (omega (arith, l))
        (s_operand ts r a.got a.rest l a.part)
        a.after

  pub sound_expression : (n : ℕ) → SoundE limits fair (expression_within limits n)
  unfolding expression_within
  sound_expression zero r ts x us l q = cc
  sound_expression (suc n) r ts x us l q =
      s_layer (suc n) (expression_within limits n) (sound_expression n) r ts x us l q
