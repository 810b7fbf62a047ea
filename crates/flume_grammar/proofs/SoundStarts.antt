-- What an operand began with, by the tokens that were taken.
use Rattle.std.proofs.Common.{◌≡◌, ℕ, nat_lt, List, ◌∷◌, Bool, true, false, not, ◌||◌, Option, Some, None, Ok, Err, if◌then◌else◌, refl, sym, ap, subst}
use Rattle.flume_tokens.specs.declared.token.Token.{Token}
use Rattle.flume_tokens.specs.declared.token.TokenKind.{TokenKind}
use Rattle.flume_tokens.specs.declared.token.TokenKind.TheVariants as kind
use Rattle.flume_tokens.specs.declared.keyword.Keyword.{Keyword}
use Rattle.flume_tokens.specs.declared.keyword.Keyword.TheVariants as keyword
use Rattle.flume_tokens.specs.declared.sign.Sign.{Sign}
use Rattle.flume_tokens.specs.declared.sign.Sign.TheVariants as sign
use Rattle.flume_grammar.specs.declared.fault.ScriptKind.TheVariants.{Syntax, TooDeep}
use Rattle.flume_grammar.specs.declared.start.Start.{Start}
use Rattle.flume_grammar.specs.declared.start.Start.TheVariants as start
use Rattle.flume_grammar.specs.declared.tree.Unary.TheVariants as unary
use Rattle.flume_grammar.specs.declared.tree.Side.TheVariants as side
use Rattle.flume_grammar.specs.declared.tree.Expr.TheVariants as tree
use Rattle.flume_grammar.specs.inner.Out.{at, one}
use Rattle.flume_grammar.specs.inner.Expressions.{keyword_start, sign_start, start_of, fits, is_leaf, started, operand_start, Inner}
use Rattle.flume_grammar.specs.Grammar as g
use Rattle.flume_grammar.specs.Terminals.{keyword_token, mark}
use Rattle.flume_grammar.specs.Grammar.{IsExpr, unary_call, side_keyword}
use Rattle.flume_grammar.proofs.Sound.{one_token}
use Rattle.flume_grammar.specs.Limits.{Limits}
use Rattle.flume_grammar.proofs.Fair.{IsFair}
use Rattle.flume_grammar.proofs.SoundSuffixes.{SoundE}

module _ (limits : Limits) (fair : IsFair limits) where
  module _ (limit : ℕ) (inner : Inner) (h : SoundE limits fair inner) where
    -- ---- operands

    -- how an operand began, with the tokens from there on
    abbrev pub Begun : Start → List Token → List Token → Type 0
    Begun (start.Leaf e) ts us = IsExpr limits 8 ts us e 1
    Begun start.Empty ts us = (n : ℕ) × (ts ≡ keyword_token keyword.Empty n ∷ us)
    Begun start.Record ts us = (n : ℕ) × (ts ≡ mark sign.OpenBrace n ∷ us)
    Begun start.List ts us = (n : ℕ) × (ts ≡ mark sign.OpenBracket n ∷ us)
    Begun (start.Side s) ts us = (k : Keyword) × (n : ℕ) × (side_keyword k ≡ Some s)
        × (ts ≡ keyword_token k n ∷ us)
    Begun (start.Prefix unary.Not) ts us = (n : ℕ) × (ts ≡ keyword_token keyword.Not n ∷ us)
    Begun (start.Prefix unary.Negate) ts us = (n : ℕ) × (ts ≡ mark sign.Minus n ∷ us)
    Begun (start.Prefix u) ts us = ⊥
    Begun (start.Call u) ts us = (k : Keyword) × (n : ℕ) × (unary_call k ≡ Some u)
        × (ts ≡ keyword_token k n ∷ us)
    Begun start.Concat ts us = (n : ℕ) × (ts ≡ keyword_token keyword.Concat n ∷ us)
    Begun start.Pick ts us = (n : ℕ) × (ts ≡ keyword_token keyword.Pick n ∷ us)

    begun_by : (s r : Start) (ts us : List Token) → (let x : Option Start = Some s in x) ≡ Some r
        → Begun s ts us → Begun r ts us
    begun_by s r ts us q h = let e : s ≡ r = cc in subst (λ z. Begun z ts us) e h

    begun_key : (n : ℕ) (k : Keyword) (s : Start) (us : List Token) → keyword_start k ≡ Some s
        → Begun s (keyword_token k n ∷ us) us
    begun_key n keyword.True s us q = begun_by (start.Leaf (tree.Bool true)) s _ us q g.true_
    begun_key n keyword.False s us q = begun_by (start.Leaf (tree.Bool false)) s _ us q g.false_
    begun_key n keyword.Empty s us q = begun_by start.Empty s _ us q (n, refl)
    begun_key n keyword.Not s us q = begun_by (start.Prefix unary.Not) s _ us q (n, refl)
    begun_key n keyword.Left s us q =
        begun_by (start.Side side.Left) s _ us q (keyword.Left, n, refl, refl)
    begun_key n keyword.Right s us q =
        begun_by (start.Side side.Right) s _ us q (keyword.Right, n, refl, refl)
    begun_key n keyword.Concat s us q = begun_by start.Concat s _ us q (n, refl)
    begun_key n keyword.Pick s us q = begun_by start.Pick s _ us q (n, refl)
    begun_key n keyword.Len s us q =
        begun_by (start.Call unary.Len) s _ us q (keyword.Len, n, refl, refl)
    begun_key n keyword.Words s us q =
        begun_by (start.Call unary.Words) s _ us q (keyword.Words, n, refl, refl)
    begun_key n keyword.Text s us q =
        begun_by (start.Call unary.Text) s _ us q (keyword.Text, n, refl, refl)
    begun_key n keyword.Number s us q =
        begun_by (start.Call unary.Number) s _ us q (keyword.Number, n, refl, refl)
    begun_key n _ s us q = cc

    begun_sign : (n : ℕ) (k : Sign) (s : Start) (us : List Token) → sign_start k ≡ Some s
        → Begun s (mark k n ∷ us) us
    begun_sign n sign.OpenBrace s us q = begun_by start.Record s _ us q (n, refl)
    begun_sign n sign.OpenBracket s us q = begun_by start.List s _ us q (n, refl)
    begun_sign n sign.Minus s us q = begun_by (start.Prefix unary.Negate) s _ us q (n, refl)
    begun_sign n _ s us q = cc

    begun_kind : (n : ℕ) (k : TokenKind) (s : Start) (us : List Token) → start_of k ≡ Some s
        → Begun s (record { kind = k; line = n } ∷ us) us
    begun_kind n (kind.Name x) s us q = begun_by (start.Leaf (tree.Name x)) s _ us q g.variable
    begun_kind n (kind.Number x) s us q = begun_by (start.Leaf (tree.Number x)) s _ us q g.num
    begun_kind n (kind.Text x) s us q = begun_by (start.Leaf (tree.Text x)) s _ us q g.textlit
    begun_kind n (kind.Keyword k) s us q = begun_key n k s us q
    begun_kind n (kind.Sign k) s us q = begun_sign n k s us q

    started_inv : (least : ℕ) (t : Token) (o : Option Start) (s : Start)
        → started limit least t o ≡ Ok s → (o ≡ Some s) × (fits s least ≡ true)
    started_inv least t None s q = cc
    started_inv least t (Some r) s q = by (fits r least) (nat_lt 1 limit || is_leaf r) refl q
      where
        by : (a b : Bool) → fits r least ≡ a
            → (if not a then Err (at t Syntax) else if b then Ok r else Err (at t TooDeep)) ≡ Ok s
            → (Some r ≡ Some s) × (fits s least ≡ true)
        by true true e p = let w : r ≡ s = cc in (ap Some w, subst (λ z. fits z least ≡ true) w e)
        by true false e p = cc
        by false b e p = cc

    pub begun : (least : ℕ) (s : Start) (ts us : List Token)
        → one (operand_start limit least) ts ≡ Ok (s, us) → Begun s ts us × (fits s least ≡ true)
    begun least s ts us q =
        let p = one_token (operand_start limit least) ts s us q in
        let i = started_inv least p.token (start_of p.token.kind) s p.gives in
        (subst (λ z. Begun s z us) (sym p.is) (begun_kind p.token.line p.token.kind s us i.0), i.1)
