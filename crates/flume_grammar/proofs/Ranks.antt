-- What may follow an expression of a rank, and what goes on with it.
use Rattle.std.proofs.Common.{◌≡◌, ℕ, ◌≤◌, ◌<◌, nat_le, List, [], ◌∷◌, true, ◌&&◌, Option, Some, None, if◌then◌else◌, refl, ap, ◌∙◌, arith, lit≤}
use Rattle.std.proofs.lemmas.Bool.{le-leb, lt-leb}
use Rattle.flume_tokens.specs.declared.token.Token.{Token}
use Rattle.flume_tokens.specs.declared.token.TokenKind.{TokenKind}
use Rattle.flume_tokens.specs.declared.token.TokenKind.TheVariants as kind
use Rattle.flume_tokens.specs.declared.sign.Sign.{Sign}
use Rattle.flume_tokens.specs.declared.sign.Sign.TheVariants as sign
use Rattle.flume_grammar.specs.declared.parts.Suffix.TheVariants as suffix
use Rattle.flume_grammar.specs.declared.tree.Binary.{Binary}
use Rattle.flume_grammar.specs.declared.tree.Binary.TheVariants as operator
use Rattle.flume_grammar.specs.inner.Out.{next}
use Rattle.flume_grammar.specs.Operators.{operator_of, rank, left_rank}
use Rattle.flume_grammar.specs.inner.Expressions.{operator_suffix, suffix_of}
use Rattle.flume_grammar.specs.Limits.{Limits}
use Rattle.flume_grammar.proofs.Fair.{IsFair}

module _ (limits : Limits) (fair : IsFair limits) where
  -- ---- what may follow an expression of a rank

  abbrev pub OpFits : ℕ → Option Binary → Type 0
  OpFits r None = Unit {0}
  OpFits r (Some o) = left_rank o ≤ r

  abbrev PostFits : ℕ → TokenKind → Type 0
  PostFits r (kind.Sign sign.Dot) = 8 ≤ r
  PostFits r (kind.Sign sign.OpenBracket) = 8 ≤ r
  PostFits r _ = Unit {0}

  abbrev pub Fits : ℕ → List Token → Type 0
  Fits r [] = Unit {0}
  Fits r (t ∷ us) = OpFits r (operator_of t.kind) × PostFits r t.kind

  op_up : (r s : ℕ) (o : Option Binary) → r ≤ s → OpFits r o → OpFits s o
  op_up r s None h f = tt
  op_up r s (Some o) h f = omega (arith, h, f)

  post_up_sign : (r s : ℕ) (k : Sign) → r ≤ s → PostFits r (kind.Sign k) → PostFits s (kind.Sign k)
  post_up_sign r s sign.Dot h f = omega (arith, h, f)
  post_up_sign r s sign.OpenBracket h f = omega (arith, h, f)
  post_up_sign r s _ h f = tt

  post_up : (r s : ℕ) (k : TokenKind) → r ≤ s → PostFits r k → PostFits s k
  post_up r s (kind.Sign k) h f = post_up_sign r s k h f
  post_up r s (kind.Keyword k) h f = tt
  post_up r s (kind.Name k) h f = tt
  post_up r s (kind.Number k) h f = tt
  post_up r s (kind.Text k) h f = tt

  pub fits_up : (r s : ℕ) (us : List Token) → r ≤ s → Fits r us → Fits s us
  fits_up r s [] h f = tt
  fits_up r s (t ∷ us) h (a, b) = (op_up r s (operator_of t.kind) h a, post_up r s t.kind h b)

  pub rank_left : (o : Binary) → rank o ≤ left_rank o
  rank_left operator.Or = lit≤ tt
  rank_left _ = lit≤ tt

  pub rank_high : (o : Binary) → (1 ≤ rank o) × (rank o ≤ 6)
  rank_high operator.Or = (lit≤ tt, lit≤ tt)
  rank_high _ = (lit≤ tt, lit≤ tt)

  pub under_not : (o : Binary) → left_rank o ≤ 3 → rank o < 3
  under_not operator.Or h = lit≤ tt
  under_not operator.And h = lit≤ tt
  under_not _ h = omega (arith, h)

  -- what an operand of an operator that fits stops at
  module _ (r least : ℕ) (low : r ≤ 7) (under : (o : Binary) → left_rank o ≤ r
      → rank o < least) where
    op_stops : (own : ℕ) (o : Option Binary) → OpFits r o → operator_suffix o own least ≡ None
    op_stops own None f = refl
    op_stops own (Some o) f =
        ap (λ b. if b && nat_le (left_rank o) own then Some (suffix.Operator o) else None)
        (lt-leb least (rank o) (under o f))

    sign_stops : (own : ℕ) (k : Sign) → OpFits r (operator_of (kind.Sign k))
        → PostFits r (kind.Sign k) → suffix_of (Some (kind.Sign k)) own least ≡ None
    sign_stops own sign.Dot f h = absurd (omega (arith, h, low))
    sign_stops own sign.OpenBracket f h = absurd (omega (arith, h, low))
    sign_stops own k f h = op_stops own (operator_of (kind.Sign k)) f

    kind_stops : (own : ℕ) (k : TokenKind) → OpFits r (operator_of k) → PostFits r k
        → suffix_of (Some k) own least ≡ None
    kind_stops own (kind.Sign k) f h = sign_stops own k f h
    kind_stops own (kind.Keyword k) f h = op_stops own (operator_of (kind.Keyword k)) f
    kind_stops own (kind.Name k) f h = refl
    kind_stops own (kind.Number k) f h = refl
    kind_stops own (kind.Text k) f h = refl

    pub stops : (own : ℕ) (us : List Token) → Fits r us → suffix_of (next us) own least ≡ None
    stops own [] f = refl
    stops own (t ∷ us) f = kind_stops own t.kind f.0 f.1

  op_goes : (o : Binary) (own least : ℕ) (m : Option Binary) → m ≡ Some o → least ≤ rank o
      → left_rank o ≤ own → operator_suffix m own least ≡ Some (suffix.Operator o)
  op_goes o own least m e h k =
      ap (λ z. operator_suffix z own least) e
      ∙ ap (λ b. if b && nat_le (left_rank o) own then Some (suffix.Operator o) else None)
      (le-leb least (rank o) h)
      ∙ ap (λ b. if true && b then Some (suffix.Operator o) else None) (le-leb (left_rank o) own k)

  sign_goes : (o : Binary) (own least : ℕ) (k : Sign) → operator_of (kind.Sign k) ≡ Some o
      → least ≤ rank o → left_rank o ≤ own
      → suffix_of (Some (kind.Sign k)) own least ≡ Some (suffix.Operator o)
  sign_goes o own least sign.Dot e h l = cc
  sign_goes o own least sign.OpenBracket e h l = cc
  sign_goes o own least k e h l = op_goes o own least (operator_of (kind.Sign k)) e h l

  pub goes : (o : Binary) (own least : ℕ) (k : TokenKind) → operator_of k ≡ Some o → least ≤ rank o
      → left_rank o ≤ own → suffix_of (Some k) own least ≡ Some (suffix.Operator o)
  goes o own least (kind.Sign k) e h l = sign_goes o own least k e h l
  goes o own least (kind.Keyword k) e h l = op_goes o own least (operator_of (kind.Keyword k)) e h l
  goes o own least (kind.Name k) e h l = cc
  goes o own least (kind.Number k) e h l = cc
  goes o own least (kind.Text k) e h l = cc

  sign_no_post : (r : ℕ) (o : Binary) (k : Sign) → operator_of (kind.Sign k) ≡ Some o
      → PostFits r (kind.Sign k)
  sign_no_post r o sign.Dot e = cc
  sign_no_post r o sign.OpenBracket e = cc
  sign_no_post r o _ e = tt

  pub no_post : (r : ℕ) (o : Binary) (k : TokenKind) → operator_of k ≡ Some o → PostFits r k
  no_post r o (kind.Sign k) e = sign_no_post r o k e
  no_post r o (kind.Keyword k) e = tt
  no_post r o (kind.Name k) e = tt
  no_post r o (kind.Number k) e = tt
  no_post r o (kind.Text k) e = tt
