-- What goes on with an expression that is read is in the grammar.
use Rattle.std.proofs.Common.{◌≡◌, ℕ, zero, suc, ◌+◌, ◌-◌, ◌≤◌, max, nat_lt, nat_le, List, [], ◌∷◌, Bool, true, false, ◌&&◌, ◌==◌, Option, Some, None, Ok, if◌then◌else◌, refl, sym, ap, subst, arith, lit≤}
use Rattle.std.proofs.lemmas.Bool.{leb-true, eqb-true}
use Rattle.flume_tokens.specs.declared.token.Token.{Token}
use Rattle.flume_tokens.specs.declared.token.TokenKind.{TokenKind}
use Rattle.flume_tokens.specs.declared.token.TokenKind.TheVariants as kind
use Rattle.flume_tokens.specs.declared.sign.Sign.{Sign}
use Rattle.flume_tokens.specs.declared.sign.Sign.TheVariants as sign
use Rattle.flume_grammar.specs.declared.parts.SoFar.{SoFar}
use Rattle.flume_grammar.specs.declared.parts.Suffix.{Suffix}
use Rattle.flume_grammar.specs.declared.parts.Suffix.TheVariants as suffix
use Rattle.flume_grammar.specs.declared.tree.Binary.{Binary}
use Rattle.flume_grammar.specs.declared.tree.Binary.TheVariants as operator
use Rattle.flume_grammar.specs.declared.tree.Expr.{Expr}
use Rattle.flume_grammar.specs.declared.tree.Expr.TheVariants as tree
use Rattle.flume_grammar.specs.inner.Out.{one, all_of}
use Rattle.flume_grammar.specs.inner.Reading.{word_at}
use Rattle.flume_grammar.specs.Operators.{operator_of, rank, left_rank}
use Rattle.flume_grammar.specs.inner.Expressions.{so_far, operator_suffix, suffix_of, Inner, extend, passing, deep_at, extended, with_suffix, goes_on, next_suffix, continued}
use Rattle.flume_grammar.specs.Grammar as g
use Rattle.flume_grammar.specs.Terminals.{mark}
use Rattle.flume_grammar.specs.Grammar.{IsExpr}
use Rattle.flume_grammar.proofs.Sound.{bound, gave, one_token}
use Rattle.flume_grammar.proofs.SoundTokens.{past_sign, word_read}
use Rattle.flume_grammar.proofs.SoundLoops.{kept_all}
use Rattle.flume_grammar.specs.Limits.{Limits}
use Rattle.flume_grammar.proofs.Fair.{IsFair}

module _ (limits : Limits) (fair : IsFair limits) where
  downs : {ts us : List Token} {e : Expr} {a : ℕ} (n p r : ℕ) → p + n ≡ r
      → IsExpr limits r ts us e a → IsExpr limits p ts us e a
  downs {ts} {us} {e} {a} zero p r q x = let w : r ≡ p = omega arith in
      subst (λ z. (IsExpr limits) z ts us e a) w x
  downs {ts} {us} {e} {a} (suc n) p r q x = g.above (downs n (p + 1) r (omega arith) x)

  -- an expression of a rank is one of each rank below
  down : {ts us : List Token} {e : Expr} {a : ℕ} (p r : ℕ) → p ≤ r → IsExpr limits r ts us e a
      → IsExpr limits p ts us e a
  down p r h x = downs (r - p) p r (omega arith) x

  rank_most : (o : Binary) → rank o + 1 ≤ 7
  rank_most operator.Or = lit≤ tt
  rank_most _ = lit≤ tt

  abbrev pub SoundE : Inner → Type 0
  SoundE p = (r : ℕ) (ts : List Token) (x : Expr × ℕ) (us : List Token) → r ≤ 7
      → p r ts ≡ Ok (x, us) → IsExpr limits r ts us x.0 x.1

  -- what is read of an expression that is to have at least that rank
  abbrev pub IsSoFar : ℕ → List Token → List Token → SoFar → Type 0
  IsSoFar least ts us x = IsExpr limits x.rank ts us x.expr x.depth × (least ≤ x.rank)

  pub moved : (ts ts' us us' : List Token) (x y : Expr × ℕ) (r : ℕ) → ts' ≡ ts → us ≡ us' → x ≡ y
      → IsExpr limits r ts us x.0 x.1 → IsExpr limits r ts' us' y.0 y.1
  moved ts ts' us us' x y r a b c h = subst (λ z. (IsExpr limits) r ts' us' z.0 z.1) c
      (subst (λ z. (IsExpr limits) r ts' z x.0 x.1) b (subst (λ z. (IsExpr limits) r z us x.0 x.1)
      (sym a) h))

  pub so_moved : (least : ℕ) (ts ts' us us' : List Token) (x y : SoFar) → ts' ≡ ts → us ≡ us'
      → x ≡ y
      → IsSoFar least ts us x → IsSoFar least ts' us' y
  so_moved least ts ts' us us' x y a b c h =
      subst (IsSoFar least ts' us') c
      (subst (λ z. IsSoFar least ts' z x) b (subst (λ z. IsSoFar least z us x) (sym a) h))

  -- ---- suffixes

  abbrev SuffixIs : Suffix → TokenKind → ℕ → ℕ → Type 0
  SuffixIs suffix.Field k own least = (k ≡ kind.Sign sign.Dot) × (own ≡ 8)
  SuffixIs suffix.Index k own least = (k ≡ kind.Sign sign.OpenBracket) × (own ≡ 8)
  SuffixIs (suffix.Operator o) k own least = (operator_of k ≡ Some o) × (least ≤ rank o)
      × (left_rank o ≤ own)

  chosen_some : (b : Bool) (x s : Suffix) → (if b then Some x else None) ≡ Some s → (b ≡ true)
      × (x ≡ s)
  chosen_some true x s q = (refl, cc)
  chosen_some false x s q = cc

  and_true : (a b : Bool) → (a && b) ≡ true → (a ≡ true) × (b ≡ true)
  and_true true true q = (refl, refl)
  and_true true false q = cc
  and_true false b q = cc

  by_operator : (k : TokenKind) (own least : ℕ) (s : Suffix) (m : Option Binary) → operator_of k ≡ m
      → operator_suffix m own least ≡ Some s → SuffixIs s k own least
  by_operator k own least s (Some o) e q =
      let a = chosen_some (nat_le least (rank o) && nat_le (left_rank o) own)
      (suffix.Operator o) s q in
      let b = and_true (nat_le least (rank o)) (nat_le (left_rank o) own) a.0 in
      subst (λ z. SuffixIs z k own least) a.1 (
        e,
        leb-true least (rank o) b.0,
        leb-true (left_rank o) own b.1,
      )
  by_operator k own least s None e q = cc

  by_sign : (r : Sign) (own least : ℕ) (s : Suffix)
      → suffix_of (Some (kind.Sign r)) own least ≡ Some s → SuffixIs s (kind.Sign r) own least
  by_sign sign.Dot own least s q = let a = chosen_some (own == 8) suffix.Field s q in
      subst (λ z. SuffixIs z (kind.Sign sign.Dot) own least) a.1 (refl, eqb-true own 8 a.0)
  by_sign sign.OpenBracket own least s q = let a = chosen_some (own == 8) suffix.Index s q in
      subst (λ z. SuffixIs z (kind.Sign sign.OpenBracket) own least) a.1 (refl, eqb-true own 8 a.0)
  by_sign r own least s q = by_operator (kind.Sign r) own least s (operator_of (kind.Sign r)) refl q

  suffix_is : (k : TokenKind) (own least : ℕ) (s : Suffix) → suffix_of (Some k) own least ≡ Some s
      → SuffixIs s k own least
  suffix_is (kind.Sign r) own least s q = by_sign r own least s q
  suffix_is (kind.Keyword j) own least s q =
      by_operator (kind.Keyword j) own least s (operator_of (kind.Keyword j)) refl q
  suffix_is (kind.Name x) own least s q = cc
  suffix_is (kind.Number x) own least s q = cc
  suffix_is (kind.Text x) own least s q = cc

  pub token_is : (t : Token) (k : TokenKind) (us : List Token) → t.kind ≡ k
      → (t ∷ us) ≡ record { kind = k; line = t.line } ∷ us
  token_is t k us e = ap (λ z. record { kind = z; line = t.line } ∷ us) e

  not_deep : (ts us : List Token) (y : SoFar) → one deep_at ts ≡ Ok (y, us) → ⊥
  not_deep [] us y q = cc
  not_deep (t ∷ ts) us y q = cc

  module _ (limit : ℕ) (inner : Inner) (h : SoundE inner) where
    s_extend : (least : ℕ) (ts : List Token) (x : SoFar) (s : Suffix) (t : Token) (vs : List Token)
        (y : SoFar) (us : List Token)
        → IsSoFar least ts (t ∷ vs) x → SuffixIs s t.kind x.rank least → least ≤ 8
        → extend inner x s vs ≡ Ok (y, us) → IsSoFar least ts us y
    s_extend least ts x suffix.Field t vs y us (e, l) (k, r) m q =
        let a = bound (one word_at vs) _ y us q in
        let w = word_read a.got vs a.rest a.part in
        let v = gave (so_far 8 (tree.Field x.expr a.got) (x.depth + 1)) y a.rest us a.after in
        let b : (IsExpr limits) 8 ts (mark sign.Dot t.line ∷ w.token ∷ a.rest) x.expr x.depth =
        subst (λ z. (IsExpr limits) 8 ts (mark sign.Dot t.line ∷ z) x.expr x.depth) w.is
        (subst (λ z. (IsExpr limits) 8 ts z x.expr x.depth)
        (token_is t (kind.Sign sign.Dot) vs k)
        (subst (λ z. (IsExpr limits) z ts (t ∷ vs) x.expr x.depth) r e)) in
        so_moved least ts ts a.rest us (so_far 8 (tree.Field x.expr a.got) (x.depth + 1)) y refl v.1
        v.0 (g.field b w.word, m)
    s_extend least ts x suffix.Index t vs y us (e, l) (k, r) m q =
        let a = bound (inner 1 vs) _ y us q in
        let b = past_sign sign.CloseBracket a.rest _ y us a.after in
        let v = gave (so_far 8 (tree.Index x.expr a.got.0) (max x.depth a.got.1 + 1)) y b.rest us
        b.after in
        let f : (IsExpr limits) 1 vs (mark sign.CloseBracket b.line ∷ b.rest) a.got.0
        a.got.1 = subst (λ z. (IsExpr limits) 1 vs z a.got.0 a.got.1) b.is
        (h 1 vs a.got a.rest (lit≤ tt) a.part) in
        let d : (IsExpr limits) 8 ts (mark sign.OpenBracket t.line ∷ vs) x.expr x.depth = subst
        (λ z. (IsExpr limits) 8 ts z x.expr x.depth)
        (token_is t (kind.Sign sign.OpenBracket) vs k)
        (subst (λ z. (IsExpr limits) z ts (t ∷ vs) x.expr x.depth) r e) in
        so_moved least ts ts b.rest us
        (so_far 8 (tree.Index x.expr a.got.0) (max x.depth a.got.1 + 1)) y refl v.1 v.0
        (g.index d f, m)
    s_extend least ts x (suffix.Operator o) t vs y us (e, l) (k, r, n) m q =
        let a = bound (inner (rank o + 1) vs) _ y us q in
        let v = gave (so_far (rank o) (tree.Binary o x.expr a.got.0) (max x.depth a.got.1 + 1)) y
        a.rest us a.after in
        so_moved least ts ts a.rest us (so_far (rank o) (tree.Binary o x.expr a.got.0)
        (max x.depth a.got.1 + 1)) y refl v.1 v.0 (
          g.binary k (down (left_rank o) x.rank n e)
              (h (rank o + 1) vs a.got a.rest (rank_most o) a.part),
          r,
        )

    s_with : (least : ℕ) (ts : List Token) (x : SoFar) (o : Option Suffix) (vs : List Token)
        (y : SoFar) (us : List Token)
        → IsSoFar least ts vs x → least ≤ 8 → ((t : Token) (ws : List Token) → vs ≡ t ∷ ws
        → (s : Suffix) → o ≡ Some s → SuffixIs s t.kind x.rank least)
        → with_suffix limit inner x o vs ≡ Ok (y, us) → IsSoFar least ts us y
    s_with least ts x None vs y us e m k q = let v = gave x y vs us q in
        so_moved least ts ts vs us x y refl v.1 v.0 e
    s_with least ts x (Some s) vs y us e m k q = by (nat_lt x.depth limit) q
      where
        by : (b : Bool) → (if b then extended inner x s vs else one deep_at vs) ≡ Ok (y, us)
            → IsSoFar least ts us y
        by true p =
            let a = bound (one passing vs) _ y us p in
            let t = one_token passing vs a.got a.rest a.part in
            s_extend least ts x s t.token a.rest y us (subst (λ z. IsSoFar least ts z x) t.is e)
            (k t.token a.rest t.is s refl) m a.after
        by false p = absurd (not_deep vs us y p)

    s_next : (least : ℕ) (ts : List Token) (x : SoFar) (vs : List Token) (y : SoFar)
        (us : List Token) → IsSoFar least ts vs x → least ≤ 8
        → next_suffix limit inner least x vs ≡ Ok (y, us) → IsSoFar least ts us y
    s_next least ts x [] y us e m q = s_with least ts x None [] y us e m (λ t ws p s o. cc) q
    s_next least ts x (t ∷ vs) y us e m q =
        s_with least ts x (suffix_of (Some t.kind) x.rank least) (t ∷ vs) y us e m
        (λ u ws p s o. let w : t ≡ u = cc in
        subst (λ z. SuffixIs s z.kind x.rank least) w (suffix_is t.kind x.rank least s o)) q

    pub s_continued : (least : ℕ) (ts : List Token) (x : SoFar) (vs : List Token) (y : Expr
        × ℕ) (us : List Token) → least ≤ 8 → IsSoFar least ts vs x
        → continued limit inner least x vs ≡ Ok (y, us) → IsExpr limits least ts us y.0 y.1
    s_continued least ts x vs y us m e q =
        let a = bound (all_of (goes_on least) (next_suffix limit inner least) x vs) _ y us q in
        let k = kept_all (goes_on least) (next_suffix limit inner least)
        (λ z ws. IsSoFar least ts ws z) (λ z ws r xs t f p. s_next least ts z ws r xs f m p) x
        vs a.got a.rest e a.part in
        let v = gave (a.got.expr, a.got.depth) y a.rest us a.after in
        moved ts ts a.rest us (a.got.expr, a.got.depth) y least refl v.1 v.0
        (down least a.got.rank k.1 k.0)
