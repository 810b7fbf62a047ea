-- Operands and expressions within limits and within higher ones.
use Rattle.std.proofs.Common.{◌≡◌, ℕ, zero, suc, ◌≤◌, nat_lt, List, [], ◌∷◌, Bool, true, false, not, ◌||◌, inl, Option, Some, None, Result, Ok, Err, if◌then◌else◌, refl, ap, ◌∙◌, subst, arith}
use Rattle.std.proofs.lemmas.Bool.{lt-ltb}
use Rattle.flume_tokens.specs.declared.token.Token.{Token}
use Rattle.flume_tokens.specs.declared.sign.Sign.TheVariants as sign
use Rattle.flume_grammar.specs.declared.fault.ScriptKind.TheVariants.{Syntax, TooDeep}
use Rattle.flume_grammar.specs.declared.fault.Stop.{Stop}
use Rattle.flume_grammar.specs.declared.start.Start.{Start}
use Rattle.flume_grammar.specs.declared.start.Start.TheVariants as start
use Rattle.flume_grammar.specs.declared.parts.SoFar.{SoFar}
use Rattle.flume_grammar.specs.declared.tree.Expr.{Expr}
use Rattle.flume_grammar.specs.inner.Out.{Out, give, bind, at, one, next}
use Rattle.flume_grammar.specs.inner.Reading.{is_sign, sign_at}
use Rattle.flume_grammar.specs.inner.Expressions.{start_of, fits, is_leaf, HasRoom, started, operand_start, so_far, Inner, passing, continued, after_start, bare, enclosed, operand, expression_layer, expression_within}
use Rattle.flume_grammar.specs.Limits.{Limits}
use Rattle.flume_grammar.proofs.Fair.{IsFair}
use Rattle.flume_grammar.proofs.Sound.{gave, one_token}
use Rattle.flume_grammar.proofs.Open.{any}
use Rattle.flume_grammar.proofs.OpenSmallest.{single}
use Rattle.flume_grammar.proofs.OpenTokens.{owns_ok}
use Rattle.flume_grammar.proofs.OpenExpr as o_operands
use Rattle.flume_grammar.proofs.OpenSuffixes as o_suffixes
use Rattle.flume_grammar.proofs.Quiet.{quiet, owns_started, start_room}
use Rattle.flume_grammar.proofs.Depths.{Deep, d_operand, expression_depth}
use Rattle.flume_grammar.proofs.Pair.{Kinds, Raise, RaiseAt, Limited, raise_token}
use Rattle.flume_grammar.proofs.PairThen.{raise_bind, raise_agree, IsPair}
use Rattle.flume_grammar.proofs.PairTokens.{Grows, Growth, grows_least, grows_up, grows_down, plain_ok, plain_fault, grows_test, pair_sign}
use Rattle.flume_grammar.proofs.PairParts.{whole_given, r_record, r_list, r_call, r_sided, r_concat, r_pick, r_prefix, r_empty}
use Rattle.flume_grammar.proofs.PairSuffixes.{Inners, up, r_continued}

abbrev start_if : ℕ → Start → Token → Bool → Result Start Stop
start_if limit s t b = if b then Err (at t Syntax) else if nat_lt 1 limit || is_leaf s then Ok s
    else Err (at t TooDeep)

module _ (K : Kinds) (limits more : Limits) (fair : IsFair limits) (fair_more : IsFair more)
    (growth : Growth K limits more) where
  module _ (n m : ℕ) (inner inner_more : Inner) (parts : Inners K n m inner inner_more) where
    open parts use {grows, pair, low, high, deep, deep_more}

    -- ---- operands

    r_after : (s : Start) → HasRoom s (suc n)
        → Raise K (after_start limits inner s) (after_start more inner_more s)
    r_after (start.Leaf x) i = λ ts. inl (refl, tt)
    r_after start.Empty i = (r_empty K limits more fair fair_more growth).raise
    r_after start.Record i = (r_record K limits more fair fair_more growth inner inner_more
        (pair (omega (arith, i)))).raise
    r_after start.List i = (r_list K limits more fair fair_more growth inner inner_more
        (pair (omega (arith, i)))).raise
    r_after (start.Side s) i = (r_sided K limits more fair fair_more growth inner inner_more
        (pair (omega (arith, i))) s).raise
    r_after (start.Prefix u) i = (r_prefix K limits more fair fair_more growth inner inner_more
        (pair (omega (arith, i))) u).raise
    r_after (start.Call u) i = (r_call K limits more fair fair_more growth inner inner_more
        (pair (omega (arith, i))) u).raise
    r_after start.Concat i = (r_concat K limits more fair fair_more growth inner inner_more
        (pair (omega (arith, i)))).raise
    r_after start.Pick i = (r_pick K limits more fair fair_more growth inner inner_more
        (pair (omega (arith, i)))).raise

    start_limited : (least : ℕ) (t : Token) (o : Option Start) → Grows K TooDeep (suc n) (suc m)
        → Limited K t (started (suc n) least t o) (started (suc m) least t o)
    start_limited least t None i = inl (
      refl,
      plain_fault K t Syntax growth.syntax_,
    )
    start_limited least t (Some s) i = by (not (fits s least))
      where
        by : (b : Bool) → Limited K t (start_if (suc n) s t b) (start_if (suc m) s t b)
        by true = inl (
          refl,
          plain_fault K t Syntax growth.syntax_,
        )
        by false = grows_test K t s TooDeep (suc n) (suc m) i (λ k. nat_lt 1 k || is_leaf s)
            (λ j. ap (λ b. b || is_leaf s) (lt-ltb 1 (suc m) (omega (arith, j))))

    r_bare : (least : ℕ)
        → Raise K (bare limits (suc n) inner least) (bare more (suc m) inner_more least)
    r_bare least ts =
        raise_bind K any quiet (one (operand_start (suc n) least))
        (one (operand_start (suc m) least)) (after_start limits inner)
        (after_start more inner_more) ts
        (single (operand_start (suc n) least)
        (λ t. owns_started (suc n) least t (start_of t.kind)) ts)
        (single (operand_start (suc m) least)
        (λ t. owns_started (suc m) least t (start_of t.kind)) ts)
        (raise_token K (operand_start (suc n) least) (operand_start (suc m) least)
        (λ t. start_limited least t (start_of t.kind) (grows_up K TooDeep n m grows)) ts)
        (λ s us e. let x = one_token (operand_start (suc n) least) ts s us e in
        r_after s (start_room (suc n) least x.token (start_of x.token.kind) s x.gives) us)
        (λ s e. let x = one_token (operand_start (suc m) least) e.source s e.left e.is in
        (o_operands.o_after more fair_more m inner_more high deep_more s
        (start_room (suc m) least x.token (start_of x.token.kind) s x.gives)).open_ [])

    closed : (y : Expr × ℕ)
        → IsPair K quiet any (λ us. bind (one (sign_at sign.Close) us)
        (λ _ vs. give (so_far 8 y.0 y.1) vs)) (λ us. bind (one (sign_at sign.Close) us)
        (λ _ vs. give (so_far 8 y.0 y.1) vs))
    closed y = pair_sign K growth.syntax_ quiet any sign.Close _
        _ (λ own least. refl)
        (λ _. whole_given K limits more fair fair_more growth _)

    r_enclosed : (x : SoFar) → Deep (suc n) x
        → Raise K (enclosed (suc n) inner x) (enclosed (suc m) inner_more x)
    r_enclosed x k ts =
        raise_bind K quiet any (continued (suc n) inner 1 x) (continued (suc m) inner_more 1 x) _
        _ ts ((o_suffixes.o_continued limits fair n inner low deep 1 x k).open_ ts)
        ((o_suffixes.o_continued more fair_more m inner_more high deep_more 1 x
        (up K limits more fair fair_more growth n m inner inner_more parts x
        k)).open_ ts)
        (r_continued K limits more fair fair_more growth n m inner inner_more parts 1 x k ts)
        (λ y us e. (closed y).raise us) (λ y e. (closed y).high_.open_ [])

    abbrev inside : List Token → Out SoFar
    inside us = bind (operand limits (suc n) inner 1 us) (λ x vs. enclosed (suc n) inner x vs)

    abbrev inside_more : List Token → Out SoFar
    inside_more us =
        bind (operand more (suc m) inner_more 1 us) (λ x vs. enclosed (suc m) inner_more x vs)

    r_inside : (ts : List Token)
        → RaiseAt K (operand limits (suc n) inner 1) (operand more (suc m) inner_more 1) ts
        → RaiseAt K inside inside_more ts
    r_inside ts l =
        raise_bind K quiet any (operand limits (suc n) inner 1)
        (operand more (suc m) inner_more 1) (enclosed (suc n) inner)
        (enclosed (suc m) inner_more) ts (o_operands.o_operand limits fair n inner low deep 1 ts)
        (o_operands.o_operand more fair_more m inner_more high deep_more 1 ts) l
        (λ x us e. r_enclosed x (d_operand limits fair n inner deep 1 ts x us e) us)
        (λ x e. (o_operands.o_enclosed more fair_more m inner_more high deep_more x
        (d_operand more fair_more m inner_more deep_more 1 e.source x e.left e.is)).open_ [])

    first : (least : ℕ) (t : Token) (ts : List Token)
        → RaiseAt K (operand limits (suc n) inner 1) (operand more (suc m) inner_more 1) ts
        → RaiseAt K (operand limits (suc n) inner least) (operand more (suc m) inner_more least)
        (t ∷ ts)
    first least t ts l = by (is_sign sign.Open t.kind) refl
      where
        alike : (p q : List Token → Out SoFar) → ((u : Token) (us : List Token) → u.kind ≡ t.kind
            → p (u ∷ us) ≡ q (u ∷ us)) → (us : List Token) → next us ≡ next (t ∷ ts) → p us ≡ q us
        alike p q f [] e = cc
        alike p q f (u ∷ us) e = let k : u.kind ≡ t.kind = cc in f u us k

        by : (b : Bool) → is_sign sign.Open t.kind ≡ b
            → RaiseAt K (operand limits (suc n) inner least)
            (operand more (suc m) inner_more least) (t ∷ ts)
        by false q =
            raise_agree K (operand limits (suc n) inner least)
            (operand more (suc m) inner_more least) (bare limits (suc n) inner least)
            (bare more (suc m) inner_more least) (t ∷ ts)
            (alike (operand limits (suc n) inner least) (bare limits (suc n) inner least)
            (λ u us k. o_operands.is_bare limits fair n inner low deep least u us
            (ap (is_sign sign.Open) k ∙ q)))
            (alike (operand more (suc m) inner_more least) (bare more (suc m) inner_more least)
            (λ u us k. o_operands.is_bare more fair_more m inner_more high deep_more least u us
            (ap (is_sign sign.Open) k ∙ q))) (r_bare least (t ∷ ts))
        by true q =
            raise_agree K (operand limits (suc n) inner least)
            (operand more (suc m) inner_more least)
            (λ us. bind (one passing us) (λ _ vs. inside vs))
            (λ us. bind (one passing us) (λ _ vs. inside_more vs)) (t ∷ ts)
            (alike (operand limits (suc n) inner least)
            (λ us. bind (one passing us) (λ _ vs. inside vs))
            (λ u us k. o_operands.is_opened limits fair n inner low deep least u us
            (ap (is_sign sign.Open) k ∙ q)))
            (alike (operand more (suc m) inner_more least)
            (λ us. bind (one passing us) (λ _ vs. inside_more vs))
            (λ u us k. o_operands.is_opened more fair_more m inner_more high deep_more least u us
            (ap (is_sign sign.Open) k ∙ q)))
            (raise_bind K any quiet (one passing) (one passing) (λ _ us. inside us)
            (λ _ us. inside_more us) (t ∷ ts) (single passing (λ u. owns_ok u tt) (t ∷ ts))
            (single passing (λ u. owns_ok u tt) (t ∷ ts))
            (raise_token K passing passing (λ u. inl (refl, plain_ok K u tt)) (t ∷ ts))
            (λ u us e. subst (RaiseAt K inside inside_more) (gave tt u ts us e).1
            (r_inside ts l))
            (λ u e. o_operands.inside_open more fair_more m inner_more high deep_more []
            (o_operands.o_operand more fair_more m inner_more high deep_more 1 [])))

    r_operand : (least : ℕ) (ts : List Token)
        → RaiseAt K (operand limits (suc n) inner least) (operand more (suc m) inner_more least)
        ts
    r_operand least [] = inl (refl, tt)
    r_operand least (t ∷ ts) = first least t ts (r_operand 1 ts)

    r_layer : (least : ℕ)
        → Raise K (expression_layer limits (suc n) inner least)
        (expression_layer more (suc m) inner_more least)
    r_layer least ts =
        raise_bind K quiet quiet (operand limits (suc n) inner least)
        (operand more (suc m) inner_more least) _ _ ts
        (o_operands.o_operand limits fair n inner low deep least ts)
        (o_operands.o_operand more fair_more m inner_more high deep_more least ts)
        (r_operand least ts)
        (λ x us e. r_continued K limits more fair fair_more growth n m inner inner_more parts
        least x (d_operand limits fair n inner deep least ts x us e) us)
        (λ x e. (o_suffixes.o_continued more fair_more m inner_more high deep_more least x
        (d_operand more fair_more m inner_more deep_more least e.source x e.left e.is)).open_
        [])

  r_expression : (n m : ℕ) → 1 ≤ n → Grows K TooDeep n m → (r : ℕ)
      → Raise K (expression_within limits n r) (expression_within more m r)
  unfolding expression_within
  r_expression zero m i g r ts = absurd (omega (arith, i))
  r_expression (suc n) zero i g r ts = absurd (let j = grows_least K TooDeep (suc n) zero g in
      omega (arith, j))
  r_expression (suc n) (suc m) i g r ts =
      let d = grows_down K TooDeep n m g in
      r_layer n m (expression_within limits n) (expression_within more m) (record {
        grows = d;
        pair = λ j s. record {
          low_ = o_operands.complete_expression limits fair n j s;
          high_ = o_operands.complete_expression more fair_more m
              (let k = grows_least K TooDeep n m d in omega (arith, j, k)) s;
          raise = r_expression n m j d s;
        };
        low = o_operands.complete_expression limits fair n;
        high = o_operands.complete_expression more fair_more m;
        deep = expression_depth limits fair n;
        deep_more = expression_depth more fair_more m;
      }) r ts

  pub pair_expression : (n m : ℕ) → 1 ≤ n → Grows K TooDeep n m → (r : ℕ)
      → IsPair K any quiet (expression_within limits n r) (expression_within more m r)
  pair_expression n m i g r =
      record {
        low_ = o_operands.complete_expression limits fair n i r;
        high_ =
            o_operands.complete_expression more fair_more m (let k = grows_least K TooDeep n m g in
            omega (arith, i, k)) r;
        raise = r_expression n m i g r;
      }
