-- An expression comes of an operand and of what goes on with it.
use Rattle.std.proofs.Common.{◌≡◌, ℕ, zero, suc, ◌+◌, ◌≤◌, ◌<◌, length, nat_lt, is_some, List, ◌∷◌, Bool, true, false, not, ◌||◌, Some, None, Ok, Err, if◌then◌else◌, refl, ap, ◌∙◌, arith, lit≤}
use Rattle.std.proofs.lemmas.Bool.{lt-ltb}
use Rattle.flume_tokens.specs.declared.token.Token.{Token}
use Rattle.flume_tokens.specs.declared.token.TokenKind.TheVariants as kind
use Rattle.flume_tokens.specs.declared.keyword.Keyword.{Keyword}
use Rattle.flume_tokens.specs.declared.keyword.Keyword.TheVariants as keyword
use Rattle.flume_tokens.specs.declared.sign.Sign.{Sign}
use Rattle.flume_grammar.specs.declared.fault.ScriptKind.TheVariants.{Syntax, TooDeep}
use Rattle.flume_grammar.specs.declared.start.Start.{Start}
use Rattle.flume_grammar.specs.declared.start.Start.TheVariants as start
use Rattle.flume_grammar.specs.declared.parts.SoFar.{SoFar}
use Rattle.flume_grammar.specs.declared.parts.Suffix.{Suffix}
use Rattle.flume_grammar.specs.declared.tree.Unary.{Unary}
use Rattle.flume_grammar.specs.declared.tree.Unary.TheVariants as unary
use Rattle.flume_grammar.specs.declared.tree.Side.{Side}
use Rattle.flume_grammar.specs.declared.tree.Side.TheVariants as side
use Rattle.flume_grammar.specs.declared.tree.Expr.{Expr}
use Rattle.flume_grammar.specs.inner.Out.{Out, give, bind, at, one, passed, next, many, all_of}
use Rattle.flume_grammar.specs.inner.Reading.{sign_at}
use Rattle.flume_grammar.specs.inner.Expressions.{keyword_start, started, operand_start, fits, is_leaf, so_far, suffix_of, deep_at, extend, goes_on, next_suffix, with_suffix, extended, continued, argument, after_start, bare, operand, expression_within}
use Rattle.flume_grammar.specs.Terminals.{keyword_token, mark}
use Rattle.flume_grammar.specs.Grammar.{unary_call, side_keyword}
use Rattle.flume_grammar.proofs.Sound.{bound}
use Rattle.flume_grammar.proofs.Complete.{went, same_mark}
use Rattle.flume_grammar.specs.Limits.{Limits}
use Rattle.flume_grammar.proofs.Fair.{IsFair}

module _ (limits : Limits) (fair : IsFair limits) where
  -- ---- expressions

  abbrev ended : SoFar → List Token → Out (Expr × ℕ)
  ended y vs = give (y.expr, y.depth) vs

  abbrev part : ℕ → ℕ → SoFar → List Token → Out SoFar
  part m least = next_suffix (suc m) (expression_within limits m) least

  -- reading an expression of at least that rank comes to this one, of rank r or above, with those
  -- tokens left
  pub record Comes (m least : ℕ) (ts us : List Token) (e : Expr) (d r : ℕ) : Type 0 where
    pub own : ℕ
    pub high : r ≤ own
    pub low : own ≤ 8
    pub turns : ℕ
    pub enough : length us ≤ turns
    pub reach : (expression_within limits) (suc m) least ts ≡ bind
        (many turns (goes_on least) (part m least) (so_far own e d) us) ended

  pub comes_at : (m least own d r : ℕ) (ts us : List Token) (e : Expr) → r ≤ own → own ≤ 8
      → operand limits (suc m) (expression_within limits m) least ts ≡ Ok (so_far own e d, us)
      → Comes m least ts us e d r
  unfolding expression_within all_of
  comes_at m least own d r ts us e h l q = record {
    own = own;
    high = h;
    low = l;
    turns =
        length us;
    enough = omega arith;
    reach =
        went (operand limits (suc m) (expression_within limits m) least ts) _
        (so_far own e d) us _ q refl;
  }

  stop_many : (k least m : ℕ) (x : SoFar) (us : List Token)
      → suffix_of (next us) x.rank least ≡ None
      → many k (goes_on least) (part m least) x us ≡ Ok (x, us)
  stop_many zero least m x us q = refl
  stop_many (suc k) least m x us q =
      ap (λ o. if is_some o then bind (part m least x us)
      (λ y vs. many k (goes_on least) (part m least) y vs) else Ok (x, us)) q

  pub comes_end : (m least : ℕ) (ts us : List Token) (e : Expr) (d r : ℕ)
      (c : Comes m least ts us e d r) → suffix_of (next us) c.own least ≡ None
      → expression_within limits (suc m) least ts ≡ Ok ((e, d), us)
  comes_end m least ts us e d r c q = c.reach
      ∙ ap (λ o. bind o ended) (stop_many c.turns least m (so_far c.own e d) us q)

  go_many : (k least m : ℕ) (x y : SoFar) (s : Suffix) (t : Token) (vs us : List Token)
      → suffix_of (Some t.kind) x.rank least ≡ Some s → x.depth < suc m
      → extend (expression_within limits m) x s vs ≡ Ok (y, us)
      → many (suc k) (goes_on least) (part m least) x (t ∷ vs) ≡ many k (goes_on least)
      (part m least) y us
  go_many k least m x y s t vs us q h p =
      ap (λ o. if is_some o then bind (with_suffix (suc m) (expression_within limits m) x o
      (t ∷ vs)) (λ z ws. many k (goes_on least) (part m least) z ws) else Ok (x, t ∷ vs)) q
      ∙ ap
      (λ b. bind (if b then extended (expression_within limits m) x s
      (t ∷ vs) else one deep_at (t ∷ vs)) (λ z ws. many k (goes_on least) (part m least) z ws))
      (lt-ltb x.depth (suc m) h)
      ∙ ap (λ o. bind o (λ z ws. many k (goes_on least) (part m least) z ws)) p

  pub comes_on : (m least : ℕ) (ts vs us : List Token) (t : Token) (e : Expr) (d r : ℕ)
      (c : Comes m least ts (t ∷ vs) e d r) (s : Suffix) (y : SoFar)
      → suffix_of (Some t.kind) c.own least ≡ Some s → d < suc m
      → extend (expression_within limits m) (so_far c.own e d) s vs ≡ Ok (y, us)
      → length us ≤ length vs → y.rank ≤ 8 → Comes m least ts us y.expr y.depth y.rank
  comes_on m least ts vs us t e d r c s y q h p l w = by c.turns c.enough c.reach
    where
      by : (k : ℕ) → length (t ∷ vs) ≤ k
          → expression_within limits (suc m) least ts ≡ bind
          (many k (goes_on least) (part m least) (so_far c.own e d) (t ∷ vs)) ended
          → Comes m least ts us y.expr y.depth y.rank
      by zero n f = absurd (omega (arith, n))
      by (suc k) n f = record {
        own = y.rank;
        high = omega arith;
        low = w;
        turns = k;
        enough =
            omega (arith, l, n);
        reach = f
            ∙ ap (λ o. bind o ended) (go_many k least m (so_far c.own e d) y s t vs us q h p);
      }

  pub or_true : (b : Bool) → (b || true) ≡ true
  or_true true = refl
  or_true false = refl

  -- how an operand begins
  pub begins : (limit least : ℕ) (t : Token) (s : Start) (us : List Token) → fits s least ≡ true
      → (nat_lt 1 limit || is_leaf s) ≡ true
      → passed (started limit least t (Some s)) us ≡ Ok (s, us)
  begins limit least t s us f h =
      ap (λ b. passed (if not b then Err (at t Syntax) else if nat_lt 1 limit || is_leaf s then Ok s
      else Err (at t TooDeep)) us) f
      ∙ ap (λ b. passed (if b then Ok s else Err (at t TooDeep)) us) h

  pub deep : (limit : ℕ) (b : Bool) → 2 ≤ limit → (nat_lt 1 limit || b) ≡ true
  deep limit b h = ap (λ z. z || b) (lt-ltb 1 limit (omega (arith, h)))

  pub raise : (m least r d : ℕ) (ts us : List Token) (e : Expr) → Comes m least ts us e d (r + 1)
      → Comes m least ts us e d r
  raise m least r d ts us e c = record {
    own = c.own;
    high = omega (arith, c.high);
    low =
        c.low;
    turns = c.turns;
    enough = c.enough;
    reach = c.reach;
  }

  -- a whole expression, before what it stops at
  pub full : (n r d : ℕ) (ts us : List Token) (e : Expr) → 1 ≤ d → d ≤ n
      → ((m : ℕ) → d ≤ suc m → Comes m r ts us e d r)
      → ((own : ℕ) → suffix_of (next us) own r ≡ None)
      → expression_within limits n r ts ≡ Ok ((e, d), us)
  full zero r d ts us e p h c s = absurd (omega (arith, p, h))
  full (suc m) r d ts us e p h c s = comes_end m r ts us e d r (c m h) (s (c m h).own)

  -- what a parenthesis has inside
  pub inside : (m : ℕ) (ts vs : List Token) (x : Expr × ℕ)
      → expression_within limits (suc m) 1 ts ≡ Ok (x, vs)
      → (y : SoFar) × (us : List Token)
      × (operand limits (suc m) (expression_within limits m) 1 ts ≡ Ok (y, us))
      × (continued (suc m) (expression_within limits m) 1 y us ≡ Ok (x, vs))
  unfolding expression_within
  inside m ts vs x q =
      let b = bound (operand limits (suc m) (expression_within limits m) 1 ts)
      (λ y us. continued (suc m) (expression_within limits m) 1 y us) x vs q in
      (b.got, b.rest, b.part, b.after)

  -- an argument, what ends it, and what follows
  pub arg : {B : Type 0} (m : ℕ) (end : Sign) (n a : ℕ) (ts us : List Token) (e : Expr) → 1 ≤ a
      → a ≤ m → ((k : ℕ) → a ≤ suc k → Comes k 1 ts (mark end n ∷ us) e a 1)
      → ((own : ℕ) → suffix_of (Some (kind.Sign end)) own 1 ≡ None)
      → (f : Expr × ℕ → List Token → Out B) (r : Out B) → f (e, a) us ≡ r
      → bind (argument (expression_within limits m) end ts) f ≡ r
  arg m end n a ts us e p h c s f r q =
      went (argument (expression_within limits m) end ts) f (e, a) us r
      (went (expression_within limits m 1 ts) _ (e, a) (mark end n ∷ us) _
      (full m 1 a ts (mark end n ∷ us) e p h c s)
      (went (one (sign_at end) (mark end n ∷ us)) _ tt us _ (same_mark end n us) refl)) q

  pub call_start : (k : Keyword) (u : Unary) → unary_call k ≡ Some u
      → keyword_start k ≡ Some (start.Call u)
  call_start keyword.Len u q = let e : unary.Len ≡ u = cc in ap (λ z. Some (start.Call z)) e
  call_start keyword.Words u q = let e : unary.Words ≡ u = cc in ap (λ z. Some (start.Call z)) e
  call_start keyword.Text u q = let e : unary.Text ≡ u = cc in ap (λ z. Some (start.Call z)) e
  call_start keyword.Number u q = let e : unary.Number ≡ u = cc in ap (λ z. Some (start.Call z)) e
  call_start _ u q = cc

  pub side_start : (k : Keyword) (s : Side) → side_keyword k ≡ Some s → keyword_start k ≡ Some
      (start.Side s)
  side_start keyword.Left s q = let e : side.Left ≡ s = cc in ap (λ z. Some (start.Side z)) e
  side_start keyword.Right s q = let e : side.Right ≡ s = cc in ap (λ z. Some (start.Side z)) e
  side_start _ s q = cc

  -- an operand that a keyword begins
  pub keyed_operand : (m least : ℕ) (k : Keyword) (n : ℕ) (s : Start) (ts us : List Token)
      (x : SoFar)
      → keyword_start k ≡ Some s → fits s least ≡ true → (nat_lt 1 (suc m) || is_leaf s) ≡ true
      → after_start limits (expression_within limits m) s ts ≡ Ok (x, us)
      → operand limits (suc m) (expression_within limits m) least (keyword_token k n ∷ ts) ≡ Ok
      (x, us)
  keyed_operand m least k n s ts us x e f h q =
      went (one (operand_start (suc m) least) (keyword_token k n ∷ ts)) _ s ts _
      (ap (λ o. passed (started (suc m) least (keyword_token k n) o) ts) e
      ∙ begins (suc m) least (keyword_token k n) s ts f h) q

  -- an expression of one token
  pub leaf : (m least : ℕ) (t : Token) (e : Expr) (ts : List Token)
      → operand limits (suc m) (expression_within limits m) least (t ∷ ts)
      ≡ bare limits (suc m) (expression_within limits m) least (t ∷ ts)
      → operand_start (suc m) least t ≡ started (suc m) least t (Some (start.Leaf e))
      → Comes m least (t ∷ ts) ts e 1 8
  leaf m least t e ts b q = comes_at m least 8 1 8 (t ∷ ts) ts e (lit≤ tt) (lit≤ tt)
      (b ∙ went (one (operand_start (suc m) least) (t ∷ ts)) _ (start.Leaf e) ts _
      (ap (λ o. passed o ts) q
      ∙ begins (suc m) least t (start.Leaf e) ts refl (or_true (nat_lt 1 (suc m)))) refl)
