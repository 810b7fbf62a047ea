-- Bodies within limits and within higher ones.
use Rattle.std.proofs.Common.{◌≡◌, ℕ, zero, suc, ◌-◌, ◌≤◌, max, nat_le, List, [], ◌∷◌, ◌++◌, Bool, true, false, inl, Option, Some, None, refl, sym, ap, ◌∙◌, subst, arith}
use Rattle.std.proofs.lemmas.Bool.{le-leb}
use Rattle.flume_tokens.specs.declared.token.Token.{Token}
use Rattle.flume_tokens.specs.declared.token.TokenKind.TheVariants as kind
use Rattle.flume_tokens.specs.declared.keyword.Keyword.{Keyword}
use Rattle.flume_tokens.specs.declared.keyword.Keyword.TheVariants as keyword
use Rattle.flume_tokens.specs.declared.sign.Sign.TheVariants as sign
use Rattle.flume_grammar.specs.declared.fault.ScriptKind.TheVariants.{Syntax, TooDeep}
use Rattle.flume_grammar.specs.declared.start.BodyStart.{BodyStart}
use Rattle.flume_grammar.specs.declared.start.BodyStart.TheVariants as begin
use Rattle.flume_grammar.specs.inner.Out.{Out, give, bind, one, next, all_of}
use Rattle.flume_grammar.specs.inner.Reading.{keyword_at, number_at, is_at_keyword, numbered, of_keyword}
use Rattle.flume_grammar.specs.inner.Bodies as b
use Rattle.flume_grammar.specs.inner.Bodies.{Block, block_within, whole_block}
use Rattle.flume_grammar.specs.Limits.{Limits}
use Rattle.flume_grammar.proofs.Fair.{IsFair}
use Rattle.flume_grammar.proofs.Sound.{one_token}
use Rattle.flume_grammar.proofs.Open.{Class, any, Sub, free, within, IsOpen, IsComplete}
use Rattle.flume_grammar.proofs.OpenSmallest.{given, single}
use Rattle.flume_grammar.proofs.Quiet.{quiet}
use Rattle.flume_grammar.proofs.OpenBodies as o_bodies
use Rattle.flume_grammar.proofs.OpenBodies.{other_than, no_else, no_to, opening, after_body, in_block, owns_body, body_room}
use Rattle.flume_grammar.proofs.Depths.{block_depth}
use Rattle.flume_grammar.proofs.Pair.{Kinds, Spared, Raise, RaiseAt, Limited, raise_token}
use Rattle.flume_grammar.proofs.PairThen.{raise_bind, raise_agree, IsPair, pair_given, pair_wider, pair_closer, pair_then, pair_loop}
use Rattle.flume_grammar.proofs.PairTokens.{Grows, Growth, grows_least, grows_up, grows_down, plain_fault, grows_test, pair_name, pair_number, pair_sign, pair_keyword, pair_shallow}
use Rattle.flume_grammar.proofs.PairExpr.{pair_expression}

-- what begins with a keyword, or is nothing
module _ {A : Type 0} (K : Kinds) (k : Keyword) (f g : Unit {0} → List Token → Out A) (a : A) where
  pub pair_optional : IsPair K any (o_bodies.other k f a) (λ ts. bind (one (keyword_at k) ts) f)
      (λ ts. bind (one (keyword_at k) ts) g) → ((u : Unit {0}) → IsOpen (o_bodies.other k f a)
      (f u))
      → ((u : Unit {0}) → IsOpen (o_bodies.other k f a) (g u))
      → IsPair K (o_bodies.other k f a) (o_bodies.other k f a) (o_bodies.maybe k f a)
      (o_bodies.maybe k g a)
  pair_optional h i j = record {
    low_ = o_bodies.optional k f a h.low_ i;
    high_ =
        o_bodies.optional k g a h.high_ j;
    raise = λ ts. by ts (is_at_keyword k (next ts)) refl;
  }
    where
      by : (ts : List Token) (c : Bool) → is_at_keyword k (next ts) ≡ c
          → RaiseAt K (o_bodies.maybe k f a) (o_bodies.maybe k g a) ts
      by ts false q =
          inl (
            o_bodies.absent k f a ts q
                ∙ sym (o_bodies.absent k g a ts q),
            subst (Spared K) (sym (o_bodies.absent k f a ts q)) tt,
          )
      by ts true q =
          raise_agree K (o_bodies.maybe k f a) (o_bodies.maybe k g a)
          (λ us. bind (one (keyword_at k) us) f)
          (λ us. bind (one (keyword_at k) us) g) ts
          (λ us e. ap (λ c. o_bodies.chosen k f a c us) (ap (is_at_keyword k) e ∙ q))
          (λ us e. ap (λ c. o_bodies.chosen k g a c us) (ap (is_at_keyword k) e ∙ q)) (h.raise ts)

  -- the same before fewer tokens
  pub pair_optional_in : (c : Class) → Sub c (o_bodies.other k f a)
      → IsPair K (o_bodies.other k f a) (o_bodies.other k f a) (o_bodies.maybe k f a)
      (o_bodies.maybe k g a) → IsPair K c c (o_bodies.maybe k f a) (o_bodies.maybe k g a)
  pair_optional_in c s x = record {
    low_ = o_bodies.optional_in k f a c s x.low_;
    high_ =
        o_bodies.optional_in k g a c s x.high_;
    raise = x.raise;
  }

pub pair_numbered : (K : Kinds) → (K Syntax → ⊥) → (k : Keyword)
    → IsPair K (other_than k) (other_than k) (numbered k) (numbered k)
pair_numbered K no_syntax k =
    let x = pair_number K no_syntax any (other_than k) _ _ tt
    (λ n. pair_given K any (other_than k) (Some n) (free (other_than k))) in
    pair_optional K k (λ _ us. bind (one number_at us) (λ n vs. give (Some n) vs))
    (λ _ us. bind (one number_at us) (λ n vs. give (Some n) vs)) None
    (pair_keyword K no_syntax any (other_than k) k _ _ tt (λ _. x)) (λ _. x.low_.open_)
    (λ _. x.high_.open_)

module _ (K : Kinds) (limits more : Limits) (fair : IsFair limits) (fair_more : IsFair more)
    (growth : Growth K limits more) where
  pub no_syntax : K Syntax → ⊥
  no_syntax = growth.syntax_

  pub whole_given : {A : Type 0} (a : A) → IsPair K any any (give a) (give a)
  whole_given a = pair_given K any any a (free any)

  -- ---- bodies

  module _ (n m : ℕ) (inner inner_more : List Token → Out Block) (g : Grows K TooDeep n m)
      (h : 1 ≤ n → IsPair K opening any inner inner_more) (low : 1 ≤ n
      → IsComplete opening any inner) (high : 1 ≤ m → IsComplete opening any inner_more) where
    less_one : (j : ℕ) → suc j - 1 ≡ j
    less_one j = omega arith

    r_value : 1 ≤ n → IsPair K any quiet (b.value limits (suc n)) (b.value more (suc m))
    r_value i =
        pair_expression K limits more fair fair_more growth (suc n - 1) (suc m - 1)
        (omega (arith, i))
        (subst (λ z. Grows K TooDeep z (suc m - 1)) (sym (less_one n))
        (subst (λ z. Grows K TooDeep n z) (sym (less_one m)) g)) 1

    r_value_behind : 1 ≤ n → IsPair K no_to quiet (b.value limits (suc n)) (b.value more (suc m))
    r_value_behind i =
        let x = r_value i in
        let j = grows_least K TooDeep n m g in
        record {
          low_ = o_bodies.o_value_behind limits fair n inner low i;
          high_ =
              o_bodies.o_value_behind more fair_more m inner_more high (omega (arith, i, j));
          raise = x.raise;
        }

    at_quiet : 1 ≤ n → IsPair K quiet any inner inner_more
    at_quiet i = pair_wider K opening quiet any inner inner_more (within opening quiet (λ k x. x.0))
        (h i)

    anywhere : 1 ≤ n → IsPair K any any inner inner_more
    anywhere i = pair_wider K opening any any inner inner_more (free opening) (h i)

    r_otherwise : 1 ≤ n → IsPair K no_else no_else (b.otherwise inner) (b.otherwise inner_more)
    r_otherwise i =
        let x = pair_closer K any no_else any inner inner_more (free no_else) (anywhere i) in
        pair_optional K keyword.Else (λ _ us. inner us) (λ _ us. inner_more us) ([], 0)
        (pair_keyword K no_syntax any no_else keyword.Else (λ _ us. inner us)
        (λ _ us. inner_more us) tt (λ _. x)) (λ _. x.low_.open_) (λ _. x.high_.open_)

    r_let : 1 ≤ n → (line : ℕ)
        → IsPair K any after_body (b.let_body limits (suc n) line) (b.let_body more (suc m) line)
    r_let i line =
        pair_name K no_syntax any after_body _ _ tt
        (λ x. pair_sign K no_syntax any after_body sign.Assign _ _ tt
        (λ _. pair_then K any quiet after_body (b.value limits (suc n)) (b.value more (suc m)) _
        _ (r_value i) (λ e.
        pair_given K quiet after_body _ (within after_body quiet (λ k j. j.0)))))

    r_emit : 1 ≤ n → (line : ℕ)
        → IsPair K any after_body (b.emit_body limits (suc n) line) (b.emit_body more (suc m) line)
    r_emit i line =
        pair_wider K no_to any after_body _ _ (free no_to)
        (pair_then K no_to no_to after_body (numbered keyword.To) (numbered keyword.To) _ _
        (pair_numbered K no_syntax keyword.To) (λ o.
        pair_then K no_to quiet after_body (b.value limits (suc n)) (b.value more (suc m)) _ _
        (r_value_behind i)
        (λ e. pair_given K quiet after_body _ (within after_body quiet (λ k j. j.0)))))

    r_if : 1 ≤ n → (line : ℕ) → IsPair K any after_body (b.if_body limits (suc n) inner line)
        (b.if_body more (suc m) inner_more line)
    r_if i line =
        pair_then K any quiet after_body (b.value limits (suc n)) (b.value more (suc m)) _ _
        (r_value i) (λ e. pair_then K quiet any after_body inner inner_more _ _ (at_quiet i)
        (λ x.
        pair_wider K no_else any after_body _ _ (free no_else)
        (pair_then K no_else no_else after_body (b.otherwise inner) (b.otherwise inner_more) _ _
        (r_otherwise i) (λ y.
        pair_given K no_else after_body _ (within after_body no_else (λ k j. j.1))))))

    r_for : 1 ≤ n → (line : ℕ) → IsPair K any after_body (b.for_body limits (suc n) inner line)
        (b.for_body more (suc m) inner_more line)
    r_for i line =
        pair_name K no_syntax any after_body _ _ tt
        (λ x. pair_keyword K no_syntax any after_body keyword.In _ _ tt
        (λ _. pair_then K any quiet after_body (b.value limits (suc n)) (b.value more (suc m)) _
        _ (r_value i) (λ e.
        pair_then K quiet any after_body inner inner_more _ _ (at_quiet i)
        (λ y. pair_given K any after_body _ (free after_body)))))

    r_side : (c : Class) → 1 ≤ n → (k : Keyword) → c (kind.Keyword k)
        → IsPair K c any (b.side inner k) (b.side inner_more k)
    r_side c i k q =
        pair_keyword K no_syntax c any k _ _ q (λ _. pair_name K no_syntax any any _ _ tt
        (λ x. pair_then K any any any inner inner_more _ _ (anywhere i) (λ y. whole_given _)))

    r_case : 1 ≤ n → (line : ℕ) → IsPair K any after_body (b.case_body limits (suc n) inner line)
        (b.case_body more (suc m) inner_more line)
    r_case i line =
        pair_then K any quiet after_body (b.value limits (suc n)) (b.value more (suc m)) _ _
        (r_value i) (λ e.
        pair_then K quiet any after_body (b.side inner keyword.Left)
        (b.side inner_more keyword.Left) _ _ (r_side quiet i keyword.Left (λ own least. refl))
        (λ l.
        pair_then K any any after_body (b.side inner keyword.Right)
        (b.side inner_more keyword.Right) _ _ (r_side any i keyword.Right tt)
        (λ r. pair_given K any after_body _ (free after_body))))

    r_after : 1 ≤ n → (x : BodyStart) (line : ℕ)
        → IsPair K any after_body (b.after_start limits (suc n) inner x line)
        (b.after_start more (suc m) inner_more x line)
    r_after i begin.Let line = r_let i line
    r_after i begin.Emit line = r_emit i line
    r_after i begin.If line = r_if i line
    r_after i begin.For line = r_for i line
    r_after i begin.Case line = r_case i line

    start_limited : (t : Token) (x : Option BodyStart)
        → Limited K t (b.started (suc n) t x) (b.started (suc m) t x)
    start_limited t None = inl (refl, plain_fault K t Syntax no_syntax)
    start_limited t (Some x) =
        grows_test K t (x, t.line) TooDeep (suc n) (suc m) (grows_up K TooDeep n m g) (nat_le 2)
        (λ j. le-leb 2 (suc m) (omega (arith, j)))

    open_start : (j : ℕ) → IsOpen any (one (b.body_start j))
    open_start j = single (b.body_start j) (λ t. owns_body j t (of_keyword b.keyword_body t.kind))

    r_body : Raise K (b.body limits (suc n) inner) (b.body more (suc m) inner_more)
    r_body ts =
        raise_bind K any after_body (one (b.body_start (suc n))) (one (b.body_start (suc m))) _ _ ts
        (open_start (suc n) ts) (open_start (suc m) ts)
        (raise_token K (b.body_start (suc n)) (b.body_start (suc m))
        (λ t. start_limited t (of_keyword b.keyword_body t.kind)) ts)
        (λ x us e. let y = one_token (b.body_start (suc n)) ts x us e in
        (r_after (let i = body_room (suc n) y.token (of_keyword b.keyword_body y.token.kind) x
        y.gives in
        omega (arith, i)) x.0 x.1).raise us)
        (λ x e. (o_bodies.begun more fair_more m inner_more high x e).open_ [])

    r_next : (x : Block)
        → Raise K (b.next_body limits (suc n) inner x) (b.next_body more (suc m) inner_more x)
    r_next x ts =
        raise_bind K after_body after_body (b.body limits (suc n) inner)
        (b.body more (suc m) inner_more) _ _ ts (o_bodies.o_body limits fair n inner low ts)
        (o_bodies.o_body more fair_more m inner_more high ts) (r_body ts) (λ y us e. inl (refl, tt))
        (λ y e. (given after_body after_body (x.0 ++ y.0 ∷ [], max x.1 y.1) (λ rs i. i)).open_ [])

    r_bodies : (x : Block)
        → IsPair K in_block in_block (all_of b.at_body (b.next_body limits (suc n) inner) x)
        (all_of b.at_body (b.next_body more (suc m) inner_more) x)
    r_bodies x = pair_loop K in_block after_body b.at_body (b.next_body limits (suc n) inner)
        (b.next_body more (suc m) inner_more) (λ y. Unit {0}) (λ y. Unit {0})
        (o_bodies.body_turns limits fair n inner low)
        (o_bodies.body_turns more fair_more m inner_more high) (λ y i. tt)
        (λ y ts i e. r_next y ts) x tt

    r_layer : IsPair K opening any (b.block_layer limits (suc n) inner)
        (b.block_layer more (suc m) inner_more)
    r_layer =
        pair_sign K no_syntax opening any sign.OpenBrace _ _ (λ own least. refl, (refl, refl))
        (λ _. pair_wider K in_block any any _ _ (free in_block)
        (pair_then K in_block in_block any (all_of b.at_body (b.next_body limits (suc n) inner)
        ([], 0)) (all_of b.at_body (b.next_body more (suc m) inner_more) ([], 0)) _ _
        (r_bodies ([], 0)) (λ x.
        pair_sign K no_syntax in_block any sign.CloseBrace _ _ (λ own least. refl, refl, refl)
        (λ _. whole_given x))))

  r_block : (n m : ℕ) → 1 ≤ n → Grows K TooDeep n m
      → Raise K (block_within limits n) (block_within more m)
  unfolding block_within
  r_block zero m i g ts = absurd (omega (arith, i))
  r_block (suc n) zero i g ts = absurd (let j = grows_least K TooDeep (suc n) zero g in
      omega (arith, j))
  r_block (suc n) (suc m) i g ts =
      let d = grows_down K TooDeep n m g in
      (r_layer n m (block_within limits n) (block_within more m) d
      (λ j. record {
        low_ = o_bodies.complete_block limits fair n j;
        high_ =
            o_bodies.complete_block more fair_more m (let k = grows_least K TooDeep n m d in
            omega (arith, j, k));
        raise = r_block n m j d;
      })
      (o_bodies.complete_block limits fair n) (o_bodies.complete_block more fair_more m)).raise ts

  pub r_whole : IsPair K opening any (whole_block limits) (whole_block more)
  r_whole =
      pair_shallow K opening limits.depth more.depth (block_within limits limits.depth)
      (block_within more more.depth)
      (grows_least K TooDeep limits.depth more.depth growth.depth) (record {
        low_ = o_bodies.complete_block limits fair limits.depth fair.depth;
        high_ = o_bodies.complete_block more fair_more more.depth fair_more.depth;
        raise = r_block limits.depth more.depth fair.depth growth.depth;
      }) (block_depth limits fair limits.depth) (block_depth more fair_more more.depth)
