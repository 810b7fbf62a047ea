-- How deep what a parser of some depth gives can be.
use Rattle.std.proofs.Common.{◌≡◌, ℕ, zero, suc, ◌+◌, ◌-◌, ◌≤◌, nat_lt, List, [], ◌∷◌, Bool, true, false, Option, Some, None, Ok, if◌then◌else◌, refl, sym, subst, arith}
use Rattle.std.proofs.lemmas.Bool.{ltb-true}
use Rattle.flume_tokens.specs.declared.token.Token.{Token}
use Rattle.flume_tokens.specs.declared.sign.Sign.{Sign}
use Rattle.flume_tokens.specs.declared.sign.Sign.TheVariants as sign
use Rattle.flume_tokens.specs.declared.keyword.Keyword.{Keyword}
use Rattle.flume_tokens.specs.declared.keyword.Keyword.TheVariants as keyword
use Rattle.flume_grammar.specs.declared.parts.Parts.{Parts}
use Rattle.flume_grammar.specs.declared.start.TypeStart.{TypeStart}
use Rattle.flume_grammar.specs.declared.start.TypeStart.TheVariants as typed
use Rattle.flume_grammar.specs.declared.start.Start.{Start}
use Rattle.flume_grammar.specs.declared.start.Start.TheVariants as start
use Rattle.flume_grammar.specs.declared.parts.SoFar.{SoFar}
use Rattle.flume_grammar.specs.declared.parts.Suffix.{Suffix}
use Rattle.flume_grammar.specs.declared.parts.Suffix.TheVariants as suffix
use Rattle.flume_grammar.specs.declared.start.BodyStart.{BodyStart}
use Rattle.flume_grammar.specs.declared.start.BodyStart.TheVariants as begin
use Rattle.flume_grammar.specs.declared.tree.Expr.{Expr}
use Rattle.flume_grammar.specs.inner.Out.{Out, give, bind, one, next, all_of}
use Rattle.flume_grammar.specs.inner.Reading.{is_sign, keyword_at, numbered}
use Rattle.flume_grammar.specs.inner.Types as t
use Rattle.flume_grammar.specs.Parts.{Tree, none}
use Rattle.flume_grammar.specs.Operators.{rank}
use Rattle.flume_grammar.specs.inner.Expressions as e
use Rattle.flume_grammar.specs.inner.Bodies as b
use Rattle.flume_grammar.specs.inner.Bodies.{Block}
use Rattle.flume_grammar.proofs.Sound.{gave, bound}
use Rattle.flume_grammar.proofs.SoundLoops.{kept_all}
use Rattle.flume_grammar.specs.Limits.{Limits}
use Rattle.flume_grammar.proofs.Fair.{IsFair}

-- each value that a parser gives is such
abbrev pub Each : {A : Type 0} → (A → Type 0) → (List Token → Out A) → Type 0
Each {A} P p = (ts : List Token) (a : A) (us : List Token) → p ts ≡ Ok (a, us) → P a

pub each_give : {A : Type 0} (P : A → Type 0) (a : A) → P a → Each P (give a)
each_give P a h ts b us e = subst P (gave a b ts us e).0 h

each_bind : {A B : Type 0} (V : A → Type 0) (P : B → Type 0) (p : List Token → Out A) (f : A
    → List Token → Out B) → Each V p → ((a : A) → V a → Each P (f a)) → Each P (λ ts. bind (p ts) f)
each_bind V P p f h g ts b us e = let x = bound (p ts) f b us e in
    g x.got (h ts x.got x.rest x.part) x.rest b us x.after

pub each_after : {A B : Type 0} (P : B → Type 0) (p : List Token → Out A) (f : A → List Token
    → Out B) → ((a : A) → Each P (f a)) → Each P (λ ts. bind (p ts) f)
each_after P p f g ts b us e = let x = bound (p ts) f b us e in g x.got x.rest b us x.after

each_loop : {A : Type 0} (more : A → List Token → Bool) (part : A → List Token → Out A) (P : A
    → Type 0) → ((a : A) → P a → Each P (part a)) → (a : A) → P a → Each P (all_of more part a)
each_loop more part P h a i ts b us q =
    kept_all more part (λ x vs. P x) (λ x vs y ws m k r. h x k vs y ws r) a ts b us i q

-- as deep as what has been read may be
abbrev pub Deep : ℕ → SoFar → Type 0
Deep limit x = (1 ≤ x.depth) × (x.depth ≤ limit)

module _ (limits : Limits) (fair : IsFair limits) where
  -- ---- types

  module _ (n : ℕ) (inner : t.Inner) (h : Each (λ x. x.1 ≤ n) inner) where
    d_list : Each (λ x. x.1 ≤ suc n) (t.list_type inner)
    d_list =
        each_after _ (one _) _
        (λ _. each_bind _ _ inner _ h
        (λ x i. each_after _ (one _) _ (λ _. each_give _ _ (omega (arith, i)))))

    d_pair : Each (λ x. x.2 ≤ suc n) (t.pair_type inner)
    d_pair =
        each_after _ (one _) _
        (λ _. each_bind _ _ inner _ h
        (λ x i. each_after _ (one _) _
        (λ _. each_bind _ _ inner _ h
        (λ y j. each_after _ (one _) _ (λ _. each_give _ _ (omega (arith, i, j)))))))

    d_field : (p : Parts Tree) → p.depth ≤ n → Each (λ q. q.depth ≤ n) (t.field_type inner p)
    d_field p k =
        each_after _ (one _) _
        (λ w. each_after _ (one _) _
        (λ _. each_bind _ _ inner _ h (λ x i. each_give _ _ (omega (arith, i, k)))))

    d_record : Each (λ x. x.1 ≤ suc n) (t.record_type limits inner)
    d_record =
        each_bind _ _ (t.field_type inner none) _ (d_field none (omega arith)) (λ p i.
        each_bind _ _ (all_of t.at_comma (t.next_field_type limits inner) p) _
        (each_loop t.at_comma (t.next_field_type limits inner) (λ q. q.depth ≤ n)
        (λ q k. each_after _ (one _) _ (λ _. d_field q k)) p i) (λ q j.
        each_after _ (one _) _ (λ _. each_give _ _ (omega (arith, j)))))

    d_type : (s : TypeStart) → Each (λ x. x.1 ≤ suc n) (t.after_start limits inner s)
    d_type (typed.Leaf x) = each_give _ _ (omega arith)
    d_type typed.List = d_list
    d_type typed.Either = each_bind _ _ (t.pair_type inner) _ d_pair (λ x i. each_give _ _ i)
    d_type typed.Table = each_bind _ _ (t.pair_type inner) _ d_pair (λ x i. each_give _ _ i)
    d_type typed.Record = d_record

  pub type_depth : (n : ℕ) → Each (λ x. x.1 ≤ n) (t.type_within limits n)
  unfolding t.type_within
  type_depth zero ts x us q = cc
  type_depth (suc n) ts x us q = each_after (λ y. y.1 ≤ suc n) (one (t.type_start (suc n))) _
      (λ s. d_type n (t.type_within limits n) (type_depth n) s) ts x us q

  -- ---- expressions

  module _ (n : ℕ) (inner : e.Inner) (h : (r : ℕ) → Each (λ x. x.1 ≤ n) (inner r)) where
    pub so : (limit : ℕ) (r : ℕ) (x : Expr) (d : ℕ) → 1 ≤ d → d ≤ limit
        → Each (Deep limit) (give (e.so_far r x d))
    so limit r x d i j = each_give (Deep limit) (e.so_far r x d) (i, j)

    d_extend : (x : SoFar) → x.depth ≤ n → (s : Suffix)
        → Each (Deep (suc n)) (e.extend inner x s)
    d_extend x k suffix.Field =
        each_after _ (one _) _ (λ w. so (suc n) _ _ _ (omega arith) (omega (arith, k)))
    d_extend x k suffix.Index =
        each_bind _ _ (inner 1) _ (h 1)
        (λ y i. each_after _ (one _) _ (λ _. so (suc n) _ _ _ (omega arith) (omega (arith, k, i))))
    d_extend x k (suffix.Operator o) = each_bind _ _ (inner (rank o + 1)) _ (h (rank o + 1))
        (λ y i. so (suc n) _ _ _ (omega arith) (omega (arith, k, i)))

    pub not_deep : (ts us : List Token) (y : SoFar) → one e.deep_at ts ≡ Ok (y, us) → ⊥
    not_deep [] us y q = cc
    not_deep (u ∷ ts) us y q = cc

    d_with : (x : SoFar) → Deep (suc n) x → (o : Option Suffix)
        → Each (Deep (suc n)) (e.with_suffix (suc n) inner x o)
    d_with x k None ts y us q = each_give (Deep (suc n)) x k ts y us q
    d_with x k (Some s) ts y us q = by (nat_lt x.depth (suc n)) refl q
      where
        by : (c : Bool) → nat_lt x.depth (suc n) ≡ c
            → (if c then e.extended inner x s ts else one e.deep_at ts) ≡ Ok (y, us)
            → Deep (suc n) y
        by true i p = let l = ltb-true x.depth (suc n) i in
            each_after (Deep (suc n)) (one e.passing) _ (λ _. d_extend x (omega (arith, l)) s) ts y
            us p
        by false i p = absurd (not_deep ts us y p)

    pub d_suffix : (least : ℕ) (x : SoFar) → Deep (suc n) x
        → Each (Deep (suc n)) (e.next_suffix (suc n) inner least x)
    d_suffix least x k ts y us q = d_with x k (e.suffix_of (next ts) x.rank least) ts y us q

    d_loop : (least : ℕ) (x : SoFar) → Deep (suc n) x
        → Each (Deep (suc n)) (all_of (e.goes_on least) (e.next_suffix (suc n) inner least) x)
    d_loop least x k = each_loop (e.goes_on least) (e.next_suffix (suc n) inner least)
        (Deep (suc n)) (λ y i. d_suffix least y i) x k

    d_continued : (least : ℕ) (x : SoFar) → Deep (suc n) x
        → Each (λ y. (1 ≤ y.1) × (y.1 ≤ suc n)) (e.continued (suc n) inner least x)
    d_continued least x k =
        each_bind (Deep (suc n)) _ (all_of (e.goes_on least) (e.next_suffix (suc n) inner least) x)
        _ (d_loop least x k) (λ y i. each_give _ _ i)

    d_argument : (end : Sign) → Each (λ x. x.1 ≤ n) (e.argument inner end)
    d_argument end =
        each_bind _ _ (inner 1) _ (h 1) (λ x i. each_after _ (one _) _ (λ _. each_give _ _ i))

    pub d_one : (p : Parts Expr) → p.depth ≤ n → Each (λ q. q.depth ≤ n) (e.field inner p)
    d_one p k =
        each_after _ (one _) _
        (λ w. each_after _ (one _) _
        (λ _. each_bind _ _ (inner 1) _ (h 1) (λ x i. each_give _ _ (omega (arith, i, k)))))

    d_after : (s : Start) → Each (Deep (suc n)) (e.after_start limits inner s)
    d_after (start.Leaf x) = so (suc n) _ _ _ (omega arith) (omega arith)
    d_after start.Empty =
        each_after _ (one _) _ (λ _. each_after _ (t.whole_type limits) _
        (λ x. each_after _ (one _) _ (λ _. so (suc n) _ _ _ (omega arith) (omega arith))))
    d_after start.Record =
        each_bind _ _ (e.field inner none) _ (d_one none (omega arith)) (λ p i.
        each_bind _ _ (all_of t.at_comma (e.next_field limits inner) p) _
        (each_loop t.at_comma (e.next_field limits inner) (λ q. q.depth ≤ n)
        (λ q k. each_after _ (one _) _ (λ _. d_one q k)) p i) (λ q j.
        each_after _ (one _) _ (λ _. so (suc n) _ _ _ (omega arith) (omega (arith, j)))))
    d_after start.List =
        each_bind _ _ (inner 1) _ (h 1) (λ x i.
        each_bind _ _ (all_of t.at_comma (e.next_member limits inner) (x.0 ∷ [], x.1)) _
        (each_loop t.at_comma (e.next_member limits inner) (λ m. m.1 ≤ n)
        (λ m k. each_after _ (one _) _
        (λ _. each_bind _ _ (inner 1) _ (h 1) (λ y j. each_give _ _ (omega (arith, k, j)))))
        (x.0 ∷ [], x.1) i) (λ m j.
        each_after _ (one _) _ (λ _. so (suc n) _ _ _ (omega arith) (omega (arith, j)))))
    d_after (start.Side s) =
        each_after _ (one _) _ (λ _. each_after _ (t.whole_type limits) _
        (λ o. each_after _ (one _) _
        (λ _. each_after _ (one _) _ (λ _. each_bind _ _ (e.argument inner sign.Close) _
        (d_argument sign.Close) (λ x i.
        so (suc n) _ _ _ (omega arith) (omega (arith, i)))))))
    d_after (start.Prefix u) = each_bind _ _ (inner (e.prefix_rank u)) _ (h (e.prefix_rank u))
        (λ x i. so (suc n) _ _ _ (omega arith) (omega (arith, i)))
    d_after (start.Call u) =
        each_after _ (one _) _ (λ _. each_bind _ _ (e.argument inner sign.Close) _
        (d_argument sign.Close) (λ x i. so (suc n) _ _ _ (omega arith) (omega (arith, i))))
    d_after start.Concat =
        each_after _ (one _) _ (λ _. each_bind _ _ (e.argument inner sign.Comma) _
        (d_argument sign.Comma) (λ x i. each_bind _ _ (e.argument inner sign.Close) _
        (d_argument sign.Close) (λ y j.
        so (suc n) _ _ _ (omega arith) (omega (arith, i, j)))))
    d_after start.Pick =
        each_after _ (one _) _ (λ _. each_bind _ _ (e.argument inner sign.Comma) _
        (d_argument sign.Comma) (λ x i. each_bind _ _ (e.argument inner sign.Comma) _
        (d_argument sign.Comma) (λ y j.
        each_bind _ _ (e.argument inner sign.Close) _ (d_argument sign.Close)
        (λ z k. so (suc n) _ _ _ (omega arith) (omega (arith, i, j, k))))))

    d_bare : (least : ℕ) → Each (Deep (suc n)) (e.bare limits (suc n) inner least)
    d_bare least = each_after _ (one (e.operand_start (suc n) least)) _ d_after

    d_enclosed : (x : SoFar) → Deep (suc n) x → Each (Deep (suc n)) (e.enclosed (suc n) inner x)
    d_enclosed x k = each_bind _ _ (e.continued (suc n) inner 1 x) _ (d_continued 1 x k)
        (λ y i. each_after _ (one _) _ (λ _. so (suc n) _ _ _ i.0 i.1))

    pub d_operand : (least : ℕ) → Each (Deep (suc n)) (e.operand limits (suc n) inner least)
    d_operand least [] x us q = d_bare least [] x us q
    d_operand least (u ∷ ts) x us q = by (d_operand 1 ts) (is_sign sign.Open u.kind) q
      where
        by : ((y : SoFar) (vs : List Token) → e.operand limits (suc n) inner 1 ts ≡ Ok (y, vs)
            → Deep (suc n) y) → (c : Bool)
            → (if c then bind (e.operand limits (suc n) inner 1 ts)
            (λ y vs. e.enclosed (suc n) inner y vs) else (e.bare limits) (suc n) inner least
            (u ∷ ts)) ≡ Ok (x, us) → Deep (suc n) x
        by m true p = let a = bound (e.operand limits (suc n) inner 1 ts) _ x us p in
            d_enclosed a.got (m a.got a.rest a.part) a.rest x us a.after
        by m false p = d_bare least (u ∷ ts) x us p

    d_layer : (least : ℕ)
        → Each (λ y. y.1 ≤ suc n) (e.expression_layer limits (suc n) inner least)
    d_layer least = each_bind (Deep (suc n)) _ (e.operand limits (suc n) inner least) _
        (d_operand least) (λ x k ts y us q. (d_continued least x k ts y us q).1)

  pub expression_depth : (n r : ℕ) → Each (λ x. x.1 ≤ n) (e.expression_within limits n r)
  unfolding e.expression_within
  expression_depth zero r ts x us q = cc
  expression_depth (suc n) r ts x us q =
      d_layer n (e.expression_within limits n) (λ l. expression_depth n l) r ts x us q

  -- ---- bodies

  module _ (n : ℕ) (inner : List Token → Out Block) (h : Each (λ x. x.1 ≤ n) inner) where
    pub less_one : suc n - 1 ≡ n
    less_one = omega arith

    d_value : Each (λ x. x.1 ≤ n) (b.value limits (suc n))
    d_value = subst (λ m. Each (λ x. x.1 ≤ n) (e.expression_within limits m 1)) (sym less_one)
        (expression_depth n 1)

    d_otherwise : Each (λ x. x.1 ≤ n) (b.otherwise inner)
    d_otherwise ts x us q = by _ q
      where
        by : (c : Bool)
            → (if c then bind (one (keyword_at keyword.Else) ts) (λ _ vs. inner vs) else give
            ([], 0) ts) ≡ Ok (x, us) → x.1 ≤ n
        by true p = each_after (λ y. y.1 ≤ n) (one _) _ (λ _. h) ts x us p
        by false p = each_give (λ y. y.1 ≤ n) ([], 0) (omega arith) ts x us p

    d_side : (k : Keyword) → Each (λ x. x.2 ≤ n) (b.side inner k)
    d_side k =
        each_after _ (one _) _
        (λ _. each_after _ (one _) _ (λ x. each_bind _ _ inner _ h (λ y i. each_give _ _ i)))

    d_start : (s : BodyStart) (line : ℕ)
        → Each (λ x. x.1 ≤ suc n) (b.after_start limits (suc n) inner s line)
    d_start begin.Let line =
        each_after _ (one _) _
        (λ x. each_after _ (one _) _ (λ _. each_bind _ _ (b.value limits (suc n)) _ d_value
        (λ y i. each_give _ _ (omega (arith, i)))))
    d_start begin.Emit line =
        each_after _ (numbered keyword.To) _ (λ o. each_bind _ _ (b.value limits (suc n)) _ d_value
        (λ y i. each_give _ _ (omega (arith, i))))
    d_start begin.If line =
        each_bind _ _ (b.value limits (suc n)) _ d_value
        (λ y i. each_bind _ _ inner _ h (λ z j. each_bind _ _ (b.otherwise inner) _ d_otherwise
        (λ w k. each_give _ _ (omega (arith, i, j, k)))))
    d_start begin.For line =
        each_after _ (one _) _
        (λ x. each_after _ (one _) _ (λ _. each_bind _ _ (b.value limits (suc n)) _ d_value
        (λ y i. each_bind _ _ inner _ h (λ z j. each_give _ _ (omega (arith, i, j))))))
    d_start begin.Case line =
        each_bind _ _ (b.value limits (suc n)) _ d_value
        (λ y i. each_bind _ _ (b.side inner keyword.Left) _ (d_side keyword.Left)
        (λ l j. each_bind _ _ (b.side inner keyword.Right) _ (d_side keyword.Right) (λ r k.
        each_give _ _ (omega (arith, i, j, k)))))

    d_body : Each (λ x. x.1 ≤ suc n) (b.body limits (suc n) inner)
    d_body = each_after _ (one (b.body_start (suc n))) _ (λ s. d_start s.0 s.1)

    d_block : Each (λ x. x.1 ≤ suc n) (b.block_layer limits (suc n) inner)
    d_block =
        each_after _ (one _) _
        (λ _. each_bind _ _ (all_of b.at_body (b.next_body limits (suc n) inner) ([], 0)) _
        (each_loop b.at_body (b.next_body limits (suc n) inner) (λ x. x.1 ≤ suc n)
        (λ x k. each_bind _ _ (b.body limits (suc n) inner) _ d_body
        (λ y i. each_give _ _ (omega (arith, k, i)))) ([], 0) (omega arith))
        (λ x k. each_after _ (one _) _ (λ _. each_give _ _ k)))

  pub block_depth : (n : ℕ) → Each (λ x. x.1 ≤ n) (b.block_within limits n)
  unfolding b.block_within
  block_depth zero ts x us q = cc
  block_depth (suc n) ts x us q = d_block n (b.block_within limits n) (block_depth n) ts x us q
