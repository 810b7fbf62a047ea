-- Parsers of operands and of expressions are open.
use Rattle.std.proofs.Common.{◌≡◌, ℕ, zero, suc, ◌≤◌, ◌<◌, length, nat_lt, List, [], ◌∷◌, ◌++◌, Bool, true, false, inl, inr, Ok, Err, if◌then◌else◌, refl, sym, ap, ◌∙◌, subst, arith}
use Rattle.flume_tokens.specs.declared.token.Token.{Token}
use Rattle.flume_tokens.specs.declared.sign.Sign.TheVariants as sign
use Rattle.flume_grammar.specs.declared.fault.ScriptKind.TheVariants.{TooDeep}
use Rattle.flume_grammar.specs.declared.start.Start.{Start}
use Rattle.flume_grammar.specs.declared.start.Start.TheVariants as start
use Rattle.flume_grammar.specs.declared.parts.SoFar.{SoFar}
use Rattle.flume_grammar.specs.declared.tree.Expr.TheVariants as tree
use Rattle.flume_grammar.specs.inner.Out.{Out, bind, at, one, passed, next}
use Rattle.flume_grammar.specs.inner.Reading.{is_sign}
use Rattle.flume_grammar.specs.inner.Expressions.{start_of, HasRoom, operand_start, so_far, Inner, passing, continued, prefix_rank, after_start, bare, enclosed, operand, expression_layer, expression_within}
use Rattle.flume_grammar.proofs.Sound.{gave, bound, one_token}
use Rattle.flume_grammar.proofs.Open.{Takes, takes_one, any, free, IsOpenAt, Starts, IsComplete, no_longer}
use Rattle.flume_grammar.proofs.OpenSmallest.{given, wanting, single}
use Rattle.flume_grammar.proofs.OpenAlike.{agree}
use Rattle.flume_grammar.proofs.OpenThen.{binds_at, then_}
use Rattle.flume_grammar.proofs.OpenNarrow.{narrower}
use Rattle.flume_grammar.proofs.OpenTokens.{owns_ok, a_name, token, sign_then}
use Rattle.flume_grammar.proofs.Depths.{Each, Deep, d_operand, expression_depth}
use Rattle.flume_grammar.specs.Limits.{Limits}
use Rattle.flume_grammar.proofs.Fair.{IsFair}
use Rattle.flume_grammar.proofs.Quiet.{quiet, Quiet, whole, quiet_given, owns_started, start_room, or_true}
use Rattle.flume_grammar.proofs.OpenParts.{o_record, o_list, o_call, o_sided, o_concat, o_pick, o_empty}
use Rattle.flume_grammar.proofs.OpenSuffixes.{one_more, o_continued}

module _ (limits : Limits) (fair : IsFair limits) where
  module _ (n : ℕ) (inner : Inner) (h : 1 ≤ n → (r : ℕ) → Quiet (inner r)) (deep : (r : ℕ)
      → Each (λ x. x.1 ≤ n) (inner r)) where
    -- ---- operands

    pub o_after : (s : Start) → HasRoom s (suc n) → Quiet (after_start limits inner s)
    o_after (start.Leaf x) i = given any quiet _ (free quiet)
    o_after start.Empty i = whole (o_empty limits fair)
    o_after start.Record i = whole (o_record limits fair inner
        (h (one_more limits fair n inner h deep i)))
    o_after start.List i = whole (o_list limits fair inner
        (h (one_more limits fair n inner h deep i)))
    o_after (start.Side s) i =
        whole (o_sided limits fair inner (h (one_more limits fair n inner h deep i)) s)
    o_after (start.Prefix u) i =
        then_ any quiet quiet (inner (prefix_rank u)) _ (h (one_more limits fair n inner h deep i)
        (prefix_rank u))
        (λ x _. quiet_given _)
    o_after (start.Call u) i =
        whole (o_call limits fair inner (h (one_more limits fair n inner h deep i)) u)
    o_after start.Concat i = whole (o_concat limits fair inner
        (h (one_more limits fair n inner h deep i)))
    o_after start.Pick i = whole (o_pick limits fair inner
        (h (one_more limits fair n inner h deep i)))

    name_starts : (least : ℕ)
        → operand_start (suc n) least a_name ≡ Ok (start.Leaf (tree.Name (97 ∷ [])))
    name_starts least =
        ap (λ b. if b then Ok (start.Leaf (tree.Name (97 ∷ []))) else Err (at a_name TooDeep))
        (or_true (nat_lt 1 (suc n)))

    o_bare : (least : ℕ) → Quiet (bare limits (suc n) inner least)
    o_bare least =
        then_ any any quiet (one (operand_start (suc n) least)) (after_start limits inner)
        (token any (operand_start (suc n) least)
        (λ t. owns_started (suc n) least t (start_of t.kind)) a_name _ (name_starts least) tt)
        (λ s g. let x = one_token (operand_start (suc n) least) g.source s g.left g.is in
        o_after s (start_room (suc n) least x.token (start_of x.token.kind) s x.gives))

    -- ---- parentheses

    pub o_enclosed : (x : SoFar) → Deep (suc n) x → IsComplete quiet any (enclosed (suc n) inner x)
    o_enclosed x k = then_ quiet quiet any (continued (suc n) inner 1 x) _ (o_continued limits fair
        n inner h deep 1 x k)
        (λ y _. sign_then quiet any sign.Close _ (λ own least. refl)
        (λ _. given any any _ (free any)))

    -- what stands in a parenthesis, and its end
    abbrev pub inside : List Token → Out SoFar
    inside ts = bind (operand limits (suc n) inner 1 ts) (λ x us. enclosed (suc n) inner x us)

    abbrev pub opened : List Token → Out SoFar
    opened ts = bind (one passing ts) (λ _ us. inside us)

    pub is_bare : (least : ℕ) (t : Token) (us : List Token) → is_sign sign.Open t.kind ≡ false
        → operand limits (suc n) inner least (t ∷ us) ≡ bare limits (suc n) inner least (t ∷ us)
    is_bare least t us q =
        ap (λ b. if b then inside us else (bare limits) (suc n) inner least (t ∷ us)) q

    pub is_opened : (least : ℕ) (t : Token) (us : List Token) → is_sign sign.Open t.kind ≡ true
        → operand limits (suc n) inner least (t ∷ us) ≡ opened (t ∷ us)
    is_opened least t us q =
        ap (λ b. if b then inside us else (bare limits) (suc n) inner least (t ∷ us)) q

    bare_takes : (least : ℕ) → Takes (bare limits (suc n) inner least)
    bare_takes least ts x us e =
        let y = bound (one (operand_start (suc n) least) ts) (after_start limits inner) x us e in
        let z = one_token (operand_start (suc n) least) ts y.got y.rest y.part in
        let i = takes_one (operand_start (suc n) least) ts y.got y.rest y.part in
        let j = no_longer quiet (after_start limits inner y.got) y.rest x us
        ((o_after y.got (start_room (suc n) least z.token (start_of z.token.kind) y.got
        z.gives)).open_ y.rest) y.after in
        omega (arith, i, j)

    -- from nothing: a name
    operand_starts : (least : ℕ) → Starts any quiet (operand limits (suc n) inner least)
    operand_starts least = record {
      others = a_name ∷ [];
      got = so_far 8 (tree.Name (97 ∷ [])) 1;
      always = λ rest i. ap (λ r. bind (passed r rest) (after_start limits inner))
          (name_starts least);
      leads = λ rest i. tt;
    }

    -- one in parentheses: a name, and the end
    inside_starts : Starts any quiet inside
    unfolding operand_starts
    inside_starts =
        let x = so_far 8 (tree.Name (97 ∷ [])) 1 in
        let s = (o_enclosed x (omega arith, omega arith)).starts in
        record {
          others = a_name ∷ s.others;
          got = s.got;
          always = λ rest i. ap (λ o. bind o (enclosed (suc n) inner))
              ((operand_starts 1).always (s.others ++ rest) (s.leads rest (free quiet rest i)))
              ∙ s.always rest (free quiet rest i);
          leads = λ rest i. tt;
        }

    pub inside_open : (ts : List Token) → IsOpenAt quiet (operand limits (suc n) inner 1) ts
        → IsOpenAt quiet inside ts
    inside_open ts l =
        narrower quiet any inside ts (free quiet)
        (binds_at quiet any (operand limits (suc n) inner 1) (enclosed (suc n) inner) ts l
        (λ x us e. (o_enclosed x ((d_operand limits fair) n inner deep 1 ts x us e)).open_ us)
        (λ x
        g. (o_enclosed x
        ((d_operand limits fair) n inner deep 1 g.source x g.left g.is)).starts)
        (λ x
        g. (o_enclosed x
        ((d_operand limits fair) n inner deep 1 g.source x g.left g.is)).follows))

    -- an operand by its first token
    pub first : (least : ℕ) (t : Token) (ts : List Token)
        → IsOpenAt quiet (operand limits (suc n) inner 1) ts
        → IsOpenAt quiet (operand limits (suc n) inner least) (t ∷ ts)
    first least t ts l = by (is_sign sign.Open t.kind) refl
      where
        alike_ : (p : List Token → Out SoFar) → ((u : Token) (us : List Token) → u.kind ≡ t.kind
            → operand limits (suc n) inner least (u ∷ us) ≡ p (u ∷ us)) → (us : List Token)
            → next us ≡ next (t ∷ ts) → operand limits (suc n) inner least us ≡ p us
        alike_ p f [] e = cc
        alike_ p f (u ∷ us) e = let k : u.kind ≡ t.kind = cc in f u us k

        fewer : (x : SoFar) (us : List Token) → opened (t ∷ ts) ≡ Ok (x, us)
            → length us < length (t ∷ ts)
        fewer x us e = let j = no_longer quiet inside ts x us (inside_open ts l) e in
            omega (arith, j)

        by : (b : Bool) → is_sign sign.Open t.kind ≡ b
            → IsOpenAt quiet (operand limits (suc n) inner least) (t ∷ ts)
        by false q =
            agree quiet (operand limits (suc n) inner least) (bare limits (suc n) inner least)
            (t ∷ ts) (alike_ (bare limits (suc n) inner least)
            (λ u us k. is_bare least u us (ap (is_sign sign.Open) k ∙ q)))
            (λ x us e. bare_takes least (t ∷ ts) x us e)
            ((o_bare least).open_ (t ∷ ts))
        by true q =
            agree quiet (operand limits (suc n) inner least) opened (t ∷ ts)
            (alike_ opened (λ u us k. is_opened least u us (ap (is_sign sign.Open) k ∙ q)))
            fewer
            (binds_at any quiet (one passing) (λ _ us. inside us) (t ∷ ts)
            (single passing (λ u. owns_ok u tt) (t ∷ ts))
            (λ u us e. subst (IsOpenAt quiet inside) (gave tt u ts us e).1 (inside_open ts l))
            (λ u g. inside_starts)
            (λ u g vs x us e. inr (free quiet)))

    pub o_operand : (least : ℕ) (ts : List Token)
        → IsOpenAt quiet (operand limits (suc n) inner least) ts
    o_operand least [] = wanting quiet (operand limits (suc n) inner least) refl
    o_operand least (t ∷ ts) = first least t ts (o_operand 1 ts)

    operand_takes : (least : ℕ) → Takes (operand limits (suc n) inner least)
    operand_takes least [] x us e = cc
    operand_takes least (t ∷ ts) x us e = by (is_sign sign.Open t.kind) refl
      where
        by : (b : Bool) → is_sign sign.Open t.kind ≡ b → length us < length (t ∷ ts)
        by false q = bare_takes least (t ∷ ts) x us (sym (is_bare least t ts q) ∙ e)
        by true q = let j = no_longer quiet inside ts x us (inside_open ts (o_operand 1 ts))
            (sym (is_opened least t ts q) ∙ e) in omega (arith, j)

    pub o_layer : (least : ℕ) → Quiet (expression_layer limits (suc n) inner least)
    o_layer least =
        then_ any quiet quiet (operand limits (suc n) inner least)
        (λ x us. continued (suc n) inner least x us) (record {
          open_ = o_operand least;
          starts =
              operand_starts least;
          follows = λ ts x us e. inl (operand_takes least ts x us e);
        })
        (λ x g. o_continued limits fair n inner h deep least x
        ((d_operand limits fair) n inner deep least g.source x g.left g.is))

  pub complete_expression : (n : ℕ) → 1 ≤ n → (r : ℕ) → Quiet (expression_within limits n r)
  unfolding expression_within
  complete_expression zero i r = absurd (omega (arith, i))
  complete_expression (suc n) i r =
      o_layer n (expression_within limits n) (λ j l. complete_expression n j l)
      ((expression_depth limits fair) n) r
