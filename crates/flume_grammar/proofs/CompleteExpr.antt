-- Expressions of the grammar are read.
use Rattle.std.proofs.Common.{◌≡◌, ℕ, suc, ◌+◌, ◌≤◌, max, length, length-append, nat_lt, List, [], ◌∷◌, ◌++◌, true, false, ◌==◌, None, Ok, refl, sym, subst, arith, lit≤}
use Rattle.std.proofs.lemmas.Bool.{le-leb, eq-eqb}
use Rattle.flume_tokens.specs.declared.token.Token.{Token}
use Rattle.flume_tokens.specs.declared.keyword.Keyword.TheVariants as keyword
use Rattle.flume_tokens.specs.declared.sign.Sign.TheVariants as sign
use Rattle.flume_grammar.specs.declared.parts.Parts.{Parts}
use Rattle.flume_grammar.specs.declared.start.Start.TheVariants as start
use Rattle.flume_grammar.specs.declared.parts.Suffix.TheVariants as suffix
use Rattle.flume_grammar.specs.declared.tree.Unary.TheVariants as unary
use Rattle.flume_grammar.specs.declared.tree.Expr.{Expr}
use Rattle.flume_grammar.specs.declared.tree.Expr.TheVariants as tree
use Rattle.flume_grammar.specs.inner.Out.{one, next, all_of}
use Rattle.flume_grammar.specs.inner.Reading.{word_at, comma_at}
use Rattle.flume_grammar.specs.Parts.{none, with_named_part}
use Rattle.flume_grammar.specs.inner.Types.{at_comma, whole_type}
use Rattle.flume_grammar.specs.Operators.{rank, left_rank}
use Rattle.flume_grammar.specs.inner.Expressions.{operand_start, so_far, suffix_of, continued, field, next_field, next_member, operand, expression_within}
use Rattle.flume_grammar.specs.Grammar as g
use Rattle.flume_grammar.specs.Terminals.{keyword_token, mark, number_token, text_token, name_token}
use Rattle.flume_grammar.specs.Grammar.{IsExpr, AreFields, AreMembers}
use Rattle.flume_grammar.proofs.Loops.{Reaches, reaches_start, reaches_next, reaches_end}
use Rattle.flume_grammar.proofs.Complete.{went, taken, same_word, same_comma, field_on, next_on, complete_whole}
use Rattle.flume_grammar.specs.Limits.{Limits}
use Rattle.flume_grammar.proofs.Fair.{IsFair}
use Rattle.flume_grammar.proofs.Ranks.{OpFits, Fits, fits_up, rank_left, rank_high, under_not, stops, goes, no_post}
use Rattle.flume_grammar.proofs.Sizes.{shorter, positive, positive_fields, positive_members}
use Rattle.flume_grammar.proofs.Comes.{Comes, comes_at, comes_end, comes_on, or_true, begins, deep, raise, full, inside, arg, call_start, side_start, keyed_operand, leaf}

module _ (limits : Limits) (fair : IsFair limits) where
  mutual
    complete_expr : {r d : ℕ} {ts us : List Token} {e : Expr} → IsExpr limits r ts us e d
        → (m least : ℕ) → d ≤ suc m → least ≤ r → least ≤ 7 → Fits limits fair r us → Comes limits
        fair m least ts us e d r
    complete_expr (g.above {r} {a} {ts} {us} {e} x) m least h l k f =
        raise limits fair m least r a ts us e (complete_expr x m least h (omega (arith, l)) k
        (fits_up limits fair r (r + 1) us (omega arith) f))
    complete_expr (g.binary {t} {o} {a} {b} {ts} {us} {vs} {e} {f = z} w x y) m least h l k f =
        let rl = rank_left limits fair o in
        let rh = rank_high limits fair o in
        let c = complete_expr x m least (omega (arith, h)) (omega (arith, l, rl)) k (
          subst (OpFits limits fair (left_rank o)) (sym w) (omega arith),
          no_post limits fair (left_rank o) o t.kind w,
        ) in
        let i = full limits fair m (rank o + 1) b us vs z (positive limits fair y)
        (omega (arith, h))
        (λ n q. complete_expr y n (rank o + 1) q (omega arith) (omega (arith, rh))
        (fits_up limits fair (rank o) (rank o + 1) vs (omega arith) f))
        (λ own. stops limits fair (rank o) (rank o + 1) (omega (arith, rh)) (λ p j. let pl =
        rank_left limits fair p in
        omega (arith, j, pl)) own vs f) in
        let s = shorter limits fair y in
        comes_on limits fair m least ts us vs t e a (left_rank o) c (suffix.Operator o)
        (so_far (rank o) (tree.Binary o e z) (max a b + 1))
        (goes limits fair o c.own least t.kind w l c.high) (omega (arith, h))
        (went (expression_within limits m (rank o + 1) us) _ (z, b) vs _ i refl)
        (omega (arith, s)) (omega (arith, rh))
    complete_expr (g.not_ {n} {a} {ts} {us} {e} x) m least h l k f =
        let p = positive limits fair x in
        let i = full limits fair m 3 a ts us e p (omega (arith, h)) (λ n q. complete_expr x n 3 q
        (omega arith)
        (lit≤ tt) f) (λ own. stops limits fair 3 3 (lit≤ tt) (under_not limits fair) own us f) in
        comes_at limits fair m least 3 (a + 1) 3 (keyword_token keyword.Not n ∷ ts) us
        (tree.Unary unary.Not e) (lit≤ tt)
        (lit≤ tt)
        (keyed_operand limits fair m least keyword.Not n (start.Prefix unary.Not) ts us _ refl
        (le-leb least 3 l) (deep limits fair (suc m) false (omega (arith, h, p)))
        (went (expression_within limits m 3 ts) _ (e, a) us _ i refl))
    complete_expr (g.negate {n} {a} {ts} {us} {e} x) m least h l k f =
        let p = positive limits fair x in
        let i = full limits fair m 7 a ts us e p (omega (arith, h)) (λ n q. complete_expr x n 7 q
        (omega arith)
        (lit≤ tt) f) (λ own. stops limits fair 7 7 (lit≤ tt) (λ o j. let oh = rank_high limits fair
        o in
        omega (arith, oh)) own us f) in
        comes_at limits fair m least 7 (a + 1) 7 (mark sign.Minus n ∷ ts) us
        (tree.Unary unary.Negate e)
        (lit≤ tt) (lit≤ tt)
        (went (one (operand_start (suc m) least) (mark sign.Minus n ∷ ts)) _
        (start.Prefix unary.Negate) ts _ (begins limits fair (suc m) least (mark sign.Minus n)
        (start.Prefix unary.Negate) ts refl (deep limits fair (suc m) false (omega (arith, h, p))))
        (went (expression_within limits m 7 ts) _ (e, a) us _ i refl))
    complete_expr (g.field {w} {x = name_} {n} {a} {ts} {us} {e} x v) m least h l k f =
        let c = complete_expr x m least (omega (arith, h)) l k (tt, lit≤ tt) in
        let own : c.own ≡ 8 = omega (arith, c.high, c.low) in
        comes_on limits fair m least ts (w ∷ us) us (mark sign.Dot n) e a 8 c suffix.Field
        (so_far 8 (tree.Field e name_) (a + 1)) (taken (c.own == 8) _ _ (eq-eqb c.own 8 own))
        (omega (arith, h))
        (went (one word_at (w ∷ us)) _ name_ us _ (same_word w name_ us v) refl) (omega arith)
        (lit≤ tt)
    complete_expr (g.index {n} {m = o} {a} {b} {ts} {us} {vs} {e} {f = z} x y) m least h l k f =
        let c = complete_expr x m least (omega (arith, h)) l k (tt, lit≤ tt) in
        let own : c.own ≡ 8 = omega (arith, c.high, c.low) in
        let i = full limits fair m 1 b us (mark sign.CloseBracket o ∷ vs) z (positive limits fair y)
        (omega (arith, h))
        (λ n q. complete_expr y n 1 q (omega arith) (lit≤ tt) (tt, tt)) (λ own. refl) in
        let s = shorter limits fair y in
        comes_on limits fair m least ts us vs (mark sign.OpenBracket n) e a 8 c suffix.Index
        (so_far 8 (tree.Index e z) (max a b + 1)) (taken (c.own == 8) _ _ (eq-eqb c.own 8 own))
        (omega (arith, h))
        (went (expression_within limits m 1 us) _ (z, b) (mark sign.CloseBracket o ∷ vs) _ i refl)
        (omega (arith, s)) (lit≤ tt)
    complete_expr (g.num {digits} {n} {ts}) m least h l k f =
        leaf limits fair m least (number_token digits n) (tree.Number digits) ts refl refl
    complete_expr (g.textlit {content} {n} {ts}) m least h l k f =
        leaf limits fair m least (text_token content n) (tree.Text content) ts refl refl
    complete_expr (g.true_ {n} {ts}) m least h l k f =
        leaf limits fair m least (keyword_token keyword.True n) (tree.Bool true) ts refl refl
    complete_expr (g.false_ {n} {ts}) m least h l k f =
        leaf limits fair m least (keyword_token keyword.False n) (tree.Bool false) ts refl refl
    complete_expr (g.variable {x} {n} {ts}) m least h l k f =
        leaf limits fair m least (name_token x n) (tree.Name x) ts refl refl
    complete_expr (g.paren {n} {m = o} {a} {ts} {us} {e} x) m least h l k f =
        let c = complete_expr x m 1 h (omega arith) (lit≤ tt) (tt, tt) in
        let (y, vs, p, q) = inside limits fair m ts (mark sign.Close o ∷ us) (e, a)
        (comes_end limits fair m 1 ts (mark sign.Close o ∷ us) e a 1 c refl) in
        comes_at limits fair m least 8 a 8 (mark sign.Open n ∷ ts) us e (lit≤ tt) (lit≤ tt)
        (went (operand limits (suc m) (expression_within limits m) 1 ts) _ y vs _ p
        (went (continued (suc m) (expression_within limits m) 1 y vs) _ (e, a)
        (mark sign.Close o ∷ us) _ q refl))
    complete_expr (g.literal {n} {m = o} {ts} {us} {p} x w) m least h l k f =
        let pos = positive_fields limits fair x in
        let (q, vs, i, r) = complete_fields x m (omega (arith, h)) w (tt, tt) (λ own. refl) in
        comes_at limits fair m least 8 (p.depth + 1) 8 (mark sign.OpenBrace n ∷ ts) us
        (tree.Record p.names p.parts) (lit≤ tt) (lit≤ tt)
        (went (one (operand_start (suc m) least) (mark sign.OpenBrace n ∷ ts)) _ start.Record ts _
        (begins limits fair (suc m) least (mark sign.OpenBrace n) start.Record ts refl
        (deep limits fair (suc m) false (omega (arith, h, pos))))
        (went (field (expression_within limits m) none ts) _ q vs _ i
        (went (all_of at_comma (next_field limits (expression_within limits m)) q vs) _ p
        (mark sign.CloseBrace o ∷ us) _
        (reaches_end at_comma (next_field limits (expression_within limits m)) _ p _ r refl)
        refl)))
    complete_expr (g.members {n} {m = o} {a} {ts} {us} {es} x w) m least h l k f =
        let pos = positive_members limits fair x in
        let (z, vs, i, r) = complete_members x m (omega (arith, h)) w (tt, tt) (λ own. refl) in
        comes_at limits fair m least 8 (a + 1) 8 (mark sign.OpenBracket n ∷ ts) us (tree.List es)
        (lit≤ tt)
        (lit≤ tt)
        (went (one (operand_start (suc m) least) (mark sign.OpenBracket n ∷ ts)) _ start.List ts _
        (begins limits fair (suc m) least (mark sign.OpenBracket n) start.List ts refl
        (deep limits fair (suc m) false (omega (arith, h, pos))))
        (went (expression_within limits m 1 ts) _ z vs _ i
        (went (all_of at_comma (next_member limits (expression_within limits m))
        (z.0 ∷ [], z.1) vs) _ (es, a) (mark sign.CloseBracket o ∷ us) _
        (reaches_end at_comma (next_member limits (expression_within limits m)) _
        (es, a) _ r refl)
        refl)))
    complete_expr (g.empty {n} {m = o} {k = i} {ts} {us} {t} w) m least h l k f =
        comes_at limits fair m least 8 1 8 (keyword_token keyword.Empty n ∷ mark sign.Less o ∷ ts)
        us
        (tree.Empty t)
        (lit≤ tt) (lit≤ tt)
        (keyed_operand limits fair m least keyword.Empty n start.Empty (mark sign.Less o ∷ ts) us _
        refl refl
        (or_true limits fair (nat_lt 1 (suc m)))
        (went (whole_type limits ts) _ t (mark sign.Greater i ∷ us) _
        ((complete_whole limits fair) w) refl))
    complete_expr (g.sided {k = word} {s} {n} {m = o} {i} {j} {o = q} {a} {ts} {us} {vs} {t} {e} c w
        x) m least h l k f =
        let p = positive limits fair x in
        comes_at limits fair m least 8 (a + 1) 8 (keyword_token word n ∷ mark sign.Less o ∷ ts) vs
        (tree.Side s t e)
        (lit≤ tt) (lit≤ tt)
        (keyed_operand limits fair m least word n (start.Side s) (mark sign.Less o ∷ ts) vs _
        (side_start limits fair word s c) refl (deep limits fair (suc m) false
        (omega (arith, h, p)))
        (went (whole_type limits ts) _ t (mark sign.Greater i ∷ mark sign.Open j ∷ us) _
        ((complete_whole limits fair) w)
        (arg limits fair m sign.Close q a us vs e p (omega (arith, h))
        (λ z b. complete_expr x z 1 b (omega arith) (lit≤ tt) (tt, tt)) (λ own. refl) _ _ refl)))
    complete_expr (g.call {k = word} {u} {n} {m = o} {i} {a} {ts} {us} {e} c x) m least h l k f =
        let p = positive limits fair x in
        comes_at limits fair m least 8 (a + 1) 8 (keyword_token word n ∷ mark sign.Open o ∷ ts) us
        (tree.Unary u e)
        (lit≤ tt) (lit≤ tt)
        (keyed_operand limits fair m least word n (start.Call u) (mark sign.Open o ∷ ts) us _
        (call_start limits fair word u c) refl (deep limits fair (suc m) false
        (omega (arith, h, p)))
        (arg limits fair m sign.Close i a ts us e p (omega (arith, h))
        (λ z b. complete_expr x z 1 b (omega arith) (lit≤ tt) (tt, tt)) (λ own. refl) _ _ refl))
    complete_expr (g.concat {n} {m = o} {i} {j} {a} {b} {ts} {us} {vs} {e} {f = z} x y) m least h l
        k f =
        let p = positive limits fair x in
        comes_at limits fair m least 8 (max a b + 1) 8 (keyword_token keyword.Concat n ∷ mark
        sign.Open o ∷
        ts) vs
        (tree.Concat e z) (lit≤ tt) (lit≤ tt)
        (keyed_operand limits fair m least keyword.Concat n start.Concat (mark sign.Open o ∷ ts) vs
        _ refl refl
        (deep limits fair (suc m) false (omega (arith, h, p)))
        (arg limits fair m sign.Comma i a ts us e p (omega (arith, h))
        (λ q b. complete_expr x q 1 b (omega arith) (lit≤ tt) (tt, tt)) (λ own. refl) _ _
        (arg limits fair m sign.Close j b us vs z (positive limits fair y) (omega (arith, h))
        (λ q c. complete_expr y q 1 c (omega arith) (lit≤ tt) (tt, tt)) (λ own. refl) _ _ refl)))
    complete_expr (g.pick {n} {m = o} {i} {j} {o = q} {a} {b} {c} {ts} {us} {vs} {ws} {e} {f =
        z} {g = y} x v w) m least h l k f =
        let p = positive limits fair x in
        comes_at limits fair m least 8 (max (max a b) c + 1) 8
        (keyword_token keyword.Pick n ∷ mark sign.Open
        o ∷ ts) ws
        (tree.Pick e z y) (lit≤ tt) (lit≤ tt)
        (keyed_operand limits fair m least keyword.Pick n start.Pick (mark sign.Open o ∷ ts) ws _
        refl refl
        (deep limits fair (suc m) false (omega (arith, h, p)))
        (arg limits fair m sign.Comma i a ts us e p (omega (arith, h))
        (λ d r. complete_expr x d 1 r (omega arith) (lit≤ tt) (tt, tt)) (λ own. refl) _ _
        (arg limits fair m sign.Comma j b us vs z (positive limits fair v) (omega (arith, h))
        (λ d r. complete_expr v d 1 r (omega arith) (lit≤ tt) (tt, tt)) (λ own. refl) _ _
        (arg limits fair m sign.Close q c vs ws y (positive limits fair w) (omega (arith, h))
        (λ d r. complete_expr w d 1 r (omega arith) (lit≤ tt) (tt, tt)) (λ own. refl) _ _ refl))))

    complete_fields : {ts us : List Token} {p : Parts Expr} → AreFields limits ts us p → (m : ℕ)
        → p.depth ≤ m → length p.names ≤ limits.fields → Fits limits fair 1 us
        → ((own : ℕ) → suffix_of (next us) own 1 ≡ None)
        → (q : Parts Expr) × (vs : List Token)
        × (field (expression_within limits m) none ts ≡ Ok (q, vs))
        × Reaches at_comma (next_field limits (expression_within limits m))
        (all_of at_comma (next_field limits (expression_within limits m)) q vs) p us
    complete_fields (g.first {w} {x} {n} {a} {ts} {us} {e} v y) m h l f s =
        let q = with_named_part none x e a in
        let i = full limits fair m 1 a ts us e (positive limits fair y) (omega (arith, h))
        (λ n b. complete_expr y n 1 b (omega arith) (lit≤ tt) f) s in (
          q,
          us,
          field_on (expression_within limits m 1) none w x n ts us e a v i,
          reaches_start at_comma (next_field limits (expression_within limits m)) q us,
        )
    complete_fields (g.next {w} {x} {n} {m = c} {a} {ts} {us} {vs} {e} {p} z v y) m h l f s =
        let j = length-append p.names (x ∷ []) in
        let (q, ws, o, r) = complete_fields z m (omega (arith, h)) (omega (arith, l, j)) (tt, tt)
        (λ own. refl) in
        let k = shorter limits fair y in
        let i = full limits fair m 1 a us vs e (positive limits fair y) (omega (arith, h))
        (λ n b. complete_expr y n 1 b (omega arith) (lit≤ tt) f) s in
        let step = next_on (expression_within limits m 1) p w x n us vs e a v i limits.fields c
        (omega (arith, l, j)) in (
          q,
          ws,
          o,
          reaches_next at_comma (next_field limits (expression_within limits m)) _ p
              (with_named_part p x e a) _ vs r refl step (omega (arith, k)),
        )

    complete_members : {a : ℕ} {ts us : List Token} {es : List Expr}
        → AreMembers limits ts us es a → (m : ℕ) → a ≤ m → length es ≤ limits.members → Fits limits
        fair 1 us
        → ((own : ℕ) → suffix_of (next us) own 1 ≡ None)
        → (z : Expr × ℕ) × (vs : List Token) × (expression_within limits m 1 ts ≡ Ok (z, vs))
        × Reaches at_comma (next_member limits (expression_within limits m))
        (all_of at_comma (next_member limits (expression_within limits m))
        (z.0 ∷ [], z.1) vs) (es, a) us
    complete_members (g.one {a} {ts} {us} {e} y) m h l f s =
        let i = full limits fair m 1 a ts us e (positive limits fair y) h (λ n b. complete_expr y n
        1 b (omega arith)
        (lit≤ tt) f) s in (
          (e, a),
          us,
          i,
          reaches_start at_comma (next_member limits (expression_within limits m))
              (e ∷ [], a) us,
        )
    complete_members (g.more {m = c} {a} {b} {ts} {us} {vs} {e} {es} x y) m h l f s =
        let j = length-append es (e ∷ []) in
        let (z, ws, o, r) = complete_members x m (omega (arith, h)) (omega (arith, l, j)) (tt, tt)
        (λ own. refl) in
        let k = shorter limits fair y in
        let i = full limits fair m 1 b us vs e (positive limits fair y) (omega (arith, h))
        (λ n q. complete_expr y n 1 q (omega arith) (lit≤ tt) f) s in
        let step : (next_member limits) (expression_within limits m) (es, a)
        (mark sign.Comma c ∷ us) ≡ Ok ((es ++ e ∷ [], max a b), vs) =
        went (one (comma_at (length es) limits.members) (mark sign.Comma c ∷ us)) _ tt us _
        (same_comma (length es) limits.members c us (omega (arith, l, j)))
        (went (expression_within limits m 1 us) _ (e, b) vs _ i refl) in (
          z,
          ws,
          o,
          reaches_next at_comma (next_member limits (expression_within limits m)) _
              (es, a) (es ++ e ∷ [], max a b) _ vs r refl step (omega (arith, k)),
        )

  -- a whole expression, before what no operator is
  pub complete_expression : {a : ℕ} {ts us : List Token} {e : Expr} → IsExpr limits 1 ts us e a
      → (n : ℕ) → a ≤ n → Fits limits fair 1 us → ((own : ℕ) → suffix_of (next us) own 1 ≡ None)
      → expression_within limits n 1 ts ≡ Ok ((e, a), us)
  complete_expression {a} {ts} {us} {e} x n h f s =
      full limits fair n 1 a ts us e (positive limits fair x) h (λ m b. complete_expr x m 1 b
      (omega arith) (lit≤ tt) f) s
