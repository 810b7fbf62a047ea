-- Bodies of the grammar are read.
use Rattle.std.proofs.Common.{◌≡◌, ℕ, zero, suc, ◌-◌, ◌≤◌, ◌<◌, max, length, nat_le, List, [], ◌∷◌, ◌++◌, true, false, Some, None, Ok, Err, refl, ap, ◌∙◌, arith, if◌then◌else◌}
use Rattle.std.proofs.lemmas.Bool.{le-leb}
use Rattle.flume_tokens.specs.declared.token.Token.{Token}
use Rattle.flume_tokens.specs.declared.keyword.Keyword.{Keyword}
use Rattle.flume_tokens.specs.declared.keyword.Keyword.TheVariants as keyword
use Rattle.flume_tokens.specs.declared.sign.Sign.TheVariants as sign
use Rattle.flume_grammar.specs.declared.fault.ScriptKind.TheVariants.{TooDeep}
use Rattle.flume_grammar.specs.declared.start.BodyStart.{BodyStart}
use Rattle.flume_grammar.specs.declared.start.BodyStart.TheVariants as begin
use Rattle.flume_grammar.specs.declared.tree.Expr.{Expr}
use Rattle.flume_grammar.specs.declared.tree.Body.{Body}
use Rattle.flume_grammar.specs.inner.Out.{give, bind, at, one, passed, next, all_of}
use Rattle.flume_grammar.specs.inner.Reading.{sign_at, keyword_at, name_at, is_at_keyword, numbered}
use Rattle.flume_grammar.specs.inner.Expressions.{suffix_of, expression_within}
use Rattle.flume_grammar.specs.inner.Bodies as b
use Rattle.flume_grammar.specs.inner.Bodies.{value, block_within, whole_block}
use Rattle.flume_grammar.specs.Grammar as g
use Rattle.flume_grammar.specs.Terminals.{keyword_token, mark, name_token}
use Rattle.flume_grammar.specs.Grammar.{IsExpr, IsBody, IsBlock, AreBodies}
use Rattle.flume_grammar.proofs.Loops.{Reaches, reaches_start, reaches_next, reaches_end}
use Rattle.flume_grammar.proofs.Complete.{went, taken, same_key, complete_numbered, shorter_numbered}
use Rattle.flume_grammar.proofs.Ranks.{Fits}
use Rattle.flume_grammar.proofs.Sizes.{shorter, positive, no_to}
use Rattle.flume_grammar.proofs.CompleteExpr.{complete_expression}
use Rattle.flume_grammar.specs.Limits.{Limits}
use Rattle.flume_grammar.proofs.Fair.{IsFair}

module _ (limits : Limits) (fair : IsFair limits) where
  -- what may stand after a statement of a body: no suffix goes on with it, and no `else`
  record Ends (us : List Token) : Type 0 where
    fits : (Fits limits fair) 1 us
    stops : (own : ℕ) → suffix_of (next us) own 1 ≡ None
    no_else : is_at_keyword keyword.Else (next us) ≡ false

  begins_ends : {us vs : List Token} {x : Body} {a : ℕ} → IsBody limits us vs x a → Ends us
  begins_ends (g.let_ x) = record { fits = (tt, tt); stops = λ own. refl; no_else = refl }
  begins_ends (g.emit o x) = record { fits = (tt, tt); stops = λ own. refl; no_else = refl }
  begins_ends (g.if_ x y) = record { fits = (tt, tt); stops = λ own. refl; no_else = refl }
  begins_ends (g.if_else x y z) = record { fits = (tt, tt); stops = λ own. refl; no_else = refl }
  begins_ends (g.for_ x y) = record { fits = (tt, tt); stops = λ own. refl; no_else = refl }
  begins_ends (g.case_ x y z) = record { fits = (tt, tt); stops = λ own. refl; no_else = refl }

  begins_body : {us vs : List Token} {x : Body} {a : ℕ} → IsBody limits us vs x a
      → b.begins_body (next us) ≡ true
  begins_body (g.let_ x) = refl
  begins_body (g.emit o x) = refl
  begins_body (g.if_ x y) = refl
  begins_body (g.if_else x y z) = refl
  begins_body (g.for_ x y) = refl
  begins_body (g.case_ x y z) = refl

  brace_ends : (n : ℕ) (us : List Token) → Ends (mark sign.CloseBrace n ∷ us)
  brace_ends n us = record { fits = (tt, tt); stops = λ own. refl; no_else = refl }

  mutual
    shorter_body : {us vs : List Token} {x : Body} {a : ℕ} → IsBody limits us vs x a
        → length vs < length us
    shorter_body (g.let_ x) = let h = (shorter limits fair) x in omega (arith, h)
    shorter_body (g.emit o x) = let h = shorter_numbered o in let i = (shorter limits fair) x in
        omega (arith, h, i)
    shorter_body (g.if_ x y) = let h = (shorter limits fair) x in let i = shorter_block y in
        omega (arith, h, i)
    shorter_body (g.if_else x y z) = let h = (shorter limits fair) x in let i = shorter_block y in
        let j = shorter_block z in omega (arith, h, i, j)
    shorter_body (g.for_ x y) = let h = (shorter limits fair) x in let i = shorter_block y in
        omega (arith, h, i)
    shorter_body (g.case_ x y z) = let h = (shorter limits fair) x in let i = shorter_block y in
        let j = shorter_block z in omega (arith, h, i, j)

    pub shorter_block : {us vs : List Token} {ss : List Body} {a : ℕ} → IsBlock limits us vs ss a
        → length vs < length us
    shorter_block (g.braces x) = let h = shorter_bodies x in omega (arith, h)

    shorter_bodies : {us vs : List Token} {ss : List Body} {a : ℕ} → AreBodies limits us vs ss a
        → length vs ≤ length us
    shorter_bodies g.none_ = omega arith
    shorter_bodies (g.some x y) = let h = shorter_bodies x in let i = shorter_body y in
        omega (arith, h, i)

  -- an expression in a statement of depth at most n + 1
  abbrev ReadsValue : ℕ → List Token → List Token → Expr → ℕ → Type 0
  ReadsValue n ts us e a = value limits (suc n) ts ≡ Ok ((e, a), us)

  value_reads : {ts us : List Token} {e : Expr} {a : ℕ} → IsExpr limits 1 ts us e a → (n : ℕ)
      → a ≤ n → (Fits limits fair) 1 us → ((own : ℕ) → suffix_of (next us) own 1 ≡ None)
      → ReadsValue n ts us e a
  value_reads {ts} {us} {e} {a} x n h f s = let p : suc n - 1 ≡ n = omega arith in
      ap (λ m. (expression_within limits) m 1 ts) p ∙ (complete_expression limits fair) x n h f s

  body_starts : (limit : ℕ) (k : Keyword) (z : BodyStart) (n : ℕ) (us : List Token)
      → b.keyword_body k ≡ Some z → 2 ≤ limit
      → one (b.body_start limit) (keyword_token k n ∷ us) ≡ Ok ((z, n), us)
  body_starts limit k z n us e h =
      ap (λ o. passed (b.started limit (keyword_token k n) o) us) e
      ∙ ap (λ c. passed (if c then Ok (z, n) else Err (at (keyword_token k n) TooDeep)) us)
      (le-leb 2 limit h)

  same_name : (x : List ℕ) (n : ℕ) (us : List Token)
      → one name_at (name_token x n ∷ us) ≡ Ok (x, us)
  same_name x n us = refl

  side_reads : (n : ℕ) (k : Keyword) (m i a : ℕ) (x : List ℕ) (us vs : List Token) (ss : List Body)
      → block_within limits n us ≡ Ok ((ss, a), vs)
      → b.side (block_within limits n) k (keyword_token k m ∷ name_token x i ∷ us)
      ≡ Ok ((x, ss, a), vs)
  side_reads n k m i a x us vs ss q =
      went (one (keyword_at k) (keyword_token k m ∷ name_token x i ∷ us))
      (λ _ ws. bind (one name_at ws) (λ y xs. bind (block_within limits n xs)
      (λ c os. give (y, c.0, c.1) os))) tt (name_token x i ∷ us) _ (same_key k m _)
      (went (block_within limits n us) (λ c os. give (x, c.0, c.1) os) (ss, a) vs _ q refl)

  block_begins : {us vs : List Token} {ss : List Body} {a : ℕ} → IsBlock limits us vs ss a
      → (Fits limits fair) 1 us × ((own : ℕ) → suffix_of (next us) own 1 ≡ None)
  block_begins (g.braces x) = ((tt, tt), (λ own. refl))

  block_reads : (n l m a : ℕ) (ts us : List Token) (ss : List Body)
      → all_of b.at_body (b.next_body limits (suc n) (block_within limits n)) ([], 0) ts ≡ Ok
      ((ss, a), mark sign.CloseBrace m ∷ us)
      → block_within limits (suc n) (mark sign.OpenBrace l ∷ ts) ≡ Ok ((ss, a), us)
  unfolding block_within
  block_reads n l m a ts us ss q =
      went (all_of b.at_body (b.next_body limits (suc n) (block_within limits n)) ([], 0) ts)
      (λ c vs. bind (one (sign_at sign.CloseBrace) vs) (λ _ ws. give c ws)) (ss, a)
      (mark sign.CloseBrace m ∷ us) _ q refl

  block_is : (n l m a : ℕ) (ts us : List Token) (ss : List Body)
      → Reaches b.at_body (b.next_body limits (suc n) (block_within limits n))
      (all_of b.at_body (b.next_body limits (suc n) (block_within limits n)) ([], 0) ts) (ss, a)
      (mark sign.CloseBrace m ∷ us)
      → block_within limits (suc n) (mark sign.OpenBrace l ∷ ts) ≡ Ok ((ss, a), us)
  block_is n l m a ts us ss r =
      block_reads n l m a ts us ss
      (reaches_end b.at_body (b.next_body limits (suc n) (block_within limits n)) _ (ss, a)
      (mark sign.CloseBrace m ∷ us) r refl)

  mutual
    -- a statement of a body, in a block whose statements have depth at most n + 1
    complete_body : {us vs : List Token} {x : Body} {a : ℕ} → IsBody limits us vs x a → (n : ℕ)
        → a ≤ suc n → Ends vs
        → b.body limits (suc n) (block_within limits n) us ≡ Ok ((x, a), vs)
    complete_body (g.let_ {x} {n = l} {m} {k} {a} {ts} {us} {e} y) n h d =
        let p = (positive limits fair) y in
        went (one (b.body_start (suc n)) (keyword_token keyword.Let l ∷ name_token x m ∷ mark
        sign.Assign k ∷ ts)) _
        (begin.Let, l) (name_token x m ∷ mark sign.Assign k ∷ ts) _
        (body_starts (suc n) keyword.Let begin.Let l _ refl (omega (arith, h, p)))
        (went (value limits (suc n) ts) _ (e, a) us _
        (value_reads y n (omega (arith, h)) d.fits d.stops) refl)
    complete_body (g.emit {n = l} {a} {ts} {us} {vs} {to} {e} o y) n h d =
        let p = (positive limits fair) y in
        went (one (b.body_start (suc n)) (keyword_token keyword.Emit l ∷ ts)) _ (begin.Emit, l) ts _
        (body_starts (suc n) keyword.Emit begin.Emit l _ refl (omega (arith, h, p)))
        (went (numbered keyword.To ts) _ to us _
        (complete_numbered keyword.To o (no_to limits fair y))
        (went (value limits (suc n) us) _ (e, a) vs _
        (value_reads y n (omega (arith, h)) d.fits d.stops) refl))
    complete_body (g.if_ {n = l} {a} {b = c} {ts} {us} {vs} {e} {ss} y z) n h d =
        let p = (positive limits fair) y in
        let (f, o) = block_begins z in
        went (one (b.body_start (suc n)) (keyword_token keyword.If l ∷ ts)) _ (begin.If, l) ts _
        (body_starts (suc n) keyword.If begin.If l _ refl (omega (arith, h, p)))
        (went (value limits (suc n) ts) _ (e, a) us _ (value_reads y n (omega (arith, h)) f o)
        (went (block_within limits n us) _ (ss, c) vs _ (complete_block z n (omega (arith, h, p))
        (omega (arith, h)))
        (went (b.otherwise (block_within limits n) vs) _ ([], 0) vs _
        (ap (λ t. if t then bind (one (keyword_at keyword.Else) vs)
        (λ _ ws. (block_within limits) n ws) else give ([], 0) vs) d.no_else) refl)))
    complete_body (g.if_else {n = l} {m} {a} {b = c} {c = q} {ts} {us} {vs} {ws} {e} {ss} {rs} y z
        w) n h d =
        let p = (positive limits fair) y in
        let (f, o) = block_begins z in
        went (one (b.body_start (suc n)) (keyword_token keyword.If l ∷ ts)) _ (begin.If, l) ts _
        (body_starts (suc n) keyword.If begin.If l _ refl (omega (arith, h, p)))
        (went (value limits (suc n) ts) _ (e, a) us _ (value_reads y n (omega (arith, h)) f o)
        (went (block_within limits n us) _ (ss, c) (keyword_token keyword.Else m ∷ vs) _
        (complete_block z n (omega (arith, h, p)) (omega (arith, h)))
        (went (b.otherwise (block_within limits n) (keyword_token keyword.Else m ∷ vs)) _ (rs, q) ws
        _
        (complete_block w n (omega (arith, h, p)) (omega (arith, h))) refl)))
    complete_body (g.for_ {x} {n = l} {m} {k} {a} {b = c} {ts} {us} {vs} {e} {ss} y z) n h d =
        let p = (positive limits fair) y in
        let (f, o) = block_begins z in
        went (one (b.body_start (suc n)) (keyword_token keyword.For l ∷ name_token x m ∷
        keyword_token keyword.In k ∷ ts)) _
        (begin.For, l) (name_token x m ∷ keyword_token keyword.In k ∷ ts) _
        (body_starts (suc n) keyword.For begin.For l _ refl (omega (arith, h, p)))
        (went (value limits (suc n) ts) _ (e, a) us _ (value_reads y n (omega (arith, h)) f o)
        (went (block_within limits n us) _ (ss, c) vs _ (complete_block z n (omega (arith, h, p))
        (omega (arith, h))) refl))
    complete_body (g.case_ {x} {y = r} {n = l} {m} {k} {i} {j} {a} {b = c} {c =
        q} {ts} {us} {vs} {ws} {e} {ss} {rs} y z w) n h d =
        let p = (positive limits fair) y in
        went (one (b.body_start (suc n)) (keyword_token keyword.Case l ∷ ts)) _ (begin.Case, l) ts _
        (body_starts (suc n) keyword.Case begin.Case l _ refl (omega (arith, h, p)))
        (went (value limits (suc n) ts) _ (e, a) (keyword_token keyword.Left m ∷ name_token x k ∷
        us) _
        (value_reads y n (omega (arith, h)) (tt, tt) (λ own. refl))
        (went (b.side (block_within limits n) keyword.Left
        (keyword_token keyword.Left m ∷ name_token x k ∷ us)) _
        (x, ss, c) (keyword_token keyword.Right i ∷ name_token r j ∷ vs) _
        (side_reads n keyword.Left m k c x us _ ss (complete_block z n (omega (arith, h, p))
        (omega (arith, h))))
        (went (b.side (block_within limits n) keyword.Right
        (keyword_token keyword.Right i ∷ name_token r j ∷ vs))
        _ (r, rs, q) ws _ (side_reads n keyword.Right i j q r vs ws rs
        (complete_block w n (omega (arith, h, p)) (omega (arith, h)))) refl)))

    complete_block : {us vs : List Token} {ss : List Body} {a : ℕ} → IsBlock limits us vs ss a
        → (n : ℕ) → 1 ≤ n → a ≤ n → block_within limits n us ≡ Ok ((ss, a), vs)
    complete_block x zero o h = absurd (omega (arith, o))
    complete_block (g.braces {n = l} {m} {a} {ts} {us} {ss} x) (suc n) o h =
        block_is n l m a ts us ss (complete_bodies x n h (brace_ends m us))

    complete_bodies : {us vs : List Token} {ss : List Body} {a : ℕ} → AreBodies limits us vs ss a
        → (n : ℕ) → a ≤ suc n → Ends vs
        → Reaches b.at_body (b.next_body limits (suc n) (block_within limits n))
        (all_of b.at_body (b.next_body limits (suc n) (block_within limits n)) ([], 0) us)
        (ss, a) vs
    complete_bodies (g.none_ {ts}) n h d =
        reaches_start b.at_body (b.next_body limits (suc n) (block_within limits n)) ([], 0) ts
    complete_bodies (g.some {a} {b = c} {ts} {us} {vs} {s = z} {ss} x y) n h d =
        let r = complete_bodies x n (omega (arith, h)) (begins_ends y) in
        let k = shorter_body y in
        reaches_next b.at_body (b.next_body limits (suc n) (block_within limits n)) _ (ss, a)
        (ss ++ z ∷ [], max a c) us vs r (begins_body y)
        (went (b.body limits (suc n) (block_within limits n) us) _ (z, c) vs _
        (complete_body y n (omega (arith, h)) d) refl) k

  pub complete_whole_block : {us vs : List Token} {ss : List Body} {a : ℕ}
      → IsBlock limits us vs ss a → a ≤ limits.depth → whole_block limits us ≡ Ok (ss, vs)
  complete_whole_block {us} {vs} {ss} {a} x h =
      went (block_within limits limits.depth us) _ (ss, a) vs _
      (complete_block x limits.depth fair.depth h) (taken (nat_le a limits.depth) (give ss vs) _
      (le-leb a limits.depth h))
