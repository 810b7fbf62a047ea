-- Bodies that are read are in the grammar.
use Rattle.std.proofs.Common.{◌≡◌, ◌⊎◌, inl, inr, ℕ, zero, suc, ◌+◌, ◌-◌, max, nat_le, List, [], ◌∷◌, ◌++◌, Bool, true, false, Option, Some, None, IfSome, Ok, Err, if◌then◌else◌, refl, sym, ap, ◌∙◌, subst, lit≤}
use Rattle.flume_tokens.specs.declared.token.Token.{Token}
use Rattle.flume_tokens.specs.declared.token.TokenKind.TheVariants as kind
use Rattle.flume_tokens.specs.declared.keyword.Keyword.{Keyword}
use Rattle.flume_tokens.specs.declared.keyword.Keyword.TheVariants as keyword
use Rattle.flume_tokens.specs.declared.sign.Sign.TheVariants as sign
use Rattle.flume_grammar.specs.declared.fault.ScriptKind.TheVariants.{TooDeep}
use Rattle.flume_grammar.specs.declared.start.BodyStart.{BodyStart}
use Rattle.flume_grammar.specs.declared.tree.Expr.{Expr}
use Rattle.flume_grammar.specs.declared.tree.Body.{Body}
use Rattle.flume_grammar.specs.declared.tree.Body.TheVariants as body
use Rattle.flume_grammar.specs.inner.Out.{Out, give, bind, at, one, next, all_of}
use Rattle.flume_grammar.specs.inner.Reading.{keyword_at, is_at_keyword, numbered, of_keyword}
use Rattle.flume_grammar.specs.inner.Bodies as b
use Rattle.flume_grammar.specs.inner.Bodies.{Block, value, block_layer, block_within}
use Rattle.flume_grammar.specs.Grammar as g
use Rattle.flume_grammar.specs.Terminals.{keyword_token, mark, name_token}
use Rattle.flume_grammar.specs.Grammar.{IsExpr, IsBody, IsBlock, AreBodies}
use Rattle.flume_grammar.proofs.Sound.{bound, gave, moved_by, one_token}
use Rattle.flume_grammar.proofs.SoundTokens.{of_kind, past_sign, past_keyword, past_name, by_keyword, numbered_read}
use Rattle.flume_grammar.proofs.SoundLoops.{kept_all}
use Rattle.flume_grammar.proofs.SoundExpr.{sound_expression}
use Rattle.flume_grammar.specs.Limits.{Limits}
use Rattle.flume_grammar.proofs.Fair.{IsFair}

module _ (limits : Limits) (fair : IsFair limits) where
  -- ---- bodies

  abbrev SoundB : (List Token → Out Block) → Type 0
  SoundB p = (ts : List Token) (x : Block) (us : List Token) → p ts ≡ Ok (x, us)
      → IsBlock limits ts us x.0 x.1

  value_is : (limit : ℕ) (ts : List Token) (x : Expr × ℕ) (us : List Token)
      → value limits limit ts ≡ Ok (x, us) → IsExpr limits 1 ts us x.0 x.1
  value_is limit ts x us q = (sound_expression limits fair) (limit - 1) 1 ts x us (lit≤ tt) q

  abbrev IsRead : List Token → List Token → Body × ℕ → Type 0
  IsRead ts us x = IsBody limits ts us x.0 x.1

  -- what the parser reads behind this keyword is in the grammar
  abbrev Shows : Keyword → (ℕ → List Token → Out (Body × ℕ)) → Type 0
  Shows k p = (n : ℕ) (ts : List Token) (x : Body × ℕ) (us : List Token) → p n ts ≡ Ok (x, us)
      → IsRead (keyword_token k n ∷ ts) us x

  module _ (limit : ℕ) (inner : List Token → Out Block) (h : SoundB inner) where
    s_let : Shows keyword.Let (b.let_body limits limit)
    s_let n ts x us q =
        let a = past_name ts _ x us q in
        let c = past_sign sign.Assign a.rest _ x us a.after in
        let d = bound (value limits limit c.rest) _ x us c.after in
        let y : Body × ℕ = (body.Let n a.got d.got.0, d.got.1 + 1) in
        let v = gave y x d.rest us d.after in
        moved_by IsRead (keyword_token keyword.Let n ∷ name_token a.got a.line ∷ mark sign.Assign
        c.line ∷ c.rest) _
        d.rest us
        y x (ap (λ z. keyword_token keyword.Let n ∷ z) (a.is ∙ ap (λ z. name_token a.got a.line ∷ z)
        c.is)) v.1
        v.0
        (g.let_ (value_is limit c.rest d.got d.rest d.part))

    s_emit : Shows keyword.Emit (b.emit_body limits limit)
    s_emit n ts x us q =
        let a = bound (numbered keyword.To ts) _ x us q in
        let d = bound (value limits limit a.rest) _ x us a.after in
        let y : Body × ℕ = (body.Emit n a.got d.got.0, d.got.1 + 1) in
        let v = gave y x d.rest us d.after in
        moved_by IsRead (keyword_token keyword.Emit n ∷ ts) _ d.rest us y x refl v.1 v.0
        (g.emit (numbered_read keyword.To ts a.got a.rest a.part)
        (value_is limit a.rest d.got d.rest d.part))

    abbrev Otherwise : List Token → List Token → Block → Type 0
    Otherwise vs us c = ((c ≡ ([], 0)) × (vs ≡ us)) ⊎ ((m : ℕ) × (ws : List Token)
        × (vs ≡ keyword_token keyword.Else m ∷ ws) × IsBlock limits ws us c.0 c.1)

    s_otherwise : (vs : List Token) (c : Block) (us : List Token)
        → b.otherwise inner vs ≡ Ok (c, us) → Otherwise vs us c
    s_otherwise vs c us q = by (is_at_keyword keyword.Else (next vs)) q
      where
        by : (t : Bool)
            → (if t then bind (one (keyword_at keyword.Else) vs) (λ _ ws. inner ws) else give
            ([], 0) vs) ≡ Ok (c, us) → Otherwise vs us c
        by true p =
            let a = past_keyword keyword.Else vs _ c us p in
            inr (a.line, a.rest, a.is, h a.rest c us a.after)
        by false p = let v = gave ([], 0) c vs us p in inl (sym v.0, v.1)

    s_if : Shows keyword.If (b.if_body limits limit inner)
    s_if n ts x us q =
        let a = bound (value limits limit ts) _ x us q in
        let c = bound (inner a.rest) _ x us a.after in
        let d = bound (b.otherwise inner c.rest) _ x us c.after in
        let e = value_is limit ts a.got a.rest a.part in
        let f = h a.rest c.got c.rest c.part in
        let y : Body
        × ℕ = (body.If n a.got.0 c.got.0 d.got.0, max (max a.got.1 c.got.1) d.got.1 + 1) in
        let v = gave y x d.rest us d.after in
        elim (s_otherwise c.rest d.got d.rest d.part) [
          | inl (o, r) ↦
              (let z : Body × ℕ = (body.If n a.got.0 c.got.0 [], max (max a.got.1 c.got.1) 0 + 1) in
              moved_by IsRead (keyword_token keyword.If n ∷ ts) (keyword_token keyword.If n ∷ ts)
              c.rest us z x refl (r
              ∙ v.1)
              (ap (λ (k : Block). (
                body.If n a.got.0 c.got.0 k.0,
                max (max a.got.1 c.got.1) k.1 + 1,
              )) (sym o) ∙ v.0) (g.if_ e f))
          | inr (m, ws, r, k) ↦ moved_by IsRead (keyword_token keyword.If n ∷ ts)
              (keyword_token keyword.If n ∷ ts)
              d.rest us y x
              refl v.1 v.0 (g.if_else e (subst (λ z. (IsBlock limits) a.rest z c.got.0 c.got.1) r f)
              k)
        ]

    s_for : Shows keyword.For (b.for_body limits limit inner)
    s_for n ts x us q =
        let a = past_name ts _ x us q in
        let c = past_keyword keyword.In a.rest _ x us a.after in
        let d = bound (value limits limit c.rest) _ x us c.after in
        let e = bound (inner d.rest) _ x us d.after in
        let y : Body × ℕ = (body.For n a.got d.got.0 e.got.0, max d.got.1 e.got.1 + 1) in
        let v = gave y x e.rest us e.after in
        moved_by IsRead (keyword_token keyword.For n ∷ name_token a.got a.line ∷ keyword_token
        keyword.In c.line ∷ c.rest) _
        e.rest us y
        x (ap (λ z. keyword_token keyword.For n ∷ z) (a.is ∙ ap (λ z. name_token a.got a.line ∷ z)
        c.is)) v.1
        v.0
        (g.for_ (value_is limit c.rest d.got d.rest d.part) (h d.rest e.got e.rest e.part))

    record Sided (k : Keyword) (ts us : List Token) (x : List ℕ × List Body × ℕ) : Type 0 where
      n : ℕ
      m : ℕ
      vs : List Token
      start : ts ≡ keyword_token k n ∷ name_token x.0 m ∷ vs
      block : (IsBlock limits) vs us x.1 x.2

    s_side : (k : Keyword) (ts : List Token) (x : List ℕ × List Body × ℕ) (us : List Token)
        → b.side inner k ts ≡ Ok (x, us) → Sided k ts us x
    s_side k ts x us q =
        let a = past_keyword k ts _ x us q in
        let c = past_name a.rest _ x us a.after in
        let d = bound (inner c.rest) _ x us c.after in
        let v = gave (c.got, d.got.0, d.got.1) x d.rest us d.after in
        record {
          n = a.line;
          m = c.line;
          vs = c.rest;
          start = a.is ∙ ap (λ z. keyword_token k a.line ∷ z) c.is
              ∙ ap (λ (z : List ℕ × List Body × ℕ). keyword_token k a.line ∷ name_token z.0 c.line ∷
              c.rest) v.0;
          block = subst (λ (z : List ℕ × List Body × ℕ). (IsBlock limits) c.rest us z.1 z.2) v.0
              (subst (λ z. (IsBlock limits) c.rest z d.got.0 d.got.1) v.1
              (h c.rest d.got d.rest d.part));
        }

    s_case : Shows keyword.Case (b.case_body limits limit inner)
    s_case n ts x us q =
        let a = bound (value limits limit ts) _ x us q in
        let c = bound (b.side inner keyword.Left a.rest) _ x us a.after in
        let l = s_side keyword.Left a.rest c.got c.rest c.part in
        let d = bound (b.side inner keyword.Right c.rest) _ x us c.after in
        let r = s_side keyword.Right c.rest d.got d.rest d.part in
        let y : Body
        × ℕ = (
          body.Case n a.got.0 c.got.0 c.got.1 d.got.0 d.got.1,
          max (max a.got.1 c.got.2) d.got.2 + 1,
        ) in
        let v = gave y x d.rest us d.after in
        moved_by IsRead (keyword_token keyword.Case n ∷ ts) _ d.rest us y x refl v.1 v.0
        (g.case_ (subst (λ z. (IsExpr limits) 1 ts z a.got.0 a.got.1) l.start
        (value_is limit ts a.got a.rest a.part))
        (subst (λ z. (IsBlock limits) l.vs z c.got.1 c.got.2) r.start l.block) r.block)

    started_inv : (t : Token) (o : Option BodyStart) (z : BodyStart × ℕ)
        → b.started limit t o ≡ Ok z → (o ≡ Some z.0) × (t.line ≡ z.1)
    started_inv t None z q = cc
    started_inv t (Some r) z q = by (nat_le 2 limit) q
      where
        by : (a : Bool) → (if a then Ok (r, t.line) else Err (at t TooDeep)) ≡ Ok z
            → (Some r ≡ Some z.0) × (t.line ≡ z.1)
        by true p = let e : (r, t.line) ≡ z = cc in
            (ap (λ (y : BodyStart × ℕ). Some y.0) e, ap (λ (y : BodyStart × ℕ). y.1) e)
        by false p = cc

    s_after : (k : Keyword)
        → IfSome (b.keyword_body k) (λ z. Shows k (b.after_start limits limit inner z))
    s_after keyword.Let = s_let
    s_after keyword.Emit = s_emit
    s_after keyword.If = s_if
    s_after keyword.For = s_for
    s_after keyword.Case = s_case
    s_after _ = tt

    s_body : (ts : List Token) (x : Body × ℕ) (us : List Token)
        → b.body limits limit inner ts ≡ Ok (x, us) → IsRead ts us x
    s_body ts x us q =
        let a = bound (one (b.body_start limit) ts) _ x us q in
        let t = one_token (b.body_start limit) ts a.got a.rest a.part in
        let i = started_inv t.token (of_keyword b.keyword_body t.token.kind) a.got t.gives in
        let k = by_keyword b.keyword_body (λ j z. Shows j (b.after_start limits limit inner z))
        s_after t.token.kind a.got.0 i.0 in
        subst (λ z. IsRead z us x) (sym (t.is ∙ ap (λ z. z ∷ a.rest)
        (of_kind t.token (kind.Keyword k.0) k.1 ∙ ap (keyword_token k.0) i.1)))
        (k.2 a.got.1 a.rest x us a.after)

    abbrev BodiesOf : List Token → Block → List Token → Type 0
    BodiesOf ts c us = AreBodies limits ts us c.0 c.1

    s_next : (ts : List Token) (c : Block) (vs : List Token) (d : Block) (us : List Token)
        → BodiesOf ts c vs → b.next_body limits limit inner c vs ≡ Ok (d, us) → BodiesOf ts d us
    s_next ts c vs d us e q =
        let a = bound (b.body limits limit inner vs) _ d us q in
        let v = gave (c.0 ++ a.got.0 ∷ [], max c.1 a.got.1) d a.rest us a.after in
        subst (λ z. BodiesOf ts z us) v.0
        (subst (BodiesOf ts (c.0 ++ a.got.0 ∷ [], max c.1 a.got.1)) v.1
        (g.some e (s_body vs a.got a.rest a.part)))

    s_block : SoundB (block_layer limits limit inner)
    s_block ts x us q =
        let a = past_sign sign.OpenBrace ts _ x us q in
        let c = bound (all_of b.at_body (b.next_body limits limit inner) ([], 0) a.rest) _ x us
        a.after in
        let f = kept_all b.at_body (b.next_body limits limit inner) (BodiesOf a.rest)
        (λ p vs r ws t k e. s_next a.rest p vs r ws k e) ([], 0) a.rest c.got c.rest g.none_
        c.part in
        let d = past_sign sign.CloseBrace c.rest _ x us c.after in
        let v = gave c.got x d.rest us d.after in
        let y : (AreBodies limits) a.rest (mark sign.CloseBrace d.line ∷ us) c.got.0 c.got.1 = subst
        (λ z. (AreBodies limits) a.rest z c.got.0 c.got.1) (d.is
        ∙ ap (λ z. mark sign.CloseBrace d.line ∷ z) v.1) f in
        subst (λ z. (IsBlock limits) z us x.0 x.1) (sym a.is)
        (subst (λ (z : Block). (IsBlock limits) (mark sign.OpenBrace a.line ∷ a.rest) us z.0
        z.1) v.0 (g.braces y))

  pub sound_block : (n : ℕ) → SoundB (block_within limits n)
  unfolding block_within
  sound_block zero ts x us q = cc
  sound_block (suc n) ts x us q =
      s_block (suc n) (block_within limits n) (sound_block n) ts x us q
