-- Types that are read are in the grammar.
use Rattle.std.proofs.Common.{◌≡◌, ℕ, zero, suc, ◌+◌, ◌≤◌, max, length, length-append, nat_lt, List, [], ◌∷◌, Bool, true, false, Ok, Err, if◌then◌else◌, refl, sym, ap, ◌∙◌, subst, arith}
use Rattle.flume_tokens.specs.declared.token.Token.{Token}
use Rattle.flume_tokens.specs.declared.token.TokenKind.{TokenKind}
use Rattle.flume_tokens.specs.declared.token.TokenKind.TheVariants as kind
use Rattle.flume_tokens.specs.declared.keyword.Keyword.{Keyword}
use Rattle.flume_tokens.specs.declared.keyword.Keyword.TheVariants as keyword
use Rattle.flume_tokens.specs.declared.sign.Sign.{Sign}
use Rattle.flume_tokens.specs.declared.sign.Sign.TheVariants as sign
use Rattle.flume_grammar.specs.declared.fault.ScriptKind.TheVariants.{TooDeep}
use Rattle.flume_grammar.specs.declared.parts.Parts.{Parts}
use Rattle.flume_grammar.specs.declared.start.TypeStart.{TypeStart}
use Rattle.flume_grammar.specs.declared.start.TypeStart.TheVariants as type_start_
use Rattle.flume_grammar.specs.declared.tree.Type.TheVariants as type_tree
use Rattle.flume_grammar.specs.inner.Out.{give, bind, at, one, all_of}
use Rattle.flume_grammar.specs.inner.Reading.{comma_at}
use Rattle.flume_grammar.specs.Terminals.{keyword_token, mark, name_token}
use Rattle.flume_grammar.specs.Parts.{Tree, none, with_named_part}
use Rattle.flume_grammar.specs.inner.Types.{Inner, kind_type, keyword_type, deep_start, type_start, list_type, pair_type, field_type, next_field_type, at_comma, record_type, after_start, type_layer, type_within, whole_type}
use Rattle.flume_grammar.specs.Grammar.{IsWholeType, IsType, int, bool, text_, named, list, either, table, record_, AreFieldTypes, first, next as next_type_}
use Rattle.flume_grammar.specs.Limits.{Limits}
use Rattle.flume_grammar.proofs.Fair.{IsFair}
use Rattle.flume_grammar.proofs.Sound.{bound, gave, moved_by, shallow, one_token}
use Rattle.flume_grammar.proofs.SoundTokens.{past_sign, comma_read}
use Rattle.flume_grammar.proofs.SoundLoops.{kept_all, field_read}

-- ---- types

module _ (limits : Limits) (fair : IsFair limits) where
  abbrev pub Sound : Inner → Type 0
  Sound p = (ts : List Token) (x : Tree × ℕ) (us : List Token) → p ts ≡ Ok (x, us)
      → IsType limits ts us x.0 x.1

  abbrev IsRead : List Token → List Token → Tree × ℕ → Type 0
  IsRead ts us x = IsType limits ts us x.0 x.1

  -- how a type began, with the tokens from there on
  abbrev Started : TypeStart → List Token → List Token → Type 0
  Started (type_start_.Leaf t) ts us = IsType limits ts us t 1
  Started type_start_.List ts us = (n : ℕ) × (ts ≡ keyword_token keyword.List n ∷ us)
  Started type_start_.Either ts us = (n : ℕ) × (ts ≡ keyword_token keyword.Either n ∷ us)
  Started type_start_.Table ts us = (n : ℕ) × (ts ≡ keyword_token keyword.Table n ∷ us)
  Started type_start_.Record ts us = (n : ℕ) × (ts ≡ mark sign.OpenBrace n ∷ us)

  deep_inv : (limit : ℕ) (t : Token) (s r : TypeStart) → deep_start limit t s ≡ Ok r → s ≡ r
  deep_inv limit t s r q = by (nat_lt 1 limit) q
    where
      by : (b : Bool) → (if b then Ok s else Err (at t TooDeep)) ≡ Ok r → s ≡ r
      by true p = cc
      by false p = cc

  started_key : (limit n : ℕ) (k : Keyword) (s : TypeStart) (us : List Token)
      → keyword_type k limit (keyword_token k n) ≡ Ok s → Started s (keyword_token k n ∷ us) us
  started_key limit n keyword.Int s us q = let e : type_start_.Leaf type_tree.Int ≡ s = cc in
      subst (λ z. Started z (keyword_token keyword.Int n ∷ us) us) e int
  started_key limit n keyword.Bool s us q = let e : type_start_.Leaf type_tree.Bool ≡ s = cc in
      subst (λ z. Started z (keyword_token keyword.Bool n ∷ us) us) e bool
  started_key limit n keyword.Text s us q = let e : type_start_.Leaf type_tree.Text ≡ s = cc in
      subst (λ z. Started z (keyword_token keyword.Text n ∷ us) us) e text_
  started_key limit n keyword.List s us q =
      subst (λ z. Started z (keyword_token keyword.List n ∷ us) us)
      (deep_inv limit (keyword_token keyword.List n) type_start_.List s q) (n, refl)
  started_key limit n keyword.Either s us q =
      subst (λ z. Started z (keyword_token keyword.Either n ∷ us) us)
      (deep_inv limit (keyword_token keyword.Either n) type_start_.Either s q) (n, refl)
  started_key limit n keyword.Table s us q =
      subst (λ z. Started z (keyword_token keyword.Table n ∷ us) us)
      (deep_inv limit (keyword_token keyword.Table n) type_start_.Table s q) (n, refl)
  started_key limit n _ s us q = cc

  started_sign : (limit n : ℕ) (k : Sign) (s : TypeStart) (us : List Token)
      → kind_type (kind.Sign k) limit (mark k n) ≡ Ok s → Started s (mark k n ∷ us) us
  started_sign limit n sign.OpenBrace s us q =
      subst (λ z. Started z (mark sign.OpenBrace n ∷ us) us)
      (deep_inv limit (mark sign.OpenBrace n) type_start_.Record s q) (n, refl)
  started_sign limit n _ s us q = cc

  started_kind : (limit n : ℕ) (k : TokenKind) (s : TypeStart) (us : List Token)
      → kind_type k limit (record { kind = k; line = n }) ≡ Ok s
      → Started s (record { kind = k; line = n } ∷ us) us
  started_kind limit n (kind.Name x) s us q = let e : type_start_.Leaf (type_tree.Named x)
      ≡ s = cc in subst (λ z. Started z (name_token x n ∷ us) us) e named
  started_kind limit n (kind.Keyword k) s us q = started_key limit n k s us q
  started_kind limit n (kind.Sign k) s us q = started_sign limit n k s us q
  started_kind limit n (kind.Number x) s us q = cc
  started_kind limit n (kind.Text x) s us q = cc

  started : (limit : ℕ) (s : TypeStart) (ts us : List Token)
      → one (type_start limit) ts ≡ Ok (s, us) → Started s ts us
  started limit s ts us q =
      let p = one_token (type_start limit) ts s us q in
      subst (λ z. Started s z us) (sym p.is)
      (started_kind limit p.token.line p.token.kind s us p.gives)

  module _ (inner : Inner) (h : Sound inner) where
    s_list : (n : ℕ) (ts : List Token) (x : Tree × ℕ) (us : List Token)
        → list_type inner ts ≡ Ok (x, us)
        → IsType limits (keyword_token keyword.List n ∷ ts) us x.0 x.1
    s_list n ts x us q =
        let a = past_sign sign.Less ts _ x us q in
        let b = bound (inner a.rest) _ x us a.after in
        let c = past_sign sign.Greater b.rest _ x us b.after in
        let g = gave (type_tree.List b.got.0, b.got.1 + 1) x c.rest us c.after in
        let y : (IsType limits) a.rest (mark sign.Greater c.line ∷ c.rest) b.got.0 b.got.1 = subst
        (λ z. (IsType limits) a.rest z b.got.0 b.got.1) c.is (h a.rest b.got b.rest b.part) in
        moved_by IsRead (keyword_token keyword.List n ∷ mark sign.Less a.line ∷ a.rest)
        (keyword_token keyword.List n ∷ ts) c.rest
        us (type_tree.List b.got.0, b.got.1 + 1) x (ap (λ z. keyword_token keyword.List n ∷ z) a.is)
        g.1
        g.0 (list y)

    -- the fields so far of a record that began with those tokens
    abbrev SoFarOf : List Token → Parts Tree → List Token → Type 0
    SoFarOf ts p us = AreFieldTypes limits ts us p × (length p.names ≤ limits.fields)

    s_first : (ts : List Token) (p : Parts Tree) (us : List Token)
        → field_type inner none ts ≡ Ok (p, us) → SoFarOf ts p us
    s_first ts p us q =
        let f = field_read (IsType limits) inner h none ts p us q in
        subst (λ z. SoFarOf ts z us) f.is
        (subst (λ z. SoFarOf z (with_named_part none f.name_ f.part f.depth) us) (sym f.start)
        (first f.is_word f.spelled, omega arith))

    s_next : (ts : List Token) (p : Parts Tree) (vs : List Token) (q : Parts Tree) (us : List Token)
        → at_comma p vs ≡ true → SoFarOf ts p vs → next_field_type limits inner p vs ≡ Ok (q, us)
        → SoFarOf ts q us
    s_next ts p vs q us t (x, l) e =
        let a = bound (one (comma_at (length p.names) limits.fields) vs) _ q us e in
        let m = comma_read (length p.names) limits.fields a.got vs a.rest a.part in
        let f = field_read (IsType limits) inner h p a.rest q us a.after in
        let y : (AreFieldTypes limits) ts
        (mark sign.Comma m.line ∷ f.word ∷ mark sign.Colon f.line ∷ f.rest) p =
        subst (λ z. (AreFieldTypes limits) ts z p) (m.is
        ∙ ap (λ z. mark sign.Comma m.line ∷ z) f.start) x in
        let n = length-append p.names (f.name_ ∷ []) in
        subst (λ z. SoFarOf ts z us) f.is (
          next_type_ y f.is_word f.spelled,
          omega (arith, m.fewer, n),
        )

    s_record : (n : ℕ) (ts : List Token) (x : Tree × ℕ) (us : List Token)
        → record_type limits inner ts ≡ Ok (x, us)
        → IsType limits (mark sign.OpenBrace n ∷ ts) us x.0 x.1
    s_record n ts x us q =
        let a = bound (field_type inner none ts) _ x us q in
        let b = bound (all_of at_comma (next_field_type limits inner) a.got a.rest) _ x us
        a.after in
        let f = kept_all at_comma (next_field_type limits inner) (λ p vs. SoFarOf ts p vs)
        (λ p vs r ws t k e. s_next ts p vs r ws t k e) a.got a.rest b.got b.rest
        (s_first ts a.got a.rest a.part) b.part in
        let c = past_sign sign.CloseBrace b.rest _ x us b.after in
        let g = gave (type_tree.Record b.got.names b.got.parts, b.got.depth + 1) x c.rest us
        c.after in
        let y : (AreFieldTypes limits) ts (mark sign.CloseBrace c.line ∷ c.rest) b.got = subst
        (λ z. (AreFieldTypes limits) ts z b.got) c.is f.0 in
        moved_by IsRead (mark sign.OpenBrace n ∷ ts) (mark sign.OpenBrace n ∷ ts) c.rest us
        (type_tree.Record b.got.names b.got.parts, b.got.depth + 1) x refl g.1 g.0
        (record_ y f.1)

    -- two types in angle brackets behind a keyword
    s_both : (k : Keyword) (f : Tree → Tree → Tree)
        → ((n m j o a b : ℕ) (vs ws us : List Token) (s t : Tree)
        → IsType limits vs (mark sign.Comma j ∷ ws) s a
        → IsType limits ws (mark sign.Greater o ∷ us) t b
        → IsType limits (keyword_token k n ∷ mark sign.Less m ∷ vs) us (f s t) (max a b + 1))
        → (n : ℕ) (ts vs : List Token) (x : Tree × ℕ) (us : List Token)
        → ts ≡ keyword_token k n ∷ vs
        → bind (pair_type inner vs) (λ y ws. give (f y.0 y.1, y.2) ws) ≡ Ok (x, us)
        → IsRead ts us x
    s_both k f rule n ts vs x us e q =
        let p = bound (pair_type inner vs) _ x us q in
        let a = past_sign sign.Less vs _ p.got p.rest p.part in
        let b = bound (inner a.rest) _ p.got p.rest a.after in
        let c = past_sign sign.Comma b.rest _ p.got p.rest b.after in
        let d = bound (inner c.rest) _ p.got p.rest c.after in
        let o = past_sign sign.Greater d.rest _ p.got p.rest d.after in
        let y = gave (b.got.0, d.got.0, max b.got.1 d.got.1 + 1) p.got o.rest p.rest o.after in
        let g = gave (f p.got.0 p.got.1, p.got.2) x p.rest us p.after in
        let left = subst (λ z. (IsType limits) a.rest z b.got.0 b.got.1) c.is
        (h a.rest b.got b.rest b.part) in
        let right = subst (λ z. (IsType limits) c.rest z d.got.0 d.got.1) o.is
        (h c.rest d.got d.rest d.part) in
        moved_by IsRead (keyword_token k n ∷ mark sign.Less a.line ∷ a.rest) ts o.rest us
        (f b.got.0 d.got.0, max b.got.1 d.got.1 + 1) x (e ∙ ap (λ z. keyword_token k n ∷ z) a.is)
        (y.1 ∙ g.1) (ap (λ (z : Tree × Tree × ℕ). (f z.0 z.1, z.2)) y.0 ∙ g.0)
        (rule n a.line c.line o.line b.got.1 d.got.1 a.rest c.rest o.rest b.got.0 d.got.0 left
        right)

    s_after : (s : TypeStart) (ts vs : List Token) (x : Tree × ℕ) (us : List Token)
        → Started s ts vs → after_start limits inner s vs ≡ Ok (x, us)
        → IsType limits ts us x.0 x.1
    s_after (type_start_.Leaf t) ts vs x us w q = let g = gave (t, 1) x vs us q in
        moved_by IsRead ts ts vs us (t, 1) x refl g.1 g.0 w
    s_after type_start_.List ts vs x us (n, e) q = subst (λ z. (IsType limits) z us x.0 x.1) (sym e)
        (s_list n vs x us q)
    s_after type_start_.Either ts vs x us (n, e) q =
        s_both keyword.Either type_tree.Either (λ n m j o a b vs ws us s t l r. either l r) n ts vs
        x us e q
    s_after type_start_.Table ts vs x us (n, e) q =
        s_both keyword.Table type_tree.Table (λ n m j o a b vs ws us s t l r. table l r) n ts vs x
        us e q
    s_after type_start_.Record ts vs x us (n, e) q =
        subst (λ z. (IsType limits) z us x.0 x.1) (sym e) (s_record n vs x us q)

    s_layer : (limit : ℕ) → Sound (type_layer limits limit inner)
    s_layer limit ts x us q =
        let a = bound (one (type_start limit) ts) _ x us q in
        s_after a.got ts a.rest x us (started limit a.got ts a.rest a.part) a.after

  sound_type : (n : ℕ) → Sound (type_within limits n)
  unfolding type_within
  sound_type zero ts x us q = cc
  sound_type (suc n) ts x us q = s_layer (type_within limits n) (sound_type n) (suc n) ts x us q

  pub sound_whole : (ts : List Token) (t : Tree) (us : List Token)
      → whole_type limits ts ≡ Ok (t, us) → IsWholeType limits ts us t
  sound_whole ts t us q =
      let w = shallow (IsType limits) limits.depth (type_within limits limits.depth)
      (sound_type limits.depth) ts t us q in
      record { depth = w.depth; spelled = w.spelled; small = w.small }
