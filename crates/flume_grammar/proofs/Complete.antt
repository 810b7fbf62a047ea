-- What is in the grammar is read: types.
use Rattle.std.proofs.Common.{◌≡◌, ℕ, zero, suc, ◌+◌, ◌≤◌, ◌<◌, max, length, length-append, nat_le, List, [], ◌∷◌, Bool, true, false, Option, Some, None, Ok, Err, if◌then◌else◌, refl, ap, ◌∙◌, arith}
use Rattle.std.proofs.lemmas.Bool.{lt-ltb, le-leb}
use denote.Enum.Bare.{true_same}
use Rattle.flume_tokens.specs.contracts.keyword.Keyword as keyword_type
use Rattle.flume_tokens.specs.contracts.sign.Sign as sign_type
use Rattle.flume_tokens.specs.declared.token.Token.{Token}
use Rattle.flume_tokens.specs.declared.keyword.Keyword.{Keyword}
use Rattle.flume_tokens.specs.declared.keyword.Keyword.TheVariants as keyword
use Rattle.flume_tokens.specs.declared.sign.Sign.{Sign}
use Rattle.flume_tokens.specs.declared.sign.Sign.TheVariants as sign
use Rattle.flume_grammar.specs.declared.fault.ScriptKind.TheVariants.{Syntax, TooDeep, TooMany}
use Rattle.flume_grammar.specs.declared.parts.Parts.{Parts}
use Rattle.flume_grammar.specs.declared.start.TypeStart.{TypeStart}
use Rattle.flume_grammar.specs.declared.start.TypeStart.TheVariants as begins
use Rattle.flume_grammar.specs.inner.Out.{Out, give, bind, at, one, passed, next as next_kind, all_of}
use Rattle.flume_grammar.specs.inner.Reading.{sign_at, keyword_at, word_at, number_at, comma_at, or_syntax, is_at_keyword, numbered}
use Rattle.flume_grammar.specs.Terminals.{word_of, keyword_token, mark, number_token}
use Rattle.flume_grammar.specs.Parts.{Tree, none, with_named_part}
use Rattle.flume_grammar.specs.inner.Types.{deep_start, type_start, pair_type, field_type, next_field_type, at_comma, type_within, whole_type}
use Rattle.flume_grammar.specs.Grammar.{IsOptionalNumber, absent, present, IsWholeType, IsType, int, bool, text_, named, list, either, table, record_, AreFieldTypes, first, next}
use Rattle.flume_grammar.proofs.SoundLoops.{field_of}
use Rattle.flume_grammar.proofs.Loops.{Reaches, reaches_start, reaches_next, reaches_end}
use Rattle.flume_grammar.specs.Limits.{Limits}
use Rattle.flume_grammar.proofs.Fair.{IsFair}

-- ---- reading on

pub went : {A B : Type 0} (o : Out A) (f : A → List Token → Out B) (a : A) (us : List Token)
    (r : Out B) → o ≡ Ok (a, us) → f a us ≡ r → bind o f ≡ r
went o f a us r e q = ap (λ x. bind x f) e ∙ q

pub taken : {A : Type 0} (b : Bool) (x y : A) → b ≡ true → (if b then x else y) ≡ x
taken b x y e = ap (λ t. if t then x else y) e

pub same_mark : (s : Sign) (n : ℕ) (us : List Token) → one (sign_at s) (mark s n ∷ us) ≡ Ok (tt, us)
same_mark s n us = ap (λ b. passed (if b then Ok tt else Err (at (mark s n) Syntax)) us)
    (true_same sign_type.the_type s s refl)

pub same_key : (k : Keyword) (n : ℕ) (us : List Token)
    → one (keyword_at k) (keyword_token k n ∷ us) ≡ Ok (tt, us)
same_key k n us = ap (λ b. passed (if b then Ok tt else Err (at (keyword_token k n) Syntax)) us)
    (true_same keyword_type.the_type k k refl)

pub same_word : (w : Token) (x : List ℕ) (us : List Token) → word_of w.kind ≡ Some x
    → one word_at (w ∷ us) ≡ Ok (x, us)
same_word w x us e = ap (λ o. passed (or_syntax w o) us) e

pub same_comma : (n limit m : ℕ) (us : List Token) → n < limit
    → one (comma_at n limit) (mark sign.Comma m ∷ us) ≡ Ok (tt, us)
same_comma n limit m us h =
    ap (λ b. passed (if b then Ok tt else Err (at (mark sign.Comma m) TooMany)) us)
    (lt-ltb n limit h)

-- a field is read, and one more behind a comma
module _ {X : Type 0} (inner : List Token → Out (X × ℕ)) (p : Parts X) (w : Token) (x : List ℕ)
    (c : ℕ) (us vs : List Token) (e : X) (a : ℕ) (word : word_of w.kind ≡ Some x)
    (part : inner us ≡ Ok ((e, a), vs)) where
  pub field_on : field_of inner p (w ∷ mark sign.Colon c ∷ us) ≡ Ok (with_named_part p x e a, vs)
  field_on =
      went (one word_at (w ∷ mark sign.Colon c ∷ us)) _ x (mark sign.Colon c ∷ us) _
      (same_word w x _ word) (went (inner us) _ (e, a) vs _ part refl)

  pub next_on : (limit m : ℕ) → length p.names < limit
      → bind (one (comma_at (length p.names) limit)
      (mark sign.Comma m ∷ w ∷ mark sign.Colon c ∷ us)) (λ _ ws. field_of inner p ws)
      ≡ Ok (with_named_part p x e a, vs)
  next_on limit m h =
      went (one (comma_at (length p.names) limit)
      (mark sign.Comma m ∷ w ∷ mark sign.Colon c ∷ us)) _ tt (w ∷ mark sign.Colon c ∷ us) _
      (same_comma (length p.names) limit m _ h) field_on

-- the number behind a keyword is read, before what is not this keyword
pub complete_numbered : (k : Keyword) {ts us : List Token} {o : Option (List ℕ)}
    → IsOptionalNumber k ts us o → is_at_keyword k (next_kind us) ≡ false
    → numbered k ts ≡ Ok (o, us)
complete_numbered k (absent {ts}) e = ap (λ t. if t then bind (one (keyword_at k) ts)
    (λ _ us. bind (one number_at us) (λ n vs. give (Some n) vs)) else give None ts) e
complete_numbered k (present {digits} {n} {m} {ts}) e =
    ap (λ t. if t then bind (one (keyword_at k) (keyword_token k n ∷ number_token digits m ∷ ts))
    (λ _ us. bind (one number_at us) (λ z vs. give (Some z) vs)) else give None
    (keyword_token k n ∷ number_token digits m ∷ ts)) (true_same keyword_type.the_type k k refl)
    ∙ went (one (keyword_at k) (keyword_token k n ∷ number_token digits m ∷ ts)) _ tt
    (number_token digits m ∷ ts) _
    (same_key k n _) refl

-- ---- what is read takes a token

pub shorter_numbered : {k : Keyword} {ts us : List Token} {o : Option (List ℕ)}
    → IsOptionalNumber k ts us o → length us ≤ length ts
shorter_numbered absent = omega arith
shorter_numbered present = omega arith

module _ (limits : Limits) (fair : IsFair limits) where
  mutual
    pub shorter_type : {ts us : List Token} {t : Tree} {a : ℕ} → IsType limits ts us t a
        → length us < length ts
    shorter_type int = omega arith
    shorter_type bool = omega arith
    shorter_type text_ = omega arith
    shorter_type named = omega arith
    shorter_type (list x) = let h = shorter_type x in omega (arith, h)
    shorter_type (either x y) = let h = shorter_type x in let k = shorter_type y in
        omega (arith, h, k)
    shorter_type (table x y) = let h = shorter_type x in let k = shorter_type y in
        omega (arith, h, k)
    shorter_type (record_ f l) = let h = shorter_fields f in omega (arith, h)

    shorter_fields : {ts us : List Token} {p : Parts Tree} → AreFieldTypes limits ts us p
        → length us < length ts
    shorter_fields (first w x) = let h = shorter_type x in omega (arith, h)
    shorter_fields (next f w x) = let h = shorter_fields f in let k = shorter_type x in
        omega (arith, h, k)

  mutual
    positive : {ts us : List Token} {t : Tree} {a : ℕ} → IsType limits ts us t a → 1 ≤ a
    positive int = omega arith
    positive _ = omega arith

    positive_fields : {ts us : List Token} {p : Parts Tree} → AreFieldTypes limits ts us p
        → 1 ≤ p.depth
    positive_fields (first w x) = let h = positive x in omega (arith, h)
    positive_fields (next f w x) = let h = positive x in omega (arith, h)

  -- ---- types

  deep_is : (limit : ℕ) (t : Token) (s : TypeStart) (us : List Token) → 2 ≤ limit
      → passed (deep_start limit t s) us ≡ Ok (s, us)
  deep_is limit t s us h = ap (λ b. passed (if b then Ok s else Err (at t TooDeep)) us)
      (lt-ltb 1 limit (omega (arith, h)))

  abbrev Reads : ℕ → List Token → List Token → Tree → ℕ → Type 0
  Reads n ts us t a = type_within limits n ts ≡ Ok ((t, a), us)

  pair_reads : (n : ℕ) (m k o a b : ℕ) (ts us vs : List Token) (s t : Tree)
      → Reads n ts (mark sign.Comma k ∷ us) s a → Reads n us (mark sign.Greater o ∷ vs) t b
      → pair_type (type_within limits n) (mark sign.Less m ∷ ts) ≡ Ok ((s, t, max a b + 1), vs)
  pair_reads n m k o a b ts us vs s t x y =
      went (type_within limits n ts) _ (s, a) (mark sign.Comma k ∷ us) _ x
      (went (type_within limits n us) _ (t, b) (mark sign.Greater o ∷ vs) _ y refl)

  mutual
    unfolding type_within

    pub complete_type : {ts us : List Token} {t : Tree} {a : ℕ} → IsType limits ts us t a
        → (n : ℕ) → a ≤ n → type_within limits n ts ≡ Ok ((t, a), us)
    complete_type x zero h = let p = positive x in absurd (omega (arith, p, h))
    complete_type int (suc n) h = refl
    complete_type bool (suc n) h = refl
    complete_type text_ (suc n) h = refl
    complete_type named (suc n) h = refl
    complete_type (list {n = l} {m} {k} {a} {ts} {us} {t} x) (suc n) h =
        let p = positive x in
        went (one (type_start (suc n)) (keyword_token keyword.List l ∷ mark sign.Less m ∷ ts)) _
        begins.List
        (mark sign.Less m ∷ ts) _ (deep_is (suc n) (keyword_token keyword.List l) begins.List _
        (omega (arith, h, p)))
        (went (type_within limits n ts) _ (t, a) (mark sign.Greater k ∷ us) _
        (complete_type x n (omega (arith, h))) refl)
    complete_type (either {n = l} {m} {k} {o} {a} {b} {ts} {us} {vs} {s} {t} x y) (suc n) h =
        let p = positive x in
        went (one (type_start (suc n)) (keyword_token keyword.Either l ∷ mark sign.Less m ∷ ts)) _
        begins.Either (mark sign.Less m ∷ ts) _
        (deep_is (suc n) (keyword_token keyword.Either l) begins.Either _ (omega (arith, h, p)))
        (went (pair_type (type_within limits n) (mark sign.Less m ∷ ts)) _ (s, t, max a b + 1) vs
        _ (pair_reads n m k o a b ts us vs s t (complete_type x n (omega (arith, h)))
        (complete_type y n (omega (arith, h)))) refl)
    complete_type (table {n = l} {m} {k} {o} {a} {b} {ts} {us} {vs} {s} {t} x y) (suc n) h =
        let p = positive x in
        went (one (type_start (suc n)) (keyword_token keyword.Table l ∷ mark sign.Less m ∷ ts)) _
        begins.Table
        (mark sign.Less m ∷ ts) _ (deep_is (suc n) (keyword_token keyword.Table l) begins.Table _
        (omega (arith, h, p)))
        (went (pair_type (type_within limits n) (mark sign.Less m ∷ ts)) _ (s, t, max a b + 1) vs
        _ (pair_reads n m k o a b ts us vs s t (complete_type x n (omega (arith, h)))
        (complete_type y n (omega (arith, h)))) refl)
    complete_type (record_ {n = l} {m} {ts} {us} {p} f w) (suc n) h =
        let i = positive_fields f in
        let (p0, us0, e, r) = complete_fields f n (omega (arith, h)) w in
        went (one (type_start (suc n)) (mark sign.OpenBrace l ∷ ts)) _ begins.Record ts _
        (deep_is (suc n) (mark sign.OpenBrace l) begins.Record _ (omega (arith, h, i)))
        (went (field_type (type_within limits n) none ts) _ p0 us0 _ e
        (went (all_of at_comma (next_field_type limits (type_within limits n)) p0 us0) _ p
        (mark sign.CloseBrace m ∷ us) _
        (reaches_end at_comma (next_field_type limits (type_within limits n)) _ p
        (mark sign.CloseBrace m ∷ us) r refl) refl))

    -- the first field is read, and from there on the loop comes to the last
    complete_fields : {ts us : List Token} {p : Parts Tree} → AreFieldTypes limits ts us p
        → (n : ℕ) → p.depth ≤ n → length p.names ≤ limits.fields
        → (q : Parts Tree) × (vs : List Token)
        × (field_type (type_within limits n) none ts ≡ Ok (q, vs))
        × Reaches at_comma (next_field_type limits (type_within limits n))
        (all_of at_comma (next_field_type limits (type_within limits n)) q vs) p us
    complete_fields (first {w} {x} {n = c} {a} {ts} {us} {t} e y) n h l =
        let q = with_named_part none x t a in (
          q,
          us,
          field_on (type_within limits n) none w x c ts us t a e
              (complete_type y n (omega (arith, h))),
          reaches_start at_comma (next_field_type limits (type_within limits n)) q us,
        )
    complete_fields (next {w} {x} {n = c} {m} {a} {ts} {us} {vs} {t} {p} f e y) n h l =
        let i = length-append p.names (x ∷ []) in
        let (q, ws, o, r) = complete_fields f n (omega (arith, h)) (omega (arith, l, i)) in
        let k = shorter_type y in
        let step = next_on (type_within limits n) p w x c us vs t a e
        (complete_type y n (omega (arith, h))) limits.fields m (omega (arith, l, i)) in (
          q,
          ws,
          o,
          reaches_next at_comma (next_field_type limits (type_within limits n)) _ p
              (with_named_part p x t a) _ vs r refl step (omega (arith, k)),
        )

  pub complete_whole : {ts us : List Token} {t : Tree} → IsWholeType limits ts us t
      → whole_type limits ts ≡ Ok (t, us)
  complete_whole {ts} {us} {t} w = went (type_within limits limits.depth ts) _ (t, w.depth) us _
      (complete_type w.spelled limits.depth w.small)
      (taken (nat_le w.depth limits.depth) (give t us) _ (le-leb w.depth limits.depth w.small))
