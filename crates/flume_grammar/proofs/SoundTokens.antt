-- A token that is read is of the kind that was asked for, and what follows goes on behind it.
use Rattle.std.proofs.Common.{◌≡◌, ℕ, ◌<◌, nat_lt, List, ◌∷◌, Bool, true, false, Option, Some, None, IfSome, Result, Ok, Err, if◌then◌else◌, refl, ap, ◌∙◌, subst, rules}
use Rattle.std.proofs.lemmas.Bool.{ltb-true}
use Rattle.flume_tokens.specs.declared.token.Token.{Token}
use Rattle.flume_tokens.specs.declared.token.TokenKind.{TokenKind}
use Rattle.flume_tokens.specs.declared.token.TokenKind.TheVariants as kind
use Rattle.flume_tokens.specs.declared.keyword.Keyword.{Keyword}
use Rattle.flume_tokens.specs.declared.keyword.Keyword.TheVariants as keyword
use Rattle.flume_tokens.specs.declared.sign.Sign.{Sign}
use Rattle.flume_tokens.specs.declared.sign.Sign.TheVariants as sign
use Rattle.flume_tokens.specs.contracts.keyword.Keyword as keyword_type
use Rattle.flume_tokens.specs.contracts.sign.Sign as sign_type
use denote.Enum.Bare.{same_true}
use Rattle.flume_grammar.specs.declared.fault.Stop.{Stop}
use Rattle.flume_grammar.specs.inner.Out.{Out, give, bind, one, next}
use Rattle.flume_grammar.specs.inner.Reading.{is_sign, is_keyword, sign_at, keyword_at, name_of, name_at, word_at, number_of, number_at, text_of, text_at, comma_at, or_syntax, of_keyword, is_at_keyword, numbered}
use Rattle.flume_grammar.specs.inner.Statements.{line_of_let}
use Rattle.flume_grammar.specs.Terminals.{word_of, keyword_token, mark, name_token, number_token, text_token}
use Rattle.flume_grammar.specs.Grammar.{IsOptionalNumber, absent, present}
use Rattle.flume_grammar.proofs.Sound.{bound, gave, moved_by, one_token}

-- ---- the tokens by their kinds

chosen : {A : Type 0} (b : Bool) (s : Stop) (a c : A) → (if b then Ok a else Err s) ≡ Ok c
    → (b ≡ true) × (a ≡ c)
chosen true s a c q = (refl, cc)
chosen false s a c q = cc

pub some_of : {A : Type 0} (t : Token) (o : Option A) (a : A) → or_syntax t o ≡ Ok a → o ≡ Some a
some_of t (Some b) a q = let p : b ≡ a = cc in ap Some p
some_of t None a q = cc

pub sign_kind : (s : Sign) (k : TokenKind) → is_sign s k ≡ true → k ≡ kind.Sign s
sign_kind s (kind.Sign r) q = ap kind.Sign (same_true sign_type.the_type (search rules) r s q)
sign_kind s _ q = cc

keyword_kind : (s : Keyword) (k : TokenKind) → is_keyword s k ≡ true → k ≡ kind.Keyword s
keyword_kind s (kind.Keyword r) q =
    ap kind.Keyword (same_true keyword_type.the_type (search rules) r s q)
keyword_kind s _ q = cc

-- which kind has a name, a number, a text
content_kind : (k : TokenKind) (x : List ℕ) → (name_of k ≡ Some x → k ≡ kind.Name x)
    × (number_of k ≡ Some x → k ≡ kind.Number x) × (text_of k ≡ Some x → k ≡ kind.Text x)
content_kind (kind.Name y) x = ((λ q. let p : y ≡ x = cc in ap kind.Name p), (λ q. cc), (λ q. cc))
content_kind (kind.Number y) x =
    ((λ q. cc), (λ q. let p : y ≡ x = cc in ap kind.Number p), (λ q. cc))
content_kind (kind.Text y) x = ((λ q. cc), (λ q. cc), (λ q. let p : y ≡ x = cc in ap kind.Text p))
content_kind _ x = ((λ q. cc), (λ q. cc), (λ q. cc))

-- a token of this kind
pub of_kind : (t : Token) (k : TokenKind) → t.kind ≡ k → t ≡ record { kind = k; line = t.line }
of_kind t k e = ap (λ z. record { kind = z; line = t.line }) e

-- ---- past a token

-- one token was read, on some line, and what follows goes on behind it
pub record Past {A B : Type 0} (such : A → ℕ → Token) (f : A → List Token → Out B)
    (ts : List Token) (b : B) (vs : List Token) : Type 0 where
  pub got : A
  pub line : ℕ
  pub rest : List Token
  pub is : ts ≡ such got line ∷ rest
  pub after : f got rest ≡ Ok (b, vs)

pub past : {A B : Type 0} (such : A → ℕ → Token) (p : Token → Result A Stop)
    → ((t : Token) (a : A) → p t ≡ Ok a → t ≡ such a t.line) → (ts : List Token)
    → (f : A → List Token → Out B) (b : B) (vs : List Token) → bind (one p ts) f ≡ Ok (b, vs)
    → Past such f ts b vs
past such p is ts f b vs q =
    let a = bound (one p ts) f b vs q in
    let t = one_token p ts a.got a.rest a.part in
    record {
      got = a.got;
      line = t.token.line;
      rest = a.rest;
      is = t.is ∙ ap (λ z. z ∷ a.rest) (is t.token a.got t.gives);
      after = a.after;
    }

pub past_sign : {B : Type 0} (s : Sign) (ts : List Token) (f : Unit {0} → List Token → Out B)
    (b : B) (vs : List Token) → bind (one (sign_at s) ts) f ≡ Ok (b, vs)
    → Past (λ _. mark s) f ts b vs
past_sign s = past (λ _. mark s) (sign_at s) (λ t u q.
    of_kind t (kind.Sign s) (sign_kind s t.kind (chosen (is_sign s t.kind) _ tt u q).0))

pub past_keyword : {B : Type 0} (k : Keyword) (ts : List Token) (f : Unit {0} → List Token → Out B)
    (b : B) (vs : List Token) → bind (one (keyword_at k) ts) f ≡ Ok (b, vs)
    → Past (λ _. keyword_token k) f ts b vs
past_keyword k = past (λ _. keyword_token k) (keyword_at k) (λ t u q.
    of_kind t (kind.Keyword k) (keyword_kind k t.kind (chosen (is_keyword k t.kind) _ tt u q).0))

-- the line on which a let begins
pub past_let : {B : Type 0} (ts : List Token) (f : ℕ → List Token → Out B) (b : B)
    (vs : List Token) → bind (one line_of_let ts) f ≡ Ok (b, vs)
    → Past (λ n _. keyword_token keyword.Let n) f ts b vs
past_let = past (λ n _. keyword_token keyword.Let n) line_of_let (λ t n q.
    let c = chosen (is_keyword keyword.Let t.kind) _ t.line n q in
    of_kind t (kind.Keyword keyword.Let) (keyword_kind keyword.Let t.kind c.0)
    ∙ ap (keyword_token keyword.Let) c.1)

module _ {B : Type 0} (ts : List Token) (f : List ℕ → List Token → Out B) (b : B)
    (vs : List Token) where
  pub past_name : bind (one name_at ts) f ≡ Ok (b, vs) → Past name_token f ts b vs
  past_name = past name_token name_at (λ t x q. of_kind t (kind.Name x)
      ((content_kind t.kind x).0 (some_of t (name_of t.kind) x q))) ts f b vs

  pub past_number : bind (one number_at ts) f ≡ Ok (b, vs) → Past number_token f ts b vs
  past_number = past number_token number_at (λ t x q. of_kind t (kind.Number x)
      ((content_kind t.kind x).1 (some_of t (number_of t.kind) x q))) ts f b vs

  pub past_text : bind (one text_at ts) f ≡ Ok (b, vs) → Past text_token f ts b vs
  past_text = past text_token text_at (λ t x q. of_kind t (kind.Text x)
      ((content_kind t.kind x).2 (some_of t (text_of t.kind) x q))) ts f b vs

-- ---- what a keyword begins

-- what holds of all that keywords begin holds of what a token begins
pub by_keyword : {A : Type 0} (start : Keyword → Option A) (P : Keyword → A → Type 0)
    → ((k : Keyword) → IfSome (start k) (P k)) → (k : TokenKind) (z : A)
    → of_keyword start k ≡ Some z → (j : Keyword) × (k ≡ kind.Keyword j) × P j z
by_keyword start P h (kind.Keyword k) z q = (k, refl, subst (λ o. IfSome o (P k)) q (h k))
by_keyword start P h _ z q = cc

-- a keyword was read that begins this, and what follows goes on behind it
pub record Begun {A B : Type 0} (P : Keyword → A → Type 0) (f : A → List Token → Out B)
    (ts : List Token) (b : B) (vs : List Token) : Type 0 where
  pub word : Keyword
  pub got : A
  pub line : ℕ
  pub rest : List Token
  pub is : ts ≡ keyword_token word line ∷ rest
  pub holds : P word got
  pub after : f got rest ≡ Ok (b, vs)

pub begun : {A B : Type 0} (start : Keyword → Option A) (P : Keyword → A → Type 0)
    → ((k : Keyword) → IfSome (start k) (P k)) → (ts : List Token)
    → (f : A → List Token → Out B) (b : B) (vs : List Token)
    → bind (one (λ t. or_syntax t (of_keyword start t.kind)) ts) f ≡ Ok (b, vs)
    → Begun P f ts b vs
begun start P h ts f b vs q =
    let p = λ (t : Token). or_syntax t (of_keyword start t.kind) in
    let a = bound (one p ts) f b vs q in
    let t = one_token p ts a.got a.rest a.part in
    let k = by_keyword start P h t.token.kind a.got
    (some_of t.token (of_keyword start t.token.kind) a.got t.gives) in
    record {
      word = k.0;
      got = a.got;
      line = t.token.line;
      rest = a.rest;
      is = t.is ∙ ap (λ z. z ∷ a.rest) (of_kind t.token (kind.Keyword k.0) k.1);
      holds = k.2;
      after = a.after;
    }

-- ---- words and commas

pub record Worded (x : List ℕ) (ts us : List Token) : Type 0 where
  pub token : Token
  pub is : ts ≡ token ∷ us
  pub word : word_of token.kind ≡ Some x

pub word_read : (x : List ℕ) (ts us : List Token) → one word_at ts ≡ Ok (x, us) → Worded x ts us
word_read x ts us q = let p = one_token word_at ts x us q in
    record { token = p.token; is = p.is; word = some_of p.token (word_of p.token.kind) x p.gives }

pub record Comma (n limit : ℕ) (ts us : List Token) : Type 0 where
  pub line : ℕ
  pub is : ts ≡ mark sign.Comma line ∷ us
  pub fewer : n < limit

both : (a b : Bool) (s r : Stop) (u : Unit {0})
    → (if a then (if b then Ok tt else Err s) else Err r) ≡ Ok u → (a ≡ true) × (b ≡ true)
both true b s r u q = (refl, (chosen b s tt u q).0)
both false b s r u q = cc

pub comma_read : (n limit : ℕ) (u : Unit {0}) (ts us : List Token)
    → one (comma_at n limit) ts ≡ Ok (u, us) → Comma n limit ts us
comma_read n limit u ts us q =
    let p = one_token (comma_at n limit) ts u us q in
    let (a, b) = both (is_sign sign.Comma p.token.kind) (nat_lt n limit) _ _ u p.gives in
    record {
      line = p.token.line;
      is = p.is ∙ ap (λ z. z ∷ us)
          (of_kind p.token (kind.Sign sign.Comma) (sign_kind sign.Comma p.token.kind a));
      fewer = ltb-true n limit b;
    }

-- the number behind a keyword, where that stands
pub numbered_read : (k : Keyword) (ts : List Token) (x : Option (List ℕ)) (us : List Token)
    → numbered k ts ≡ Ok (x, us) → IsOptionalNumber k ts us x
numbered_read k ts x us q = by (is_at_keyword k (next ts)) q
  where
    by : (t : Bool)
        → (if t then bind (one (keyword_at k) ts)
        (λ _ vs. bind (one number_at vs) (λ n ws. give (Some n) ws)) else give None ts) ≡ Ok
        (x, us) → IsOptionalNumber k ts us x
    by true p =
        let a = past_keyword k ts _ x us p in
        let c = past_number a.rest _ x us a.after in
        let v = gave (Some c.got) x c.rest us c.after in
        moved_by (IsOptionalNumber k) (keyword_token k a.line ∷ number_token c.got c.line ∷ c.rest)
        ts c.rest us
        (Some c.got) x (a.is ∙ ap (λ z. keyword_token k a.line ∷ z) c.is) v.1 v.0 present
    by false p = let v = gave None x ts us p in
        moved_by (IsOptionalNumber k) ts ts ts us None x refl v.1 v.0 absent
