-- Parsers of tokens and of commas within limits and within higher ones.
use Rattle.std.proofs.Common.{◌≡◌, ℕ, suc, ◌≤◌, ◌<◌, length, length-append, nat_lt, nat_le, List, [], ◌∷◌, Bool, true, false, ◌⊎◌, inl, inr, Option, Some, None, Result, Ok, Err, if◌then◌else◌, refl, sym, ap, ◌∙◌, subst, arith}
use Rattle.std.proofs.lemmas.Bool.{lt-ltb, le-leb}
use Rattle.flume_tokens.specs.declared.token.Token.{Token}
use Rattle.flume_tokens.specs.declared.token.TokenKind.{TokenKind}
use Rattle.flume_tokens.specs.declared.token.TokenKind.TheVariants as kind
use Rattle.flume_tokens.specs.declared.keyword.Keyword.{Keyword}
use Rattle.flume_tokens.specs.declared.sign.Sign.{Sign}
use Rattle.flume_tokens.specs.declared.sign.Sign.TheVariants as sign
use Rattle.flume_grammar.specs.declared.fault.ScriptKind.{ScriptKind}
use Rattle.flume_grammar.specs.declared.fault.ScriptKind.TheVariants.{Syntax, TooDeep, TooMany}
use Rattle.flume_grammar.specs.declared.fault.Stop.{Stop}
use Rattle.flume_grammar.specs.declared.fault.Stop.TheVariants.{Fault}
use Rattle.flume_grammar.specs.declared.parts.Parts.{Parts}
use Rattle.flume_grammar.specs.inner.Out.{Out, give, bind, no_deeper, at, one, all_of}
use Rattle.flume_grammar.specs.inner.Reading.{is_sign, is_keyword, sign_at, keyword_at, name_of, name_at, word_at, number_of, number_at, text_of, text_at, comma_at, or_syntax}
use Rattle.flume_grammar.specs.Terminals.{word_of, text_token}
use Rattle.flume_grammar.specs.Limits.{Limits}
use Rattle.flume_grammar.specs.Parts.{with_named_part}
use Rattle.flume_grammar.specs.inner.Types.{at_comma}
use Rattle.flume_grammar.proofs.Sound.{bound}
use Rattle.flume_grammar.proofs.SoundTokens.{comma_read}
use Rattle.flume_grammar.proofs.Open.{Takes, Class, any, Sub, IsOpenAt, IsComplete}
use Rattle.flume_grammar.proofs.OpenSmallest.{Owns, single}
use Rattle.flume_grammar.proofs.OpenTokens as o_tokens
use Rattle.flume_grammar.proofs.OpenTokens.{a_name, a_number, token, takes_token, owns_option, owns_sign, owns_comma, owned_then, comma_turns, shallow_complete}
use Rattle.flume_grammar.proofs.Depths.{Each}
use Rattle.flume_grammar.proofs.Pair.{Kinds, RaiseAt, Plain, Limited, raise_token}
use Rattle.flume_grammar.proofs.PairThen.{raise_bind, IsPair, pair_given_then, pair_then, pair_loop}

-- a limit that is higher, where the kind is of these
abbrev pub Grows : Kinds → ScriptKind → ℕ → ℕ → Type 0
Grows K k n m = ((n ≡ m) × (K k → ⊥)) ⊎ ((n < m) × K k)

pub record Growth (K : Kinds) (limits more : Limits) : Type 0 where
  pub syntax_ : K Syntax → ⊥
  pub depth : Grows K TooDeep limits.depth more.depth
  pub fields : Grows K TooMany limits.fields more.fields
  pub members : Grows K TooMany limits.members more.members
  pub inputs : Grows K TooMany limits.inputs more.inputs
  pub outputs : Grows K TooMany limits.outputs more.outputs

pub grows_least : (K : Kinds) (k : ScriptKind) (n m : ℕ) → Grows K k n m → n ≤ m
grows_least K k n m (inl i) = let e = i.0 in omega (arith, e)
grows_least K k n m (inr i) = let e = i.0 in omega (arith, e)

pub grows_up : (K : Kinds) (k : ScriptKind) (n m : ℕ) → Grows K k n m → Grows K k (suc n) (suc m)
grows_up K k n m (inl i) = inl (ap suc i.0, i.1)
grows_up K k n m (inr i) = let j = i.0 in inr (omega (arith, j), i.1)

pub grows_down : (K : Kinds) (k : ScriptKind) (n m : ℕ) → Grows K k (suc n) (suc m) → Grows K k n m
grows_down K k n m (inl i) = let e = i.0 in inl (omega (arith, e), i.1)
grows_down K k n m (inr i) = let e = i.0 in inr (omega (arith, e), i.1)

pub plain_ok : {A : Type 0} (K : Kinds) (t : Token) (a : A) → Plain {A = A} K t (Ok a)
plain_ok K t a s e = cc

pub plain_fault : {A : Type 0} (K : Kinds) (t : Token) (k : ScriptKind) → (K k → ⊥)
    → Plain {A = A} K t (Err (at t k))
plain_fault K t k n s e = (k, let w : at t k ≡ s = cc in sym w, n)

pub plain_if : {A : Type 0} (K : Kinds) (t : Token) (b : Bool) (x y : Result A Stop) → Plain K t x
    → Plain K t y → Plain K t (if b then x else y)
plain_if K t true x y h l = h
plain_if K t false x y h l = l

abbrev taken : {A : Type 0} → Token → A → ScriptKind → Bool → Result A Stop
taken t a k b = if b then Ok a else Err (at t k)

-- what is taken if a test of the limit holds
pub grows_test : {A : Type 0} (K : Kinds) (t : Token) (a : A) (k : ScriptKind) (n m : ℕ)
    → Grows K k n m → (f : ℕ → Bool) → (n < m → f m ≡ true)
    → Limited K t (if f n then Ok a else Err (at t k)) (if f m then Ok a else Err (at t k))
grows_test {A} K t a k n m g f up = by g
  where
    lower : (b : Bool) → f n ≡ b → n < m → K k → Limited K t (taken t a k (f n)) (taken t a k (f m))
    lower true e i y =
        inl (
          ap (taken t a k) e
              ∙ sym (ap (taken t a k) (up i)),
          subst (Plain K t) (sym (ap (taken t a k) e))
              (plain_ok K t a),
        )
    lower false e i y = inr (k, y, ap (taken t a k) e, (a, ap (taken t a k) (up i)))

    by : Grows K k n m → Limited K t (taken t a k (f n)) (taken t a k (f m))
    by (inl i) = subst (λ z. Limited K t (taken t a k (f n)) (taken t a k (f z))) i.0
        (inl (refl, plain_if K t (f n) _ _ (plain_ok K t a) (plain_fault K t k i.1)))
    by (inr i) = lower (f n) refl i.0 i.1

abbrev comma_if : ℕ → ℕ → Token → Bool → Result (Unit {0}) Stop
comma_if k n t b = if b then (if nat_lt k n then Ok tt else Err (at t TooMany)) else Err
    (at t Syntax)

-- ---- one token

module _ (K : Kinds) (no_syntax : K Syntax → ⊥) where
  pub plain_option : {A : Type 0} (t : Token) (o : Option A) → Plain K t (or_syntax t o)
  plain_option t (Some a) = plain_ok K t a
  plain_option t None = plain_fault K t Syntax no_syntax

  pub pair_token : {A : Type 0} (b : Class) (g : Token → Result A Stop) → IsComplete b any (one g)
      → ((t : Token) → Plain K t (g t)) → IsPair K b any (one g) (one g)
  pair_token b g x h =
      record { low_ = x; high_ = x; raise = raise_token K g g (λ t. inl (refl, h t)) }

  module _ {B : Type 0} (b c : Class) (f g : List ℕ → List Token → Out B) where
    pub pair_name : b a_name.kind → ((x : List ℕ) → IsPair K any c (f x) (g x))
        → IsPair K b c (λ ts. bind (one name_at ts) f) (λ ts. bind (one name_at ts) g)
    pair_name i h = pair_then K b any c (one name_at) (one name_at) f g
        (pair_token b name_at (token b name_at (λ t. owns_option t (name_of t.kind)) a_name _ refl
        i) (λ t. plain_option t (name_of t.kind))) h

    pub pair_word : b a_name.kind → ((x : List ℕ) → IsPair K any c (f x) (g x))
        → IsPair K b c (λ ts. bind (one word_at ts) f) (λ ts. bind (one word_at ts) g)
    pair_word i h = pair_then K b any c (one word_at) (one word_at) f g
        (pair_token b word_at (token b word_at (λ t. owns_option t (word_of t.kind)) a_name _ refl
        i) (λ t. plain_option t (word_of t.kind))) h

    pub pair_number : b a_number.kind → ((x : List ℕ) → IsPair K any c (f x) (g x))
        → IsPair K b c (λ ts. bind (one number_at ts) f) (λ ts. bind (one number_at ts) g)
    pair_number i h = pair_then K b any c (one number_at) (one number_at) f g
        (pair_token b number_at (token b number_at (λ t. owns_option t (number_of t.kind)) a_number
        _ refl i) (λ t. plain_option t (number_of t.kind))) h

    pub pair_text : b (kind.Text []) → ((x : List ℕ) → IsPair K any c (f x) (g x))
        → IsPair K b c (λ ts. bind (one text_at ts) f) (λ ts. bind (one text_at ts) g)
    pair_text i h = pair_then K b any c (one text_at) (one text_at) f g
        (pair_token b text_at (token b text_at (λ t. owns_option t (text_of t.kind))
        (text_token [] 1) _ refl i) (λ t. plain_option t (text_of t.kind))) h

  module _ {B : Type 0} (b c : Class) where
    pub pair_sign : (s : Sign) (f g : Unit {0} → List Token → Out B) → b (kind.Sign s)
        → ((u : Unit {0}) → IsPair K any c (f u) (g u))
        → IsPair K b c (λ ts. bind (one (sign_at s) ts) f) (λ ts. bind (one (sign_at s) ts) g)
    pair_sign s f g i h = pair_then K b any c (one (sign_at s)) (one (sign_at s)) f g
        (pair_token b (sign_at s) (o_tokens.a_sign b s i) (λ t. plain_if K t (is_sign s t.kind) _ _
        (plain_ok K t tt) (plain_fault K t Syntax no_syntax))) h

    pub pair_keyword : (k : Keyword) (f g : Unit {0} → List Token → Out B) → b (kind.Keyword k)
        → ((u : Unit {0}) → IsPair K any c (f u) (g u))
        → IsPair K b c (λ ts. bind (one (keyword_at k) ts) f) (λ ts. bind (one (keyword_at k) ts) g)
    pair_keyword k f g i h = pair_then K b any c (one (keyword_at k)) (one (keyword_at k)) f g
        (pair_token b (keyword_at k) (o_tokens.a_keyword b k i)
        (λ t. plain_if K t (is_keyword k t.kind) _ _ (plain_ok K t tt)
        (plain_fault K t Syntax no_syntax))) h

  -- as long as a comma stands there, one more part: the comma by one token or by another
  module _ {B : Type 0} (c d : Class) (sub : Sub c d) (other : (k : TokenKind) → c k
      → is_sign sign.Comma k ≡ false) (P : B → Type 0) (s r : B → Token → Result (Unit {0}) Stop)
      (owns_s : (b : B) (t : Token) → Owns t (s b t))
      (owns_r : (b : B) (t : Token) → Owns t (r b t))
      (limited : (b : B) → P b → (t : Token) → Limited K t (s b t) (r b t))
      (f g : B → Unit {0} → List Token → Out B)
      (h : (b : B) (u : Unit {0}) → IsPair K any d (f b u) (g b u))
      (keeps : (b : B) (ts : List Token) (x : B) (us : List Token) → P b
      → bind (one (s b) ts) (f b) ≡ Ok (x, us) → P x)
    where
      abbrev part : B → List Token → Out B
      part b ts = bind (one (s b) ts) (f b)

      abbrev more_part : B → List Token → Out B
      more_part b ts = bind (one (r b) ts) (g b)

      takes_part : (b : B) → Takes (part b)
      takes_part b = takes_token d (s b) (f b) (λ u. (h b u).low_.open_)

      takes_more : (b : B) → Takes (more_part b)
      takes_more b = takes_token d (r b) (g b) (λ u. (h b u).high_.open_)

      open_part : (b : B) (ts : List Token) → IsOpenAt d (part b) ts
      open_part b = owned_then d (s b) (owns_s b) (f b) (λ u. (h b u).low_)

      open_more : (b : B) (ts : List Token) → IsOpenAt d (more_part b) ts
      open_more b = owned_then d (r b) (owns_r b) (g b) (λ u. (h b u).high_)

      raise_part : (b : B) (ts : List Token) → P b → RaiseAt K (part b) (more_part b) ts
      raise_part b ts i =
          raise_bind K any d (one (s b)) (one (r b)) (f b) (g b) ts (single (s b) (owns_s b) ts)
          (single (r b) (owns_r b) ts) (raise_token K (s b) (r b) (limited b i) ts)
          (λ u us e. (h b u).raise us) (λ u e. (h b u).high_.open_ [])

      pair_parts : (b : B) → P b
          → IsPair K c c (all_of at_comma part b) (all_of at_comma more_part b)
      pair_parts = pair_loop K c d at_comma part more_part P (λ x. Unit {0})
          (comma_turns c d part sub other takes_part open_part P keeps)
          (comma_turns c d more_part sub other takes_more open_more (λ x. Unit {0})
          (λ x ts y us i e. tt)) (λ x i. tt) (λ x ts i e. raise_part x ts i)

  -- the same where there may be so many parts
  module _ {B : Type 0} (c d : Class) (sub : Sub c d) (other : (k : TokenKind) → c k
      → is_sign sign.Comma k ≡ false) (size : B → ℕ) (n m : ℕ) (grows : Grows K TooMany n m)
      (f g : B → Unit {0} → List Token → Out B)
      (h : (b : B) (u : Unit {0}) → IsPair K any d (f b u) (g b u))
      (steps : (b : B) (u : Unit {0}) → Each (λ x. size x ≡ suc (size b)) (f b u))
    where
      limited : (b : B) → size b ≤ n → (t : Token)
          → Limited K t (comma_at (size b) n t) (comma_at (size b) m t)
      limited b i t = by (is_sign sign.Comma t.kind)
        where
          by : (z : Bool) → Limited K t (comma_if (size b) n t z) (comma_if (size b) m t z)
          by true = grows_test K t tt TooMany n m grows (nat_lt (size b))
              (λ j. lt-ltb (size b) m (omega (arith, i, j)))
          by false = inl (refl, plain_fault K t Syntax no_syntax)

      keeps : (b : B) (ts : List Token) (x : B) (us : List Token) → size b ≤ n
          → bind (one (comma_at (size b) n) ts) (f b) ≡ Ok (x, us) → size x ≤ n
      keeps b ts x us i e =
          let y = bound (one (comma_at (size b) n) ts) (f b) x us e in
          let j = (comma_read (size b) n y.got ts y.rest y.part).fewer in
          let k = steps b y.got y.rest x us y.after in
          omega (arith, j, k)

      pub pair_commas : (b : B) → size b ≤ n
          → IsPair K c c (all_of at_comma (λ x ts. bind (one (comma_at (size x) n) ts) (f x)) b)
          (all_of at_comma (λ x ts. bind (one (comma_at (size x) m) ts) (g x)) b)
      pair_commas = pair_parts c d sub other (λ x. size x ≤ n) (λ x. comma_at (size x) n)
          (λ x. comma_at (size x) m) (λ x. owns_comma (size x) n) (λ x. owns_comma (size x) m)
          limited f g h keeps

  -- the same where there may be any number of them
  pub pair_listed : {B : Type 0} (c d : Class) (sub : Sub c d) (other : (k : TokenKind) → c k
      → is_sign sign.Comma k ≡ false) (f g : B → Unit {0} → List Token → Out B)
      (h : (b : B) (u : Unit {0}) → IsPair K any d (f b u) (g b u)) (b : B)
      → IsPair K c c (all_of at_comma (λ x ts. bind (one (sign_at sign.Comma) ts) (f x)) b)
      (all_of at_comma (λ x ts. bind (one (sign_at sign.Comma) ts) (g x)) b)
  pair_listed c d sub other f g h b =
      pair_parts c d sub other (λ x. Unit {0}) (λ x. sign_at sign.Comma) (λ x. sign_at sign.Comma)
      (λ x. owns_sign sign.Comma) (λ x. owns_sign sign.Comma)
      (λ x i t. inl (
        refl,
        plain_if K t (is_sign sign.Comma t.kind) _ _ (plain_ok K t tt)
            (plain_fault K t Syntax no_syntax),
      )) f g h (λ x ts y us i e. tt) b tt

-- ---- what is no deeper

test_raise : {A : Type 0} (K : Kinds) (a : A) (s : Stop) (b e : Bool) (ts : List Token)
    → b ≡ true → e ≡ true
    → RaiseAt K (λ us. if b then give a us else Err s) (λ us. if e then give a us else Err s) ts
test_raise K a s true true ts i j = inl (refl, tt)
test_raise K a s true false ts i j = cc
test_raise K a s false e ts i j = cc

-- what is no deeper than it may be
pub pair_shallow : {A : Type 0} (K : Kinds) (b : Class) (n m : ℕ) (p q : List Token → Out (A × ℕ))
    → n ≤ m → IsPair K b any p q → Each (λ x. x.1 ≤ n) p → Each (λ x. x.1 ≤ m) q
    → IsPair K b any (λ ts. bind (p ts) (no_deeper n)) (λ ts. bind (q ts) (no_deeper m))
pair_shallow K b n m p q l x d e =
    pair_given_then K b any any p q (no_deeper n) (no_deeper m) x
    (λ y g. shallow_complete n y (d g.source y g.left g.is))
    (λ y g. shallow_complete m y (e g.source y g.left g.is))
    (λ y g us. let i = d g.source y g.left g.is in
    test_raise K y.0 (Fault None TooDeep) (nat_le y.1 n) (nat_le y.1 m) us (le-leb y.1 n i)
    (le-leb y.1 m (omega (arith, i, l))))

-- ---- types

pub part_added : {A : Type 0} (p : Parts A) (x : List ℕ) (a : A) (d : ℕ)
    → length (with_named_part p x a d).names ≡ suc (length p.names)
part_added p x a d = let i = length-append p.names (x ∷ []) in omega (arith, i)
