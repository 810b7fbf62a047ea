-- Parsers of one token, and of one token and then more, are open.
use Rattle.std.proofs.Common.{◌≡◌, ℕ, ◌≤◌, nat_lt, List, [], ◌∷◌, Bool, true, false, inl, Option, Some, None, Result, Ok, Err, if◌then◌else◌, refl, sym, ap, subst, arith}
use Rattle.std.proofs.lemmas.Bool.{le-leb}
use denote.Enum.Bare.{true_same}
use Rattle.flume_tokens.specs.contracts.keyword.Keyword as keyword_type
use Rattle.flume_tokens.specs.contracts.sign.Sign as sign_type
use Rattle.flume_tokens.specs.declared.token.Token.{Token}
use Rattle.flume_tokens.specs.declared.token.TokenKind.{TokenKind}
use Rattle.flume_tokens.specs.declared.token.TokenKind.TheVariants as kind
use Rattle.flume_tokens.specs.declared.keyword.Keyword.{Keyword}
use Rattle.flume_tokens.specs.declared.sign.Sign.{Sign}
use Rattle.flume_tokens.specs.declared.sign.Sign.TheVariants as sign
use Rattle.flume_grammar.specs.declared.fault.ScriptKind.{ScriptKind}
use Rattle.flume_grammar.specs.declared.fault.ScriptKind.TheVariants.{Syntax, TooDeep, TooMany}
use Rattle.flume_grammar.specs.declared.fault.Stop.{Stop}
use Rattle.flume_grammar.specs.declared.fault.Stop.TheVariants.{Fault}
use Rattle.flume_grammar.specs.inner.Out.{Out, give, bind, no_deeper, at, one, passed, all_of}
use Rattle.flume_grammar.specs.inner.Reading.{is_sign, is_keyword, sign_at, keyword_at, name_of, name_at, word_at, number_of, number_at, text_of, text_at, comma_at, or_syntax, is_at_sign}
use Rattle.flume_grammar.specs.Terminals.{word_of, keyword_token, mark, name_token, number_token, text_token}
use Rattle.flume_grammar.specs.inner.Types.{at_comma}
use Rattle.flume_grammar.proofs.Sound.{bound}
use Rattle.flume_grammar.proofs.Open.{Takes, takes_one, Class, Behind, any, Sub, free, IsOpen, Gives, IsComplete, no_longer}
use Rattle.flume_grammar.proofs.OpenSmallest.{Owns, given, single}
use Rattle.flume_grammar.proofs.Depths.{Each}
use Rattle.flume_grammar.proofs.OpenThen.{binds_at, then_}
use Rattle.flume_grammar.proofs.OpenLoops.{Turns, loops}

-- ---- one token

pub owns_ok : {A : Type 0} (t : Token) (a : A) → Owns {A = A} t (Ok a)
owns_ok t a s e = cc

pub owns_fault : {A : Type 0} (t : Token) (k : ScriptKind) → Owns {A = A} t (Err (at t k))
owns_fault t k s e = (k, let w : at t k ≡ s = cc in sym w)

pub owns_if : {A : Type 0} (t : Token) (b : Bool) (x y : Result A Stop) → Owns t x → Owns t y
    → Owns t (if b then x else y)
owns_if t true x y h l = h
owns_if t false x y h l = l

pub owns_option : {A : Type 0} (t : Token) (o : Option A) → Owns t (or_syntax t o)
owns_option t (Some a) = owns_ok t a
owns_option t None = owns_fault t Syntax

pub owns_sign : (s : Sign) (t : Token) → Owns t (sign_at s t)
owns_sign s t = owns_if t (is_sign s t.kind) _ _ (owns_ok t tt) (owns_fault t Syntax)

owns_keyword : (k : Keyword) (t : Token) → Owns t (keyword_at k t)
owns_keyword k t = owns_if t (is_keyword k t.kind) _ _ (owns_ok t tt) (owns_fault t Syntax)

pub owns_comma : (parts limit : ℕ) (t : Token) → Owns t (comma_at parts limit t)
owns_comma parts limit t =
    owns_if t (is_sign sign.Comma t.kind) _ _ (owns_if t (nat_lt parts limit) _ _ (owns_ok t tt)
    (owns_fault t TooMany)) (owns_fault t Syntax)

-- the name `a` and the number `0`
abbrev pub a_name : Token
a_name = name_token (97 ∷ []) 1

abbrev pub a_number : Token
a_number = number_token (48 ∷ []) 1

pub token : {A : Type 0} (b : Class) (g : Token → Result A Stop) → ((t : Token) → Owns t (g t))
    → (t : Token) (a : A) → g t ≡ Ok a → b t.kind → IsComplete b any (one g)
token b g own t a e h = record {
  open_ = single g own;
  starts = record {
    others = t ∷ [];
    got = a;
    always = λ rest i. ap (λ x. passed x rest) e;
    leads =
        λ rest i. h;
  };
  follows = λ ts x us q. inl (takes_one g ts x us q);
}

pub takes_token : {A B : Type 0} (c : Class) (g : Token → Result A Stop) (f : A → List Token
    → Out B) → ((a : A) → IsOpen c (f a)) → Takes (λ ts. bind (one g ts) f)
takes_token c g f h ts b us e =
    let x = bound (one g ts) f b us e in
    let i = takes_one g ts x.got x.rest x.part in
    let j = no_longer c (f x.got) x.rest b us (h x.got x.rest) x.after in
    omega (arith, i, j)

-- the same where what follows is known only of what is given
pub takes_given : {A B : Type 0} (c : Class) (g : Token → Result A Stop) (f : A → List Token
    → Out B) → ((a : A) → Gives (one g) a → IsOpen c (f a)) → Takes (λ ts. bind (one g ts) f)
takes_given c g f h ts b us e =
    let x = bound (one g ts) f b us e in
    let i = takes_one g ts x.got x.rest x.part in
    let j = no_longer c (f x.got) x.rest b us
    (h x.got (record { source = ts; left = x.rest; is = x.part }) x.rest) x.after in
    omega (arith, i, j)

pub a_sign : (b : Class) (s : Sign) → b (kind.Sign s) → IsComplete b any (one (sign_at s))
a_sign b s i =
    token b (sign_at s) (owns_sign s) (mark s 1) tt
    (ap (λ x. if x then Ok tt else Err (at (mark s 1) Syntax))
    (true_same sign_type.the_type s s refl)) i

pub a_keyword : (b : Class) (k : Keyword) → b (kind.Keyword k)
    → IsComplete b any (one (keyword_at k))
a_keyword b k i = token b (keyword_at k) (owns_keyword k) (keyword_token k 1) tt
    (ap (λ x. if x then Ok tt else Err (at (keyword_token k 1) Syntax))
    (true_same keyword_type.the_type k k refl)) i

module _ {B : Type 0} (b c : Class) where
  pub sign_then : (s : Sign) (f : Unit {0} → List Token → Out B) → b (kind.Sign s)
      → ((u : Unit {0}) → IsComplete any c (f u))
      → IsComplete b c (λ ts. bind (one (sign_at s) ts) f)
  sign_then s f i h =
      then_ b any c (one (sign_at s)) f (a_sign b s i) (λ u g. h u)

  pub keyword_then : (k : Keyword) (f : Unit {0} → List Token → Out B) → b (kind.Keyword k)
      → ((u : Unit {0}) → IsComplete any c (f u))
      → IsComplete b c (λ ts. bind (one (keyword_at k) ts) f)
  keyword_then k f i h =
      then_ b any c (one (keyword_at k)) f (a_keyword b k i) (λ u g. h u)

  pub name_then : (f : List ℕ → List Token → Out B) → b a_name.kind
      → ((x : List ℕ) → IsComplete any c (f x)) → IsComplete b c (λ ts. bind (one name_at ts) f)
  name_then f i h =
      then_ b any c (one name_at) f (token b name_at (λ t. owns_option t (name_of t.kind)) a_name _
      refl i) (λ x g. h x)

  pub word_then : (f : List ℕ → List Token → Out B) → b a_name.kind
      → ((x : List ℕ) → IsComplete any c (f x)) → IsComplete b c (λ ts. bind (one word_at ts) f)
  word_then f i h =
      then_ b any c (one word_at) f (token b word_at (λ t. owns_option t (word_of t.kind)) a_name _
      refl i) (λ x g. h x)

  pub number_then : (f : List ℕ → List Token → Out B) → b a_number.kind
      → ((x : List ℕ) → IsComplete any c (f x)) → IsComplete b c (λ ts. bind (one number_at ts) f)
  number_then f i h =
      then_ b any c (one number_at) f
      (token b number_at (λ t. owns_option t (number_of t.kind)) a_number _ refl i) (λ x g. h x)

  pub text_then : (f : List ℕ → List Token → Out B) → b (kind.Text [])
      → ((x : List ℕ) → IsComplete any c (f x)) → IsComplete b c (λ ts. bind (one text_at ts) f)
  text_then f i h =
      then_ b any c (one text_at) f (token b text_at (λ t. owns_option t (text_of t.kind))
      (text_token [] 1) _ refl i) (λ x g. h x)

-- a token, and then more
pub owned_then : {A B : Type 0} (c : Class) (g : Token → Result A Stop)
    → ((t : Token) → Owns t (g t)) → (f : A → List Token → Out B)
    → ((a : A) → IsComplete any c (f a)) → IsOpen c (λ ts. bind (one g ts) f)
owned_then c g own f h ts =
    binds_at any c (one g) f ts (single g own ts) (λ a us e. (h a).open_ us)
    (λ a i. (h a).starts) (λ a i. (h a).follows)

-- a comma, where one more part may stand, and the part
pub comma_then : {B : Type 0} (c : Class) (parts limit : ℕ) (f : Unit {0} → List Token → Out B)
    → ((u : Unit {0}) → IsComplete any c (f u))
    → IsOpen c (λ ts. bind (one (comma_at parts limit) ts) f)
comma_then c parts limit f h = owned_then c (comma_at parts limit) (owns_comma parts limit) f h

-- as long as a comma stands there, one more part
module _ {B : Type 0} (c d : Class) (part : B → List Token → Out B) (sub : Sub c d)
    (other : (k : TokenKind) → c k → is_sign sign.Comma k ≡ false)
    (takes : (b : B) → Takes (part b)) (open_ : (b : B) → IsOpen d (part b))
  where
    stopped : (x : B) (ts : List Token) → Behind c ts → at_comma x ts ≡ false
    stopped x [] h = refl
    stopped x (t ∷ ts) h = other t.kind h

    pub comma_turns : (P : B → Type 0) → ((b : B) (ts : List Token) (x : B) (us : List Token) → P b
        → part b ts ≡ Ok (x, us) → P x) → Turns c d at_comma part P
    comma_turns P keeps = record {
      sub = sub;
      stopped = stopped;
      same = λ x ts us e. ap (is_at_sign sign.Comma) e;
      takes = λ x ts y us i m e. takes x ts y us e;
      open_ = λ x ts h m. open_ x ts;
      keeps = keeps;
    }

    pub commas : (b : B) → IsComplete c c (all_of at_comma part b)
    commas b = loops c d at_comma part (λ x. Unit {0}) (comma_turns (λ x. Unit {0})
        (λ x ts y us h e. tt)) b tt

-- before what is no comma
abbrev pub no_comma : Class
no_comma k = is_sign sign.Comma k ≡ false

-- ---- what is no deeper

pub shallow_complete : {A : Type 0} (n : ℕ) (x : A × ℕ) → x.1 ≤ n
    → IsComplete any any (no_deeper n x)
shallow_complete n x h =
    subst (λ b. IsComplete any any (λ us. if b then give x.0 us else Err (Fault None TooDeep)))
    (sym (le-leb x.1 n h)) (given any any x.0 (free any))

-- where nothing that is read is deeper
pub then_shallow : {A : Type 0} (b : Class) (n : ℕ) (p : List Token → Out (A × ℕ))
    → IsComplete b any p → Each (λ x. x.1 ≤ n) p → IsComplete b any
    (λ ts. bind (p ts) (no_deeper n))
then_shallow b n p c h =
    then_ b any any p (no_deeper n) c (λ x g. shallow_complete n x (h g.source x g.left g.is))
