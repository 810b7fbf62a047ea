-- What it is for a parser to be open: what it read so far can be read on to an end.
use Rattle.std.proofs.Common.{◌≡◌, ℕ, ◌≤◌, ◌<◌, length, length-append, List, [], ◌∷◌, ◌++◌, ◌⊎◌, Some, None, Result, Ok, Err, refl, sym, ap, ◌∙◌, arith}
use Rattle.std.proofs.lemmas.List.{append_assoc}
use Rattle.flume_tokens.specs.declared.token.Token.{Token}
use Rattle.flume_tokens.specs.declared.token.TokenKind.{TokenKind}
use Rattle.flume_grammar.specs.declared.fault.ScriptKind.{ScriptKind}
use Rattle.flume_grammar.specs.declared.fault.ScriptKind.TheVariants.{Syntax}
use Rattle.flume_grammar.specs.declared.fault.Stop.{Stop}
use Rattle.flume_grammar.specs.declared.fault.Stop.TheVariants.{Fault, Memory}
use Rattle.flume_grammar.specs.inner.Out.{Out, passed, one, next}
use Rattle.flume_grammar.proofs.Sound.{gave}

-- each part takes a token
abbrev pub Takes : {A : Type 0} → (List Token → Out A) → Type 0
Takes {A} p = (ts : List Token) (a : A) (us : List Token) → p ts ≡ Ok (a, us)
    → length us < length ts

pub takes_one : {A : Type 0} (f : Token → Result A Stop) → Takes (one f)
takes_one f [] a us e = cc
takes_one {A} f (t ∷ ts) a us e = by (f t) e
  where
    by : (r : Result A Stop) → passed r ts ≡ Ok (a, us) → length us < length (t ∷ ts)
    by (Err s) q = cc
    by (Ok b) q = let g = ap length (gave b a ts us q).1 in omega (arith, g)

-- what may stand behind a parser's tokens when it ends there
abbrev pub Class : Type 1
Class = TokenKind → Type 0

abbrev pub Behind : Class → List Token → Type 0
Behind c [] = Unit {0}
Behind c (t ∷ ts) = c t.kind

abbrev pub any : Class
any k = Unit {0}

abbrev pub Sub : Class → Class → Type 0
Sub c b = (ts : List Token) → Behind c ts → Behind b ts

pub free : (c : Class) → Sub c any
free c [] h = tt
free c (t ∷ ts) h = tt

pub within : (c b : Class) → ((k : TokenKind) → c k → b k) → Sub c b
within c b f [] h = tt
within c b f (t ∷ ts) h = f t.kind h

-- with others behind these tokens, the parser ends before any rest of the class
pub record Completes {A : Type 0} (c : Class) (p : List Token
    → Out A) (ts : List Token) : Type 0 where
  pub others : List Token
  pub got : A
  pub always : (rest : List Token) → Behind c rest → p (ts ++ (others ++ rest)) ≡ Ok (got, rest)

-- the same from nothing, and what then is read is itself of a class
pub record Starts {A : Type 0} (b c : Class) (p : List Token → Out A) : Type 0 where
  pub others : List Token
  pub got : A
  pub always : (rest : List Token) → Behind c rest → p (others ++ rest) ≡ Ok (got, rest)
  pub leads : (rest : List Token) → Behind c rest → Behind b (others ++ rest)

abbrev pub Ends : {A : Type 0} → Class → (List Token → Out A) → List Token → Type 0
Ends c p ts = (ts ≡ []) ⊎ Completes c p ts

-- one of these tokens, between those before and those behind it
pub record Place (ts : List Token) : Type 0 where
  pub before : List Token
  pub here : Token
  pub behind : List Token
  pub split : ts ≡ before ++ here ∷ behind

-- the tokens up to that one, and then others
abbrev pub up_to : {ts : List Token} → Place ts → List Token → List Token
up_to x others = x.before ++ x.here ∷ others

-- they begin as all do
pub next_up_to : {ts : List Token} (x : Place ts) (us : List Token) → next (up_to x us) ≡ next ts
next_up_to {ts} x us = by x.before x.split
  where
    by : (k : List Token) → ts ≡ k ++ x.here ∷ x.behind → next (k ++ x.here ∷ us) ≡ next ts
    by [] e = ap next (sym e)
    by (t ∷ ks) e = ap next (sym e)

abbrev pub at_head : (t : Token) (ts : List Token) → Place (t ∷ ts)
at_head t ts = record { before = []; here = t; behind = ts; split = refl }

-- the same token behind further ones
abbrev pub behind_these : {ts us : List Token} (read : List Token) → ts ≡ read ++ us → Place us
    → Place ts
behind_these read e x = record {
  before = read ++ x.before;
  here = x.here;
  behind = x.behind;
  split = e ∙ ap (λ v. read ++ v) x.split ∙ sym (append_assoc read x.before (x.here ∷ x.behind));
}

-- the token at which a parser stops, and what has been read before it can be ended
pub record Stops {A : Type 0} (c : Class) (p : List Token → Out A) (ts : List Token) (n : ℕ)
    (k : ScriptKind) : Type 0 where
  pub place : Place ts
  pub line : place.here.line ≡ n
  pub always : (others : List Token)
      → p (up_to place others) ≡ Err (Fault (Some n) k)
  pub ends : Ends c p place.before

-- the same stop, of another parser
pub stops_as : {A B : Type 0} {c d : Class} {p : List Token → Out A} {q : List Token → Out B}
    {ts : List Token} {n : ℕ} {k : ScriptKind} (x : Stops c p ts n k)
    → ((others : List Token)
    → q (up_to x.place others) ≡ Err (Fault (Some n) k))
    → Ends d q x.place.before → Stops d q ts n k
stops_as x always ends = record { place = x.place; line = x.line; always = always; ends = ends }

abbrev pub Suits : Class → List Token → List Token → Type 0
Suits c us others = (next others ≡ next us) ⊎ Behind c others

-- the tokens that a parser reads
pub record Reads {A : Type 0} (c : Class) (p : List Token → Out A) (ts : List Token) (a : A)
    (us : List Token) : Type 0 where
  pub read : List Token
  pub split : ts ≡ read ++ us
  pub always : (others : List Token) → Suits c us others → p (read ++ others) ≡ Ok (a, others)

pub record IsOpenAt {A : Type 0} (c : Class) (p : List Token
    → Out A) (ts : List Token) : Type 0 where
  pub stops : (n : ℕ) (k : ScriptKind) → p ts ≡ Err (Fault (Some n) k) → Stops c p ts n k
  pub wants : (k : ScriptKind) → p ts ≡ Err (Fault None k) → Ends c p ts × (k ≡ Syntax)
  pub sober : p ts ≡ Err Memory → ⊥
  pub reads : (a : A) (us : List Token) → p ts ≡ Ok (a, us) → Reads c p ts a us

abbrev pub IsOpen : {A : Type 0} → Class → (List Token → Out A) → Type 0
IsOpen c p = (ts : List Token) → IsOpenAt c p ts

-- a value that a parser gives
pub record Gives {A : Type 0} (p : List Token → Out A) (a : A) : Type 0 where
  pub source : List Token
  pub left : List Token
  pub is : p source ≡ Ok (a, left)

-- a token is taken, or what may stand behind may stand before too
abbrev pub Follows : {A : Type 0} → Class → Class → (List Token → Out A) → Type 0
Follows {A} b c p = (ts : List Token) (a : A) (us : List Token) → p ts ≡ Ok (a, us)
    → (length us < length ts) ⊎ Sub c b

pub record IsComplete {A : Type 0} (b c : Class) (p : List Token → Out A) : Type 0 where
  pub open_ : IsOpen c p
  pub starts : Starts b c p
  pub follows : Follows b c p

pub no_longer : {A : Type 0} (c : Class) (p : List Token → Out A) (ts : List Token) (a : A)
    (us : List Token) → IsOpenAt c p ts → p ts ≡ Ok (a, us) → length us ≤ length ts
no_longer c p ts a us l e =
    let r = l.reads a us e in
    let h = ap length r.split in
    let i = length-append r.read us in
    omega (arith, h, i)
