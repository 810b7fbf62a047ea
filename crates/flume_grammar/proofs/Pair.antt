-- What a parser answers within higher limits, and that of one token.
use Rattle.std.proofs.Common.{◌≡◌, length, length-append, List, [], ◌∷◌, ◌++◌, ◌⊎◌, inl, inr, Some, None, Result, Ok, Err, refl, sym, ap, ap₂, subst, arith}
use Rattle.flume_tokens.specs.declared.token.Token.{Token}
use Rattle.flume_grammar.specs.declared.fault.ScriptKind.{ScriptKind}
use Rattle.flume_grammar.specs.declared.fault.Stop.{Stop}
use Rattle.flume_grammar.specs.declared.fault.Stop.TheVariants.{Fault, Memory}
use Rattle.flume_grammar.specs.inner.Out.{Out, at, passed, one}
use Rattle.flume_grammar.proofs.Open.{Class, Place, up_to, at_head, IsOpenAt}

abbrev pub Kinds : Type 1
Kinds = ScriptKind → Type 0

-- no fault of these kinds at a token
abbrev pub Spared : {A : Type 0} → Kinds → Out A → Type 0
Spared K (Err (Fault (Some n) k)) = K k → ⊥
Spared K _ = Unit {0}

-- all tokens are read
abbrev pub Swallows : {A : Type 0} → Out A → Type 0
Swallows (Ok x) = x.1 ≡ []
Swallows (Err (Fault None k)) = Unit {0}
Swallows _ = ⊥

pub record Passes {A : Type 0} (K : Kinds) (p q : List Token
    → Out A) (ts : List Token) : Type 0 where
  pub place : Place ts
  pub kind : ScriptKind
  pub is : K kind
  pub always : (others : List Token)
      → p (up_to place others) ≡ Err (Fault (Some place.here.line) kind)
  pub swallows : Swallows (q (up_to place []))

-- the same of two other parsers
pub passes_as : {A B : Type 0} {K : Kinds} {p q : List Token → Out A} {r s : List Token → Out B}
    {ts : List Token} (x : Passes K p q ts)
    → ((others : List Token)
    → r (up_to x.place others) ≡ Err (Fault (Some x.place.here.line) x.kind))
    → Swallows (s (up_to x.place [])) → Passes K r s ts
passes_as x always swallows = record {
  place = x.place;
  kind = x.kind;
  is = x.is;
  always = always;
  swallows = swallows;
}

abbrev pub RaiseAt : {A : Type 0} → Kinds → (List Token → Out A) → (List Token → Out A) → List Token
    → Type 0
RaiseAt K p q ts = ((p ts ≡ q ts) × Spared K (p ts)) ⊎ Passes K p q ts

abbrev pub Raise : {A : Type 0} → Kinds → (List Token → Out A) → (List Token → Out A) → Type 0
Raise K p q = (ts : List Token) → RaiseAt K p q ts

pub nothing_left : {A : Type 0} (c : Class) (r : List Token → Out A) → IsOpenAt c r []
    → Swallows (r [])
nothing_left {A} c r l = by (r []) refl
  where
    none_there : (before : List Token) (here : Token) (behind : List Token)
        → [] ≡ before ++ here ∷ behind → ⊥
    none_there [] here behind e = cc
    none_there (b ∷ before) here behind e = cc

    empty : (read us : List Token) → [] ≡ read ++ us → us ≡ []
    empty [] us e = sym e
    empty (b ∷ read) us e = cc

    by : (o : Out A) → r [] ≡ o → Swallows o
    by (Ok x) e = let z = l.reads x.0 x.1 e in empty z.read x.1 z.split
    by (Err (Fault None k)) e = tt
    by (Err (Fault (Some n) k)) e = let s = l.stops n k e in
        none_there s.place.before s.place.here s.place.behind s.place.split
    by (Err Memory) e = l.sober e

cons_same : (x y : Token) (a b : List Token) → x ≡ y → a ≡ b → x ∷ a ≡ y ∷ b
cons_same x y a b e h = ap₂ (λ z w. z ∷ w) e h

pub cancel : (a b c : List Token) → a ++ c ≡ b ++ c → a ≡ b
cancel [] [] c e = refl
cancel [] (y ∷ b) c e = absurd (let h = ap length e in let i = length-append b c in
    omega (arith, h, i))
cancel (x ∷ a) [] c e = absurd (let h = ap length e in let i = length-append a c in
    omega (arith, h, i))
cancel (x ∷ a) (y ∷ b) c e = cons_same x y a b (let h : x ≡ y = cc in
    h) (cancel a b c (let h : a ++ c ≡ b ++ c = cc in h))

-- ---- one token

-- a token is refused for no reason of these kinds
abbrev pub Plain : {A : Type 0} → Kinds → Token → Result A Stop → Type 0
Plain K t r = (s : Stop) → r ≡ Err s → (k : ScriptKind) × (s ≡ at t k) × (K k → ⊥)

-- the same, or refused by a limit, and taken by the higher one
abbrev pub Limited : {A : Type 0} → Kinds → Token → Result A Stop → Result A Stop → Type 0
Limited {A} K t r s = ((r ≡ s) × Plain K t r) ⊎ ((k : ScriptKind) × K k × (r ≡ Err (at t k))
    × ((a : A) × (s ≡ Ok a)))

pub raise_token : {A : Type 0} (K : Kinds) (f g : Token → Result A Stop)
    → ((t : Token) → Limited K t (f t) (g t)) → Raise K (one f) (one g)
raise_token K f g h [] = inl (refl, tt)
raise_token {A} K f g h (t ∷ ts) = by (h t)
  where
    spared : (r : Result A Stop) → Plain K t r → Spared K (passed r ts)
    spared (Ok a) i = tt
    spared (Err s) i = let x = i s refl in subst (λ z. Spared {A = A} K (Err z)) (sym x.1) x.2

    by : Limited K t (f t) (g t) → RaiseAt K (one f) (one g) (t ∷ ts)
    by (inl i) = inl (ap (λ r. passed r ts) i.0, spared (f t) i.1)
    by (inr i) = inr (record {
      place = at_head t ts;
      kind = i.0;
      is = i.1;
      always = λ others. ap (λ r. passed r others) i.2;
      swallows = subst Swallows (sym (ap (λ r. passed r []) (i.3).1)) refl;
    })
