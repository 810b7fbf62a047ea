-- The smallest parsers are open: what takes no token, and what takes one.
use Rattle.std.proofs.Common.{◌≡◌, ℕ, List, [], ◌∷◌, inl, inr, Some, None, Result, Ok, Err, refl, sym, ap, ◌∙◌, subst}
use Rattle.flume_tokens.specs.declared.token.Token.{Token}
use Rattle.flume_grammar.specs.declared.fault.ScriptKind.{ScriptKind}
use Rattle.flume_grammar.specs.declared.fault.ScriptKind.TheVariants.{Syntax}
use Rattle.flume_grammar.specs.declared.fault.Stop.{Stop}
use Rattle.flume_grammar.specs.declared.fault.Stop.TheVariants.{Fault, Memory}
use Rattle.flume_grammar.specs.inner.Out.{Out, give, passed, one}
use Rattle.flume_grammar.proofs.Sound.{gave}
use Rattle.flume_grammar.proofs.Open.{Class, any, at_head, Sub, Stops, Suits, Reads, IsOpenAt, IsOpen, IsComplete}

-- nothing is read, before this and before any of the class
pub stands : {A : Type 0} (c : Class) (p : List Token → Out A) (a : A) (ts : List Token)
    → p ts ≡ Ok (a, ts) → ((others : List Token) → Suits c ts others → p others ≡ Ok (a, others))
    → IsOpenAt c p ts
stands {A} c p a ts e h = record {
  stops = λ n k q. let w = sym e ∙ q in
      cc;
  wants = λ k q. let w = sym e ∙ q in cc;
  sober = λ q. let w = sym e ∙ q in
      cc;
  reads = reads;
}
  where
    reads : (b : A) (us : List Token) → p ts ≡ Ok (b, us) → Reads c p ts b us
    reads b us q =
        let g = gave a b ts us (sym e ∙ q) in
        record {
          read = [];
          split = g.1;
          always =
              λ others i. h others (subst (λ x. Suits c x others) (sym g.1) i)
              ∙ ap (λ x. give x others) g.0;
        }

-- ---- the smallest parsers

pub given : {A : Type 0} (b c : Class) (a : A) → Sub c b → IsComplete b c (give a)
given b c a s = record {
  open_ = λ ts. stands c (give a) a ts refl (λ others i. refl);
  starts = record { others = []; got = a; always = λ rest h. refl; leads = s };
  follows = λ ts x us e. inr s;
}

-- of nothing nothing is read
pub wanting : {A : Type 0} (c : Class) (p : List Token → Out A) → p [] ≡ Err (Fault None Syntax)
    → IsOpenAt c p []
wanting c p q = record {
  stops = λ n k e. let w = sym q ∙ e in cc;
  wants = λ k e. let w = sym q ∙ e in (inl refl, let v : Syntax ≡ k = cc in sym v);
  sober = λ e. let w = sym q ∙ e in cc;
  reads = λ a us e. let w = sym q ∙ e in cc;
}

-- a token is refused at that token
abbrev pub Owns : {A : Type 0} → Token → Result A Stop → Type 0
Owns t r = (s : Stop) → r ≡ Err s → (k : ScriptKind) × (s ≡ Fault (Some t.line) k)

pub single : {A : Type 0} (f : Token → Result A Stop) → ((t : Token) → Owns t (f t))
    → IsOpen any (one f)
single f own [] = wanting any (one f) refl
single {A} f own (t ∷ ts) = record {
  stops = λ n k e. stops (f t) refl n k e;
  wants =
      λ k e. absurd (by_token (f t) refl k e);
  sober = λ e. tipsy (f t) refl e;
  reads =
      λ a us e. reads (f t) refl a us e;
}
  where
    stops : (r : Result A Stop) → f t ≡ r → (n : ℕ) (k : ScriptKind)
        → passed r ts ≡ Err (Fault (Some n) k) → Stops any (one f) (t ∷ ts) n k
    stops (Ok a) q n k e = cc
    stops (Err s) q n k e =
        let w : s ≡ Fault (Some n) k = cc in
        let v = q ∙ ap Err w in
        let z = own t s q in
        let y : Fault (Some t.line) z.0 ≡ Fault (Some n) k = sym z.1 ∙ w in
        let same : t.line ≡ n = cc in
        record {
          place = at_head t ts;
          line = same;
          always = λ others. ap (λ x. passed x others) v;
          ends = inl refl;
        }

    by_token : (r : Result A Stop) → f t ≡ r → (k : ScriptKind) → passed r ts ≡ Err (Fault None k)
        → ⊥
    by_token (Ok a) q k e = cc
    by_token (Err s) q k e =
        let w : s ≡ Fault None k = cc in
        let z = own t s q in
        let y : Fault (Some t.line) z.0 ≡ Fault None k = sym z.1 ∙ w in cc

    tipsy : (r : Result A Stop) → f t ≡ r → passed r ts ≡ Err Memory → ⊥
    tipsy (Ok a) q e = cc
    tipsy (Err s) q e =
        let w : s ≡ Memory = cc in
        let z = own t s q in
        let y : Fault (Some t.line) z.0 ≡ Memory = sym z.1 ∙ w in cc

    reads : (r : Result A Stop) → f t ≡ r → (a : A) (us : List Token) → passed r ts ≡ Ok (a, us)
        → Reads any (one f) (t ∷ ts) a us
    reads (Err s) q a us e = cc
    reads (Ok b) q a us e =
        let g = gave b a ts us e in
        record {
          read = t ∷ [];
          split = ap (λ vs. t ∷ vs) g.1;
          always = λ others i. ap (λ x. passed x others) q ∙ ap (λ c. give c others) g.0;
        }
