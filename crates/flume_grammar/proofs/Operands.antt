-- What stands in parentheses.
use Rattle.std.proofs.Common.{◌≡◌, ℕ, zero, suc, ◌+◌, ◌-◌, ◌<◌, List, Ok, Err, refl, sym, ap, ◌∙◌, arith}
use Rattle.flume_tokens.specs.declared.token.Token.{Token}
use Rattle.flume_grammar.specs.declared.fault.Stop.{Stop}
use Rattle.flume_grammar.specs.declared.parts.SoFar.{SoFar}
use Rattle.flume_grammar.specs.inner.Out.{Out}
use Rattle.flume_grammar.specs.Limits.{Limits}
use Rattle.flume_grammar.specs.inner.Expressions.{Inner, enclosed, bare, operand, wrapped, least_in, Opens}

-- so many parentheses open here, and then those tokens come
abbrev pub OpensSoFar : Limits → ℕ → List Token → List Token → Type 0
OpensSoFar limits n ts us =
    (limit : ℕ) (inner : Inner) (least : ℕ)
    → operand limits limit inner least ts
    ≡ wrapped limit inner n (operand limits limit inner (least_in n least) us)

module _ (limit : ℕ) (inner : Inner) where
  wrapped_fault : (n : ℕ) (e : Stop) → wrapped limit inner n (Err e) ≡ Err e
  wrapped_fault zero e = refl
  wrapped_fault (suc n) e = wrapped_fault n e

  pub opens_fault : (l : Limits) (n least : ℕ) (ts us : List Token) (e : Stop) → Opens l n ts us
      → (n ≡ 0 → ⊥) → bare l limit inner 1 us ≡ Err e → operand l limit inner least ts ≡ Err e
  opens_fault l zero least ts us e o h q = absurd (h refl)
  opens_fault l (suc n) least ts us e o h q = o limit inner least
      ∙ ap (wrapped limit inner (suc n)) q ∙ wrapped_fault (suc n) e

  less : (n i : ℕ) → i < n → n - i ≡ suc (n - (i + 1))
  less n i h = omega (arith, h)

  close : (n i : ℕ) (x : SoFar) (ts : List Token) (o : Out SoFar) → i < n
      → enclosed limit inner x ts ≡ o
      → wrapped limit inner (n - i) (Ok (x, ts)) ≡ wrapped limit inner (n - (i + 1)) o
  close n i x ts o h q = ap (λ k. wrapped limit inner k (Ok (x, ts))) (less n i h)
      ∙ ap (wrapped limit inner (n - (i + 1))) q

  pub close_next : (n i : ℕ) (x y : SoFar) (ts us : List Token) (whole : Out SoFar) → i < n
      → enclosed limit inner x ts ≡ Ok (y, us) → wrapped limit inner (n - i) (Ok (x, ts)) ≡ whole
      → wrapped limit inner (n - (i + 1)) (Ok (y, us)) ≡ whole
  close_next n i x y ts us whole h q w = sym (close n i x ts (Ok (y, us)) h q) ∙ w

  pub close_fault : (n i : ℕ) (x : SoFar) (ts : List Token) (e : Stop) (whole : Out SoFar) → i < n
      → enclosed limit inner x ts ≡ Err e → wrapped limit inner (n - i) (Ok (x, ts)) ≡ whole
      → whole ≡ Err e
  close_fault n i x ts e whole h q w = sym w ∙ close n i x ts (Err e) h q
      ∙ wrapped_fault (n - (i + 1)) e
