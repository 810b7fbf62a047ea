-- How far a loop over `many` has come.
use Rattle.std.proofs.Common.{◌≡◌, ◌≢◌, ℕ, zero, suc, ◌≤◌, ◌<◌, length, List, [], ◌∷◌, Bool, true, false, Result, Ok, Err, refl, sym, ap, ◌∙◌, subst, arith, if◌then◌else◌}
use Rattle.std.proofs.lemmas.Bool.{both_ways}
use Rattle.std.proofs.lemmas.Result.{err_from_is_err_and}
use Rattle.std.specs.Result.{IsErrAnd}
use Rattle.flume_tokens.specs.declared.token.Token.{Token}
use Rattle.flume_grammar.specs.declared.fault.Stop.{Stop}
use Rattle.flume_grammar.specs.declared.fault.Stop.TheVariants.{Memory}
use Rattle.flume_grammar.specs.inner.Out.{Out, bind, many, all_of}
use Rattle.flume_grammar.specs.inner.Reads.{Read}

-- what is left, from this state and these tokens, comes to the whole; the turns that are left are
-- enough
abbrev pub Reaches : {A : Type 0} → (A → List Token → Bool) → (A → List Token → Out A) → Out A → A
    → List Token → Type 0
Reaches more part whole a ts = (k : ℕ) × (length ts ≤ k) × (many k more part a ts ≡ whole)

pub lost : {A B : Type 0} (o : Out A) (f : A → List Token → Out B) (e : Stop) → o ≡ Err e
    → bind o f ≡ Err e
lost o f e q = ap (λ x. bind x f) q

module _ {A : Type 0} (more : A → List Token → Bool) (part : A → List Token → Out A) where
  pub reaches_start : (a : A) (ts : List Token) → Reaches more part (all_of more part a ts) a ts
  unfolding all_of
  reaches_start a ts = (length ts, omega arith, refl)

  turn : (k : ℕ) (a : A) (ts : List Token) → more a ts ≡ true
      → many (suc k) more part a ts ≡ bind (part a ts) (λ b us. many k more part b us)
  turn k a ts e =
      ap (λ t. if t then bind (part a ts) (λ b us. many k more part b us) else Ok (a, ts)) e

  pub reaches_next : (whole : Out A) (a b : A) (ts us : List Token) → Reaches more part whole a ts
      → more a ts ≡ true → part a ts ≡ Ok (b, us) → length us < length ts
      → Reaches more part whole b us
  reaches_next whole a b ts us (zero, h, q) e p l = absurd (omega arith)
  reaches_next whole a b ts us (suc k, h, q) e p l = (
    k,
    omega arith,
    ap (λ o. bind o (λ c vs. many k more part c vs)) (sym p)
        ∙ sym (turn k a ts e) ∙ q,
  )

  pub reaches_end : (whole : Out A) (a : A) (ts : List Token) → Reaches more part whole a ts
      → more a ts ≡ false → whole ≡ Ok (a, ts)
  reaches_end whole a ts (zero, h, q) e = sym q
  reaches_end whole a ts (suc k, h, q) e = sym q
      ∙ ap (λ t. if t then bind (part a ts) (λ b us. many k more part b us) else Ok (a, ts)) e

  pub reaches_fault : (whole : Out A) (a : A) (ts : List Token) (f : Stop) → more a [] ≡ false
      → Reaches more part whole a ts → more a ts ≡ true → part a ts ≡ Err f → whole ≡ Err f
  reaches_fault whole a [] f z r e p = absurd (both_ways (more a []) z e)
  reaches_fault whole a (t ∷ ts) f z (zero, h, q) e p = absurd (omega arith)
  reaches_fault whole a (t ∷ ts) f z (suc k, h, q) e p = sym q ∙ turn k a (t ∷ ts) e
      ∙ ap (λ o. bind o (λ c vs. many k more part c vs)) p

-- A loop that began with the first state and tokens has come to this state and those tokens: what
-- is left to read comes to the whole, and the state is such.
pub record Turned {A : Type 0} (more : A → List Token → Bool) (part : A → List Token → Out A)
    (such : A → Type 0) (first : A) (ts : List Token) (a : A) (us : List Token) : Type 0 where
  pub reaches : Reaches more part (all_of more part first ts) a us
  pub fits : such a
  pub shorter : length us ≤ length ts

pub at_first : {A : Type 0} (more : A → List Token → Bool) (part : A → List Token → Out A)
    (such : A → Type 0) (first a : A) (ts : List Token) → a ≡ first → such a
    → Turned more part such first ts a ts
at_first more part such first a ts e f = record {
  reaches = subst (λ z. Reaches more part (all_of more part z ts) a ts) e
      (reaches_start more part a ts);
  fits = f;
  shorter = omega arith;
}

module _ {A : Type 0} {more : A → List Token → Bool} {part : A → List Token → Out A}
    {such : A → Type 0} {first a : A} {ts us : List Token} (h : Turned more part such first ts a us)
  where
    pub turned : {b : A} {vs : List Token} → more a us ≡ true → Read such (part a) us vs b
        → Turned more part such first ts b vs
    turned {b} {vs} e r = record {
      reaches = reaches_next more part (all_of more part first ts) a b us vs h.reaches e r.value
          r.shorter;
      fits = r.fits;
      shorter = let i = h.shorter in let j = r.shorter in omega (arith, i, j);
    }

    -- where the next part has a fault, the whole has it
    pub faulted : {f : Stop} → more a [] ≡ false → more a us ≡ true → part a us ≡ Err f
        → all_of more part first ts ≡ Err f
    faulted {f} z e p = reaches_fault more part (all_of more part first ts) a us f z h.reaches e
        p

    -- and it is answered, where the call's fault is passed on
    pub failed : {B : Type 0} {f : Stop} → more a [] ≡ false → more a us ≡ true
        → (f ≢ Memory → part a us ≡ Err f) → (r : Result B Stop) → IsErrAnd r (λ e. e ≡ f)
        → (r ≡ Err f) × (f ≢ Memory → all_of more part first ts ≡ Err f)
    failed z e p r i =
        let q = err_from_is_err_and r i in
        (q.1 ∙ ap Err q.2, λ other. faulted z e (p other))
