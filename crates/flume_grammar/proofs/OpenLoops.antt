-- A loop of open parts is open.
use Rattle.std.proofs.Common.{◌≡◌, ℕ, zero, suc, ◌≤◌, ◌<◌, length, List, [], ◌∷◌, inl, inr, Bool, true, false, Ok, Err, if◌then◌else◌, refl, sym, ap, ◌∙◌, arith}
use Rattle.flume_tokens.specs.declared.token.Token.{Token}
use Rattle.flume_grammar.specs.inner.Out.{Out, bind, next, many, all_of}
use Rattle.flume_grammar.proofs.Sound.{bound}
use Rattle.flume_grammar.proofs.Open.{Class, Behind, Sub, Starts, Suits, IsOpenAt, IsComplete, no_longer}
use Rattle.flume_grammar.proofs.OpenAlike.{agree}
use Rattle.flume_grammar.proofs.OpenSmallest.{stands}
use Rattle.flume_grammar.proofs.OpenThen.{binds_at}

-- ---- loops

-- What a loop asks of its parts: none is read before the class c, and each takes a token, is open
-- before the class d and keeps what P says.
pub record Turns {A : Type 0} (c d : Class) (more : A → List Token → Bool) (part : A → List Token
    → Out A) (P : A → Type 0) : Type 0 where
  pub sub : Sub c d
  pub stopped : (a : A) (ts : List Token) → Behind c ts → more a ts ≡ false
  pub same : (a : A) (ts us : List Token) → next us ≡ next ts → more a us ≡ more a ts
  pub takes : (a : A) (ts : List Token) (b : A) (us : List Token) → P a → more a ts ≡ true
      → part a ts ≡ Ok (b, us) → length us < length ts
  pub open_ : (a : A) (ts : List Token) → P a → more a ts ≡ true → IsOpenAt d (part a) ts
  pub keeps : (a : A) (ts : List Token) (b : A) (us : List Token) → P a → part a ts ≡ Ok (b, us)
      → P b

module _ {A : Type 0} (c d : Class) (more : A → List Token → Bool) (part : A → List Token
    → Out A) (P : A → Type 0) (turns : Turns c d more part P) where
  open turns use {sub, stopped, same, takes, open_, keeps}

  abbrev pub turn : (A → List Token → Out A) → A → List Token → Bool → Out A
  turn rest a ts b = if b then bind (part a ts) rest else Ok (a, ts)

  same_turn : (f g : A → List Token → Out A) (a : A) (ts : List Token) → P a
      → ((b : A) (us : List Token) → length us < length ts → P b → f b us ≡ g b us)
      → turn f a ts (more a ts) ≡ turn g a ts (more a ts)
  same_turn f g a ts i h = by (more a ts) refl (part a ts) refl
    where
      by : (b : Bool) → more a ts ≡ b → (o : Out A) → part a ts ≡ o
          → (if b then bind o f else Ok (a, ts)) ≡ (if b then bind o g else Ok (a, ts))
      by false q o r = refl
      by true q (Err s) r = refl
      by true q (Ok x) r = h x.0 x.1 (takes a ts x.0 x.1 i q r) (keeps a ts x.0 x.1 i r)

  enough : (k j : ℕ) (a : A) (ts : List Token) → P a → length ts ≤ k → length ts ≤ j
      → many k more part a ts ≡ many j more part a ts
  enough zero zero a ts p h i = refl
  enough zero (suc j) a [] p h i =
      sym (ap (turn (λ b us. many j more part b us) a []) (stopped a [] tt))
  enough zero (suc j) a (t ∷ ts) p h i = absurd (omega (arith, h))
  enough (suc k) zero a [] p h i =
      ap (turn (λ b us. many k more part b us) a []) (stopped a [] tt)
  enough (suc k) zero a (t ∷ ts) p h i = absurd (omega (arith, i))
  enough (suc k) (suc j) a ts p h i = same_turn (many k more part) (many j more part) a ts p
      (λ b us l m. enough k j b us m (omega (arith, l, h)) (omega (arith, l, i)))

  pub unrolled : (a : A) (ts : List Token) → P a
      → all_of more part a ts ≡ turn (all_of more part) a ts (more a ts)
  unfolding all_of
  unrolled a [] p =
      sym (ap (turn (λ b us. many (length us) more part b us) a []) (stopped a [] tt))
  unrolled a (t ∷ ts) p =
      same_turn (many (length ts) more part) (λ b us. many (length us) more part b us) a
      (t ∷ ts) p (λ b us l m. enough (length ts) (length us) b us m (omega (arith, l))
      (omega arith))

  -- where the loop ends
  rests : (a : A) (ts : List Token) → P a → more a ts ≡ false → all_of more part a ts ≡ Ok (a, ts)
  rests a ts p q = unrolled a ts p ∙ ap (turn (all_of more part) a ts) q

  begins : (b : Class) → Sub c b → (a : A) → P a → Starts b c (all_of more part a)
  begins b s a p = record {
    others = [];
    got = a;
    always = λ rest h. rests a rest p (stopped a rest h);
    leads = s;
  }

  turned : (a : A) (ts : List Token) → P a → ((b : A) (us : List Token) → length us < length ts
      → P b → IsOpenAt c (all_of more part b) us) → IsOpenAt c (all_of more part a) ts
  turned a ts h rest = by (more a ts) refl
    where
      stays : (others : List Token) → more a ts ≡ false → Suits c ts others
          → more a others ≡ false
      stays others q (inl i) = same a ts others i ∙ q
      stays others q (inr i) = stopped a others i

      fewer : more a ts ≡ true → (b : A) (us : List Token)
          → bind (part a ts) (all_of more part) ≡ Ok (b, us) → length us < length ts
      fewer q b us e =
          let x = bound (part a ts) (all_of more part) b us e in
          let i = takes a ts x.got x.rest h q x.part in
          let j = no_longer c (all_of more part x.got) x.rest b us
          (rest x.got x.rest i (keeps a ts x.got x.rest h x.part)) x.after in
          omega (arith, i, j)

      by : (b : Bool) → more a ts ≡ b → IsOpenAt c (all_of more part a) ts
      by false q = stands c (all_of more part a) a ts (rests a ts h q)
          (λ others i. rests a others h (stays others q i))
      by true q =
          agree c (all_of more part a) (λ vs. bind (part a vs) (all_of more part)) ts
          (λ us e. unrolled a us h ∙ ap (turn (all_of more part) a us) (same a ts us e ∙ q))
          (fewer q)
          (binds_at d c (part a) (all_of more part) ts (open_ a ts h q)
          (λ b us r. rest b us (takes a ts b us h q r) (keeps a ts b us h r))
          (λ b r. begins d sub b (keeps a r.source b r.left h r.is)) (λ b r vs x us e. inr sub))

  loop_at : (k : ℕ) (a : A) (ts : List Token) → length ts ≤ k → P a
      → IsOpenAt c (all_of more part a) ts
  loop_at zero a ts h i = turned a ts i (λ b us l. absurd (omega (arith, l, h)))
  loop_at (suc k) a ts h i = turned a ts i (λ b us l. loop_at k b us (omega (arith, l, h)))

  pub loops : (a : A) → P a → IsComplete c c (all_of more part a)
  loops a h = record {
    open_ = λ ts. loop_at (length ts) a ts (omega arith) h;
    starts = begins c (λ rs i. i) a h;
    follows = λ ts x us e. inr (λ rs i. i);
  }
