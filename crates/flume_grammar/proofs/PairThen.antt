-- One parser and then another, and loops of parts, within limits and higher ones.
use Rattle.std.proofs.Common.{◌≡◌, ℕ, zero, suc, ◌≤◌, ◌<◌, length, List, [], ◌∷◌, ◌++◌, inl, inr, Bool, true, false, Some, None, Ok, Err, if◌then◌else◌, refl, sym, ap, ◌∙◌, subst, arith}
use Rattle.std.proofs.lemmas.List.{append_assoc}
use Rattle.flume_tokens.specs.declared.token.Token.{Token}
use Rattle.flume_grammar.specs.declared.fault.Stop.{Stop}
use Rattle.flume_grammar.specs.declared.fault.Stop.TheVariants.{Fault, Memory}
use Rattle.flume_grammar.specs.inner.Out.{Out, give, bind, next, all_of}
use Rattle.flume_grammar.proofs.Open.{Class, Sub, up_to, next_up_to, behind_these, IsOpenAt, Gives, IsComplete}
use Rattle.flume_grammar.proofs.OpenSmallest.{given}
use Rattle.flume_grammar.proofs.OpenThen.{then_}
use Rattle.flume_grammar.proofs.OpenLoops.{Turns, loops, unrolled}
use Rattle.flume_grammar.proofs.OpenNarrow.{wider, closer}
use Rattle.flume_grammar.proofs.Pair.{Kinds, Spared, Swallows, passes_as, RaiseAt, Raise, nothing_left, cancel}

-- ---- one parser and then another

module _ {A B : Type 0} (K : Kinds) (b c : Class) (p q : List Token → Out A) (f g : A → List Token
    → Out B) where
  abbrev low : List Token → Out B
  low ts = bind (p ts) f

  abbrev high : List Token → Out B
  high ts = bind (q ts) g

  onward : (r : List Token → Out A) (h : A → List Token → Out B) (read before others : List Token)
      (a : A) (z : Out B) → r (read ++ (before ++ others)) ≡ Ok (a, before ++ others)
      → h a (before ++ others) ≡ z
      → bind (r (read ++ before ++ others)) h ≡ z
  onward r h read before others a z e i = ap (λ v. bind (r v) h) (append_assoc read before others)
      ∙ ap (λ o. bind o h) e ∙ i

  pub raise_bind : (ts : List Token) → IsOpenAt b p ts → IsOpenAt b q ts → RaiseAt K p q ts
      → ((a : A) (us : List Token) → p ts ≡ Ok (a, us) → RaiseAt K (f a) (g a) us)
      → ((a : A) → Gives q a → IsOpenAt c (g a) [])
      → RaiseAt K low high ts
  raise_bind ts l m (inl i) r z = by (p ts) refl
    where
      by : (o : Out A) → p ts ≡ o → RaiseAt K low high ts
      by (Err s) e =
          let v : low ts ≡ Err s = ap (λ o. bind o f) e in
          let w : high ts ≡ Err s = ap (λ o. bind o g) (sym i.0 ∙ e) in
          inl (v ∙ sym w, subst (Spared K) (sym v) (keep s (subst (Spared K) e i.1)))
        where
          keep : (x : Stop) → Spared {A = A} K (Err x) → Spared {A = B} K (Err x)
          keep (Fault (Some n) k) y = y
          keep (Fault None k) y = tt
          keep Memory y = tt
      by (Ok y) e = on (r y.0 y.1 e)
        where
          v : low ts ≡ f y.0 y.1
          v = ap (λ o. bind o f) e

          on : RaiseAt K (f y.0) (g y.0) y.1 → RaiseAt K low high ts
          on (inl j) =
              inl (v ∙ j.0 ∙ sym (ap (λ o. bind o g) (sym i.0 ∙ e)), subst (Spared K) (sym v) j.1)
          on (inr x) =
              let u = l.reads y.0 y.1 e in
              let w = m.reads y.0 y.1 (sym i.0 ∙ e) in
              let same = cancel w.read u.read y.1 (sym w.split ∙ u.split) in
              inr (record {
                place = behind_these u.read u.split x.place;
                kind = x.kind;
                is = x.is;
                always = λ others. onward p f u.read x.place.before (x.place.here ∷ others) y.0 _
                    (u.always (up_to x.place others) (inl (next_up_to x.place others)))
                    (x.always others);
                swallows = subst
                    (λ k. Swallows (high (k ++ x.place.before ++ x.place.here ∷ []))) same
                    (subst Swallows
                    (sym (onward q g w.read x.place.before (x.place.here ∷ []) y.0 _
                    (w.always (up_to x.place []) (inl (next_up_to x.place []))) refl)) x.swallows);
              })
  raise_bind ts l m (inr x) r z =
      inr (passes_as x (λ others. ap (λ o. bind o f) (x.always others))
      (by (q (up_to x.place [])) refl x.swallows))
    where
      by : (o : Out A) → q (up_to x.place []) ≡ o → Swallows o → Swallows (bind o g)
      by (Ok y) e i =
          subst (λ k. Swallows (g y.0 k)) (sym i)
          (nothing_left c (g y.0)
          (z y.0 (record { source = up_to x.place []; left = y.1; is = e })))
      by (Err (Fault None k)) e i = tt
      by (Err (Fault (Some n) k)) e i = absurd i
      by (Err Memory) e i = absurd i

-- the two as others, before the same next token
pub raise_agree : {A : Type 0} (K : Kinds) (p q r s : List Token → Out A) (ts : List Token)
    → ((us : List Token) → next us ≡ next ts → p us ≡ r us) → ((us : List Token) → next us ≡ next ts
    → q us ≡ s us) → RaiseAt K r s ts → RaiseAt K p q ts
raise_agree K p q r s ts h i (inl x) =
    inl (h ts refl ∙ x.0 ∙ sym (i ts refl), subst (Spared K) (sym (h ts refl)) x.1)
raise_agree K p q r s ts h i (inr x) =
    inr (passes_as x
    (λ others. h (up_to x.place others) (next_up_to x.place others) ∙ x.always others)
    (subst Swallows (sym (i (up_to x.place []) (next_up_to x.place []))) x.swallows))

-- ---- two complete parsers

pub record IsPair {A : Type 0} (K : Kinds) (b c : Class) (p q : List Token → Out A) : Type 0 where
  pub low_ : IsComplete b c p
  pub high_ : IsComplete b c q
  pub raise : Raise K p q

pub pair_given : {A : Type 0} (K : Kinds) (b c : Class) (a : A) → Sub c b
    → IsPair K b c (give a) (give a)
pair_given K b c a s = record {
  low_ = given b c a s;
  high_ = given b c a s;
  raise =
      λ ts. inl (refl, tt);
}

pair_as : {A : Type 0} (K : Kinds) (a b c d : Class) (p q : List Token → Out A)
    → ((r : List Token → Out A) → IsComplete a b r → IsComplete c d r) → IsPair K a b p q
    → IsPair K c d p q
pair_as K a b c d p q f x = record { low_ = f p x.low_; high_ = f q x.high_; raise = x.raise }

pub pair_wider : {A : Type 0} (K : Kinds) (b d c : Class) (p q : List Token → Out A) → Sub b d
    → IsPair K b c p q → IsPair K d c p q
pair_wider K b d c p q s = pair_as K b c d c p q (λ r. wider b d c r s)

pub pair_closer : {A : Type 0} (K : Kinds) (b c d : Class) (p q : List Token → Out A) → Sub c d
    → IsPair K b d p q → IsPair K b c p q
pair_closer K b c d p q s = pair_as K b d b c p q (λ r. closer b c d r s)

-- what follows counts only for what is given
pub pair_given_then : {A B : Type 0} (K : Kinds) (a b c : Class) (p q : List Token → Out A) (f g : A
    → List Token → Out B) → IsPair K a b p q → ((x : A) → Gives p x → IsComplete b c (f x))
    → ((x : A) → Gives q x → IsComplete b c (g x))
    → ((x : A) → Gives p x → Raise K (f x) (g x))
    → IsPair K a c (λ ts. bind (p ts) f) (λ ts. bind (q ts) g)
pair_given_then K a b c p q f g h i j k = record {
  low_ = then_ a b c p f h.low_ i;
  high_ = then_ a b c q g h.high_ j;
  raise = λ ts. raise_bind K b c p q f g ts (h.low_.open_ ts) (h.high_.open_ ts) (h.raise ts)
      (λ x us e. k x (record { source = ts; left = us; is = e }) us) (λ x y. (j x y).open_ []);
}

pub pair_then : {A B : Type 0} (K : Kinds) (a b c : Class) (p q : List Token → Out A) (f g : A
    → List Token → Out B) → IsPair K a b p q → ((x : A) → IsPair K b c (f x) (g x))
    → IsPair K a c (λ ts. bind (p ts) f) (λ ts. bind (q ts) g)
pair_then K a b c p q f g h i = pair_given_then K a b c p q f g h (λ x _. (i x).low_)
    (λ x _. (i x).high_) (λ x _. (i x).raise)

-- ---- loops

module _ {A : Type 0} (K : Kinds) (c d : Class) (more : A → List Token → Bool)
    (p q : A → List Token → Out A) (P Q : A → Type 0) (low : Turns c d more p P)
    (high : Turns c d more q Q) (up : (a : A) → P a → Q a)
    (raise_part : (a : A) (ts : List Token) → P a → more a ts ≡ true → RaiseAt K (p a) (q a) ts)
  where
    turned : (a : A) (ts : List Token) → P a → ((b : A) (us : List Token) → length us < length ts
        → P b → RaiseAt K (all_of more p b) (all_of more q b) us)
        → RaiseAt K (all_of more p a) (all_of more q a) ts
    turned a ts h rest = by (more a ts) refl
      where
        low_turn : (us : List Token) (x : Bool) → more a us ≡ x
            → all_of more p a us ≡ (if x then bind (p a us) (all_of more p) else Ok (a, us))
        low_turn us x e = unrolled c d more p P low a us h
            ∙ ap (λ y. if y then bind (p a us) (all_of more p) else Ok (a, us)) e

        high_turn : (us : List Token) (x : Bool) → more a us ≡ x
            → all_of more q a us ≡ (if x then bind (q a us) (all_of more q) else Ok (a, us))
        high_turn us x e = unrolled c d more q Q high a us (up a h)
            ∙ ap (λ y. if y then bind (q a us) (all_of more q) else Ok (a, us)) e

        by : (x : Bool) → more a ts ≡ x → RaiseAt K (all_of more p a) (all_of more q a) ts
        by false e =
            let v = low_turn ts false e in
            inl (v ∙ sym (high_turn ts false e), subst (Spared K) (sym v) tt)
        by true e =
            raise_agree K (all_of more p a) (all_of more q a) (λ us. bind (p a us) (all_of more p))
            (λ us. bind (q a us) (all_of more q)) ts
            (λ us i. low_turn us true (low.same a ts us i ∙ e))
            (λ us i. high_turn us true (low.same a ts us i ∙ e))
            (raise_bind K d c (p a) (q a) (all_of more p) (all_of more q) ts (low.open_ a ts h e)
            (high.open_ a ts (up a h) e) (raise_part a ts h e)
            (λ b us i. rest b us (low.takes a ts b us h e i) (low.keeps a ts b us h i))
            (λ b g. (loops c d more q Q high b
            (high.keeps a g.source b g.left (up a h) g.is)).open_ []))

    loop_at : (k : ℕ) (a : A) (ts : List Token) → length ts ≤ k → P a
        → RaiseAt K (all_of more p a) (all_of more q a) ts
    loop_at zero a ts h i = turned a ts i (λ b us l. absurd (omega (arith, l, h)))
    loop_at (suc k) a ts h i = turned a ts i (λ b us l. loop_at k b us (omega (arith, l, h)))

    pub pair_loop : (a : A) → P a → IsPair K c c (all_of more p a) (all_of more q a)
    pair_loop a h = record {
      low_ = loops c d more p P low a h;
      high_ = loops c d more q Q high a (up a h);
      raise = λ ts. loop_at (length ts) a ts (omega arith) h;
    }
