-- One open parser and then another are open together.
use Rattle.std.proofs.Common.{◌≡◌, ℕ, ◌≤◌, ◌<◌, length, List, [], ◌∷◌, ◌++◌, ◌⊎◌, inl, inr, Some, None, Ok, Err, refl, sym, ap, ◌∙◌, subst, arith}
use Rattle.std.proofs.lemmas.List.{append_assoc}
use Rattle.flume_tokens.specs.declared.token.Token.{Token}
use Rattle.flume_grammar.specs.declared.fault.ScriptKind.{ScriptKind}
use Rattle.flume_grammar.specs.declared.fault.ScriptKind.TheVariants.{Syntax}
use Rattle.flume_grammar.specs.declared.fault.Stop.TheVariants.{Fault, Memory}
use Rattle.flume_grammar.specs.inner.Out.{Out, bind, next}
use Rattle.flume_grammar.proofs.Sound.{bound}
use Rattle.flume_grammar.proofs.Open.{Class, Behind, Sub, Completes, Starts, Ends, up_to, next_up_to, behind_these, Stops, stops_as, Suits, Reads, IsOpenAt, Gives, Follows, IsComplete, no_longer}

-- ---- one parser and then another

module _ {A B : Type 0} (b c : Class) (p : List Token → Out A) (f : A → List Token → Out B) where
  abbrev both : List Token → Out B
  both vs = bind (p vs) f

  onward : (read before others : List Token) (a : A) (r : Out B)
      → p (read ++ (before ++ others)) ≡ Ok (a, before ++ others) → f a (before ++ others) ≡ r
      → both (read ++ before ++ others) ≡ r
  onward read before others a r e g = ap (λ z. bind (p z) f) (append_assoc read before others)
      ∙ ap (λ o. bind o f) e ∙ g

  nil : (us : List Token) → us ++ [] ≡ us
  nil [] = refl
  nil (u ∷ us) = ap (λ x. u ∷ x) (nil us)

  -- the first can be ended, and then the second be read
  compose : (ts : List Token) (m : Completes b p ts) → Starts b c (f m.got) → Completes c both ts
  compose ts m s = record {
    others = m.others ++ s.others;
    got = s.got;
    always = λ rest h. ap (λ z. bind (p (ts ++ z)) f) (append_assoc m.others s.others rest)
        ∙ ap (λ o. bind o f) (m.always (s.others ++ rest) (s.leads rest h)) ∙ s.always rest h;
  }

  composed : (ts : List Token) → Ends b p ts → ((m : Completes b p ts) → Starts b c (f m.got))
      → Ends c both ts
  composed ts (inl e) h = inl e
  composed ts (inr m) h = inr (compose ts m (h m))

  -- the first is read, and the second can be ended
  ended : (read vs before : List Token) (a : A) → ((others : List Token) → Suits b vs others
      → p (read ++ others) ≡ Ok (a, others)) → Starts b c (f a)
      → ((t : Token) (ks : List Token) → before ≡ t ∷ ks → next vs ≡ Some t.kind)
      → Ends c (f a) before → Completes c both (read ++ before)
  ended read vs [] a r s h e =
      record {
        others = s.others;
        got = s.got;
        always =
            λ rest i. onward read [] (s.others ++ rest) a _
            (r (s.others ++ rest) (inr (s.leads rest i))) (s.always rest i);
      }
  ended read vs (t ∷ ks) a r s h (inl e) = absurd (let z : t ∷ ks ≡ [] = e in cc)
  ended read vs (t ∷ ks) a r s h (inr w) =
      record {
        others = w.others;
        got = w.got;
        always =
            λ rest i. onward read (t ∷ ks) (w.others ++ rest) a _
            (r (t ∷ ks ++ (w.others ++ rest)) (inl (sym (h t ks refl)))) (w.always rest i);
      }

  suits : (k vs us others : List Token) → vs ≡ k ++ us → (length us < length vs) ⊎ Sub c b
      → Suits c us others → Suits b vs (k ++ others)
  suits [] vs us others e w (inl i) = inl (i ∙ ap next (sym e))
  suits [] vs us others e (inl w) (inr i) = absurd (let j = ap length e in omega (arith, w, j))
  suits [] vs us others e (inr s) (inr i) = inr (s others i)
  suits (t ∷ ks) vs us others e w i = inl (ap next (sym e))

  pub binds_at : (ts : List Token) → IsOpenAt b p ts
      → ((a : A) (us : List Token) → p ts ≡ Ok (a, us) → IsOpenAt c (f a) us)
      → ((a : A) → Gives p a → Starts b c (f a)) → ((a : A) → Gives p a → Follows b c (f a))
      → IsOpenAt c both ts
  binds_at ts l m start follow = record {
    stops = λ n k e. stops (p ts) refl n k e;
    wants =
        λ k e. wants (p ts) refl k e;
    sober = λ e. sober (p ts) refl e;
    reads =
        λ z us e. reads (p ts) refl z us e;
  }
    where
      begin : (us : List Token) (x : Completes b p us) → Starts b c (f x.got)
      begin us x =
          start x.got (record { source = us ++ (x.others ++ []); left = []; is = x.always [] tt })

      gives : (a : A) (us : List Token) → p ts ≡ Ok (a, us) → Gives p a
      gives a us q = record { source = ts; left = us; is = q }

      stops : (o : Out A) → p ts ≡ o → (n : ℕ) (k : ScriptKind) → bind o f ≡ Err (Fault (Some n) k)
          → Stops c both ts n k
      stops (Err s) q n k e =
          let w : s ≡ Fault (Some n) k = cc in
          let x = l.stops n k (q ∙ ap Err w) in
          stops_as x (λ others. ap (λ o. bind o f) (x.always others))
          (composed x.place.before x.ends (begin x.place.before))
      stops (Ok y) q n k e =
          let x = l.reads y.0 y.1 q in
          let z = (m y.0 y.1 q).stops n k e in
          record {
            place = behind_these x.read x.split z.place;
            line = z.line;
            always = λ others. onward x.read z.place.before (z.place.here ∷ others) y.0 _
                (x.always (up_to z.place others) (inl (next_up_to z.place others)))
                (z.always others);
            ends =
                inr (ended x.read y.1 z.place.before y.0 x.always (start y.0 (gives y.0 y.1 q))
                (λ t ks i. ap next z.place.split
                ∙ ap (λ v. next (v ++ z.place.here ∷ z.place.behind)) i) z.ends);
          }

      sober : (o : Out A) → p ts ≡ o → bind o f ≡ Err Memory → ⊥
      sober (Err s) q e = l.sober (q ∙ ap Err (let w : s ≡ Memory = cc in w))
      sober (Ok y) q e = (m y.0 y.1 q).sober e

      wants : (o : Out A) → p ts ≡ o → (k : ScriptKind) → bind o f ≡ Err (Fault None k)
          → Ends c both ts × (k ≡ Syntax)
      wants (Err s) q k e =
          let w : s ≡ Fault None k = cc in
          let x = l.wants k (q ∙ ap Err w) in
          (composed ts x.0 (begin ts), x.1)
      wants (Ok y) q k e =
          let x = l.reads y.0 y.1 q in
          let z = (m y.0 y.1 q).wants k e in (
            inr
                (subst (Completes c both) (sym x.split)
                (ended x.read y.1 y.1 y.0 x.always (start y.0 (gives y.0 y.1 q))
                (λ t ks i. ap next i) z.0)),
            z.1,
          )

      reads : (o : Out A) → p ts ≡ o → (z : B) (us : List Token) → bind o f ≡ Ok (z, us)
          → Reads c both ts z us
      reads (Err s) q z us e = cc
      reads (Ok y) q b1 us e =
          let x = l.reads y.0 y.1 q in
          let z = (m y.0 y.1 q).reads b1 us e in
          record {
            read = x.read ++ z.read;
            split = x.split ∙ ap (λ v. x.read ++ v) z.split ∙ sym (append_assoc x.read z.read us);
            always =
                λ others i. onward x.read z.read others y.0 _
                (x.always (z.read ++ others)
                (suits z.read y.1 us others z.split (follow y.0 (gives y.0 y.1 q) y.1 b1 us e) i))
                (z.always others i);
          }

-- a parser of its own class in front, and then one that suits it
pub then_ : {A B : Type 0} (a b c : Class) (p : List Token → Out A) (f : A → List Token → Out B)
    → IsComplete a b p → ((x : A) → Gives p x → IsComplete b c (f x))
    → IsComplete a c (λ ts. bind (p ts) f)
then_ {A} {B} a b c p f h g = record {
  open_ =
      λ ts. binds_at b c p f ts (h.open_ ts)
      (λ x us q. (g x (record { source = ts; left = us; is = q })).open_ us) (λ x i. (g x i).starts)
      (λ x i. (g x i).follows);
  starts = record {
    others = h.starts.others ++ second.others;
    got = second.got;
    always = λ rest i. ap (λ z. bind (p z) f) (append_assoc h.starts.others second.others rest)
        ∙ ap (λ o. bind o f) (h.starts.always (second.others ++ rest) (second.leads rest i))
        ∙ second.always rest i;
    leads = λ rest i. subst (Behind a) (sym (append_assoc h.starts.others second.others rest))
        (h.starts.leads (second.others ++ rest) (second.leads rest i));
  };
  follows = follows;
}
  where
    second : Starts b c (f h.starts.got)
    second =
        (g h.starts.got (record {
          source = h.starts.others ++ [];
          left = [];
          is =
              h.starts.always [] tt;
        })).starts

    follows : Follows a c (λ ts. bind (p ts) f)
    follows ts z us e =
        let x = bound (p ts) f z us e in
        let y = g x.got (record { source = ts; left = x.rest; is = x.part }) in
        let i = no_longer b p ts x.got x.rest (h.open_ ts) x.part in
        let j = no_longer c (f x.got) x.rest z us (y.open_ x.rest) x.after in
        by (h.follows ts x.got x.rest x.part) (y.follows x.rest z us x.after) x.rest i j
      where
        by : (length (bound (p ts) f z us e).rest < length ts) ⊎ Sub b a
            → (length us < length (bound (p ts) f z us e).rest) ⊎ Sub c b → (vs : List Token)
            → length (bound (p ts) f z us e).rest ≤ length ts
            → length us ≤ length (bound (p ts) f z us e).rest
            → (length us < length ts) ⊎ Sub c a
        by (inl k) l vs i j = inl (omega (arith, k, j))
        by (inr k) (inl l) vs i j = inl (omega (arith, l, i))
        by (inr k) (inr l) vs i j = inr (λ rs m. k rs (l rs m))
