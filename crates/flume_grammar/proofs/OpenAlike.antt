-- A parser that answers as an open one, step by step, is open.
use Rattle.std.proofs.Common.{◌≡◌, ℕ, ◌<◌, length, List, [], ◌∷◌, ◌++◌, inl, inr, Some, None, Ok, Err, refl, sym, ap, ◌∙◌, arith}
use Rattle.flume_tokens.specs.declared.token.Token.{Token}
use Rattle.flume_grammar.specs.declared.fault.ScriptKind.{ScriptKind}
use Rattle.flume_grammar.specs.declared.fault.ScriptKind.TheVariants.{Syntax}
use Rattle.flume_grammar.specs.declared.fault.Stop.TheVariants.{Fault}
use Rattle.flume_grammar.specs.inner.Out.{Out, next}
use Rattle.flume_grammar.proofs.Open.{Class, Ends, up_to, next_up_to, Stops, stops_as, Reads, IsOpenAt}

-- ---- the next token

-- ---- one parser as another

pub agree : {A : Type 0} (c : Class) (p q : List Token → Out A) (ts : List Token)
    → ((us : List Token) → next us ≡ next ts → p us ≡ q us)
    → ((a : A) (us : List Token) → q ts ≡ Ok (a, us) → length us < length ts) → IsOpenAt c q ts
    → IsOpenAt c p ts
agree {A} c p q ts h takes l = record {
  stops = stops;
  wants = wants;
  sober =
      λ e. l.sober (sym (h ts refl) ∙ e);
  reads = reads;
}
  where
    same : (k vs us : List Token) → ts ≡ k ++ vs → (k ≡ [] → ⊥) → next (k ++ us) ≡ next ts
    same [] vs us e n = absurd (n refl)
    same (t ∷ ks) vs us e n = ap next (sym e)

    ends : (k vs : List Token) → ts ≡ k ++ vs → Ends c q k → Ends c p k
    ends [] vs e (inl i) = inl i
    ends (t ∷ ks) vs e (inl i) = inl i
    ends [] vs e (inr m) = inl refl
    ends (t ∷ ks) vs e (inr m) =
        inr (record {
          others = m.others;
          got = m.got;
          always =
              λ rest i. h (t ∷ ks ++ (m.others ++ rest))
              (same (t ∷ ks) vs (m.others ++ rest) e (λ z. cc)) ∙ m.always rest i;
        })

    stops : (n : ℕ) (k : ScriptKind) → p ts ≡ Err (Fault (Some n) k) → Stops c p ts n k
    stops n k e =
        let s = l.stops n k (sym (h ts refl) ∙ e) in
        stops_as s
        (λ others. h (up_to s.place others) (next_up_to s.place others) ∙ s.always others)
        (ends s.place.before (s.place.here ∷ s.place.behind) s.place.split s.ends)

    wants : (k : ScriptKind) → p ts ≡ Err (Fault None k) → Ends c p ts × (k ≡ Syntax)
    wants k e = let w = l.wants k (sym (h ts refl) ∙ e) in (ends ts [] (sym (nil ts)) w.0, w.1)
      where
        nil : (us : List Token) → us ++ [] ≡ us
        nil [] = refl
        nil (u ∷ us) = ap (λ x. u ∷ x) (nil us)

    reads : (a : A) (us : List Token) → p ts ≡ Ok (a, us) → Reads c p ts a us
    reads a us e =
        let o = sym (h ts refl) ∙ e in
        let r = l.reads a us o in
        let w = takes a us o in
        let some : r.read ≡ [] → ⊥ = λ z. let j = ap length (r.split ∙ ap (λ x. x ++ us) z) in
        omega (arith, w, j) in
        record {
          read = r.read;
          split = r.split;
          always = λ others i. h (r.read ++ others) (same r.read us others r.split some)
              ∙ r.always others i;
        }
