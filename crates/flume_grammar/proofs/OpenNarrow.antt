-- A parser that is open before some tokens is so before fewer of them.
use Rattle.std.proofs.Common.{◌≡◌, ℕ, ◌<◌, length, List, ◌++◌, ◌⊎◌, inl, inr, Ok}
use Rattle.flume_tokens.specs.declared.token.Token.{Token}
use Rattle.flume_grammar.specs.declared.fault.ScriptKind.{ScriptKind}
use Rattle.flume_grammar.specs.inner.Out.{Out}
use Rattle.flume_grammar.proofs.Open.{Class, Behind, Sub, Starts, Ends, Stops, stops_as, Reads, IsOpenAt, IsComplete}

or_else : {A B C : Type 0} → (B → C) → A ⊎ B → A ⊎ C
or_else f (inl a) = inl a
or_else f (inr b) = inr (f b)

-- what is read from nothing is of another class
led : {A : Type 0} (b d c : Class) (p : List Token → Out A) (x : Starts b c p)
    → ((rest : List Token) → Behind c rest → Behind d (x.others ++ rest)) → Starts d c p
led b d c p x leads =
    record { others = x.others; got = x.got; always = x.always; leads = leads }

-- what may stand before it may be more
pub wider : {A : Type 0} (b d c : Class) (p : List Token → Out A) → Sub b d → IsComplete b c p
    → IsComplete d c p
wider b d c p s x = record {
  open_ = x.open_;
  starts = led b d c p x.starts
      (λ rest i. s (x.starts.others ++ rest) (x.starts.leads rest i));
  follows = λ ts a us e. or_else (λ (i : Sub c b). λ rs m. s rs (i rs m)) (x.follows ts a us e);
}

-- what takes a token may stand behind any that its first one suits
pub fronted : {A : Type 0} (b d c : Class) (p : List Token → Out A)
    → ((ts : List Token) (a : A) (us : List Token) → p ts ≡ Ok (a, us)
    → (length us < length ts) × Behind b ts) → IsComplete d c p → IsComplete b c p
fronted b d c p h x = record {
  open_ = x.open_;
  starts = led d b c p x.starts
      (λ rest i. (h (x.starts.others ++ rest) x.starts.got rest (x.starts.always rest i)).1);
  follows = λ ts a us e. inl (h ts a us e).0;
}

-- less may stand behind
pub narrower : {A : Type 0} (c d : Class) (p : List Token → Out A) (ts : List Token) → Sub c d
    → IsOpenAt d p ts → IsOpenAt c p ts
narrower {A} c d p ts s l = record {
  stops = λ n k e. stops n k (l.stops n k e);
  wants =
      λ k e. let w = l.wants k e in
      (ends ts w.0, w.1);
  sober = l.sober;
  reads = λ a us e. reads a us (l.reads a us e);
}
  where
    ends : (k : List Token) → Ends d p k → Ends c p k
    ends k (inl i) = inl i
    ends k (inr m) =
        inr (record { others = m.others; got = m.got; always = λ rest i. m.always rest (s rest i) })

    stops : (n : ℕ) (k : ScriptKind) → Stops d p ts n k → Stops c p ts n k
    stops n k x = stops_as x x.always (ends x.place.before x.ends)

    reads : (a : A) (us : List Token) → Reads d p ts a us → Reads c p ts a us
    reads a us x = record {
      read = x.read;
      split = x.split;
      always =
          λ others i. x.always others (or_else (s others) i);
    }

pub closer : {A : Type 0} (b c d : Class) (p : List Token → Out A) → Sub c d → IsComplete b d p
    → IsComplete b c p
closer b c d p s x = record {
  open_ = λ ts. narrower c d p ts s (x.open_ ts);
  starts = record {
    others = x.starts.others;
    got = x.starts.got;
    always =
        λ rest i. x.starts.always rest (s rest i);
    leads = λ rest i. x.starts.leads rest (s rest i);
  };
  follows = λ ts a us e. or_else (λ (i : Sub d b). λ rs m. i rs (s rs m)) (x.follows ts a us e);
}
