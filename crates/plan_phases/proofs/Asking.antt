-- Hosts that are asked for phases, one behind the other.
use Rattle.std.proofs.Common.{◌≡◌, ℕ, inl, List, [], ◌∷◌, ◌++◌, append-nil, append_assoc, refl, sym, ap, ◌∙◌, subst}
use Rattle.crew.specs.declared.drill.Entry.{Entry}
use Rattle.outside.specs.Accounts.{Account}
use Rattle.plan_phases.specs.Phases.{PhaseTasks}
use Rattle.plan_phases.specs.Told.{AreAsked, AskedAtMost, AskedFront, AskedInTurn}

module _ (tries : ℕ) (drill : List Entry) where
  -- ---- in turn

  pub asked_one : (ph : PhaseTasks) (won : List ℕ) (us vs : List Account)
      → AreAsked tries drill ph won us vs
      → AskedInTurn tries drill (ph ∷ []) (won ∷ []) us vs
  asked_one ph won us vs h = (vs, h, refl)

  -- first for these, and then for those
  pub asked_then : (ps qs : List PhaseTasks) (xs ys : List (List ℕ)) (us vs ws : List Account)
      → AskedInTurn tries drill ps xs us vs → AskedInTurn tries drill qs ys vs ws
      → AskedInTurn tries drill (ps ++ qs) (xs ++ ys) us ws
  asked_then [] qs [] ys us vs ws h k =
      subst (λ (l : List Account). AskedInTurn tries drill qs ys l ws) (sym h) k
  asked_then [] qs (x ∷ xs) ys us vs ws h k = absurd h
  asked_then (p ∷ ps) qs [] ys us vs ws h k = absurd h
  asked_then (p ∷ ps) qs (x ∷ xs) ys us vs ws h k =
      (h.0, h.1, asked_then ps qs xs ys h.0 vs ws h.2 k)

  -- ---- a front

  -- for nothing
  at_most_none : (ps : List PhaseTasks) (us : List Account) → AskedAtMost tries drill ps us us
  at_most_none [] us = refl
  at_most_none (p ∷ ps) us = inl refl

  at_most_before : (ps qs : List PhaseTasks) (us vs : List Account)
      → AskedAtMost tries drill ps us vs → AskedAtMost tries drill (ps ++ qs) us vs
  at_most_before [] [] us vs h = h
  at_most_before [] (q ∷ qs) us vs h = inl h
  at_most_before (p ∷ ps) qs us vs h = h

  pub asked_none : (ps : List PhaseTasks) (us : List Account) → AskedFront tries drill ps us us
  asked_none ps us = record {
    before = [];
    behind = ps;
    whole = refl;
    wins = [];
    mids = us;
    asked = refl;
    last = at_most_none ps us;
  }

  -- of one phase at most
  pub asked_last : (ph : PhaseTasks) (us vs : List Account)
      → AskedAtMost tries drill (ph ∷ []) us vs → AskedFront tries drill (ph ∷ []) us vs
  asked_last ph us vs h = record {
    before = [];
    behind = ph ∷ [];
    whole = refl;
    wins = [];
    mids = us;
    asked = refl;
    last = h;
  }

  pub asked_all : (ps : List PhaseTasks) (xs : List (List ℕ)) (us vs : List Account)
      → AskedInTurn tries drill ps xs us vs → AskedFront tries drill ps us vs
  asked_all ps xs us vs h = record {
    before = ps;
    behind = [];
    whole = append-nil ps;
    wins = xs;
    mids = vs;
    asked = h;
    last = refl;
  }

  -- where others come after
  pub front_before : (ps qs : List PhaseTasks) (us vs : List Account)
      → AskedFront tries drill ps us vs → AskedFront tries drill (ps ++ qs) us vs
  front_before ps qs us vs h = record {
    before = h.before;
    behind = h.behind ++ qs;
    whole = sym (append_assoc h.before h.behind qs) ∙ ap (λ l. l ++ qs) h.whole;
    wins = h.wins;
    mids = h.mids;
    asked = h.asked;
    last = at_most_before h.behind qs h.mids vs h.last;
  }

  -- where others were asked for before
  pub front_behind : (ps qs : List PhaseTasks) (xs : List (List ℕ)) (us vs ws : List Account)
      → AskedInTurn tries drill ps xs us vs → AskedFront tries drill qs vs ws
      → AskedFront tries drill (ps ++ qs) us ws
  front_behind ps qs xs us vs ws asked h = record {
    before = ps ++ h.before;
    behind = h.behind;
    whole = append_assoc ps h.before h.behind ∙ ap (λ l. ps ++ l) h.whole;
    wins = xs ++ h.wins;
    mids = h.mids;
    asked = asked_then ps h.before xs h.wins us vs h.mids asked h.asked;
    last = h.last;
  }

  -- the phases up to one of them
  pub front_to : (before behind ps : List PhaseTasks) (here : PhaseTasks) (xs : List (List ℕ))
      (us vs : List Account) → before ++ here ∷ behind ≡ ps
      → AskedInTurn tries drill (before ++ here ∷ []) xs us vs → AskedFront tries drill ps us vs
  front_to before behind ps here xs us vs whole h = record {
    before = before ++ here ∷ [];
    behind = behind;
    whole = append_assoc before (here ∷ []) behind ∙ whole;
    wins = xs;
    mids = vs;
    asked = h;
    last = at_most_none behind vs;
  }
