-- What a worker has done, turn by turn.
use Rattle.std.proofs.Common.{◌≡◌, ℕ, ◌+◌, ◌-◌, ◌*◌, ◌<◌, ◌≤◌, Bool, true, false, ltb, cond, max, ◌⊎◌, inl, inr, List, [], ◌∷◌, ◌++◌, length, length-append, map, append-nil, append_assoc, refl, sym, ap, ◌∙◌, subst, arith}
use Rattle.std.specs.Prelude.{All}
use Rattle.std.specs.List.{filter}
use Rattle.std.proofs.lemmas.Bool.Decides.{Decides-ltb}
use Rattle.std.proofs.lemmas.List.{map-append}
use Rattle.std.proofs.lemmas.List.Elements.{All-nil, All-cons, All-head, All-tail, All-append, All-push, All-weaker, filter-append}
use Rattle.outside.specs.Cause.{RoseBy}
use Rattle.outside.specs.declared.host.At.{At}
use Rattle.claim_board.specs.Counts.{times_in_list, times_first}
use Rattle.claim_board.specs.Protocol.{PassState, Deed, DrewNumber, SawWord, drawn, limit, task_of}
use Rattle.claim_board.specs.Boards.{AreBefore, Board, Drawn, Drew}
use Rattle.crew.specs.declared.kept.KeptOut.{KeptOut}
use Rattle.outside.specs.Accounts.{Account, Gains}
use Rattle.crew.specs.Hosts.{Grew}
use Rattle.crew.specs.Drills.{Settings}
use Rattle.crew.specs.Outs.{IsOut, RanOn, draw_by}
use Rattle.crew.specs.Work.{Turn, HasDone, IsAsked, Cause, CameFar, TookTurns, Took, Worked, places_passed, all_downs, all_deeds, deeds_of, look_of}
use Rattle.crew.specs.Work.Cause.{Won, Lost, Taken, Drilled, WentDown}
use Rattle.crew.specs.inner.Turns.{TookTurn, TookOne, Turned, WorkedSoFar}
use Rattle.crew.proofs.Accounts.{rises, gains_nothing, gains_on, passed_later, passed_before}
use Rattle.crew.proofs.Lists.{times_left, times_first_left}

-- the places of one turn more
passed_push : (ts : List Turn) (t : Turn)
    → places_passed (ts ++ t ∷ []) ≡ places_passed ts ++ t.passed
passed_push [] t = append-nil t.passed
passed_push (u ∷ ts) t =
    ap (λ (l : List At). u.passed ++ l) (passed_push ts t)
    ∙ sym (append_assoc u.passed (places_passed ts) t.passed)

downs_push : (ts : List Turn) (t : Turn) → all_downs (ts ++ t ∷ []) ≡ all_downs ts ++ t.downs
downs_push [] t = append-nil t.downs
downs_push (u ∷ ts) t =
    ap (λ (l : List At). u.downs ++ l) (downs_push ts t)
    ∙ sym (append_assoc u.downs (all_downs ts) t.downs)

-- the deeds of one turn more
deeds_push : (tasks : ℕ) (ts : List Turn) (t : Turn)
    → all_deeds tasks (ts ++ t ∷ []) ≡ all_deeds tasks ts ++ deeds_of tasks t
deeds_push tasks [] t = append-nil (deeds_of tasks t)
deeds_push tasks (u ∷ ts) t =
    ap (λ (l : List Deed). deeds_of tasks u ++ l) (deeds_push tasks ts t)
    ∙ sym (append_assoc (deeds_of tasks u) (all_deeds tasks ts) (deeds_of tasks t))

-- deeds that were done behind others
done_on : (xs ys : List Deed) (a b c : List (ℕ × Deed)) → HasDone a xs b → HasDone b ys c
    → HasDone a (xs ++ ys) c
done_on [] ys a b c h k = subst (λ (l : List (ℕ × Deed)). HasDone l ys c) h k
done_on (x ∷ xs) ys a b c h k =
    (h.0, h.1, done_on xs ys (a ++ (h.0, x) ∷ []) b c h.2 k)

-- one number more, below the limit or not
filter_in : (most d : ℕ) (xs : List ℕ) → d < most
    → filter (λ x. ltb x most) (xs ++ d ∷ []) ≡ filter (λ x. ltb x most) xs ++ d ∷ []
filter_in most d xs low =
    let test : ℕ → Bool = λ x. ltb x most in
    filter-append test xs (d ∷ [])
    ∙ ap (λ (b : Bool). filter test xs ++ cond b (d ∷ []) []) ((Decides-ltb d most).1 low)

filter_out : (most d : ℕ) (xs : List ℕ) → most ≤ d
    → filter (λ x. ltb x most) (xs ++ d ∷ []) ≡ filter (λ x. ltb x most) xs
filter_out most d xs late =
    let test : ℕ → Bool = λ x. ltb x most in
    filter-append test xs (d ∷ [])
    ∙ (ap (λ (b : Bool). filter test xs ++ cond b (d ∷ []) []) (go (ltb d most) refl)
    ∙ append-nil (filter test xs))
  where
    go : (b : Bool) → ltb d most ≡ b → ltb d most ≡ false
    go true is = let l = (Decides-ltb d most).0 is in absurd (omega arith)
    go false is = is

module _ (tasks : ℕ) (s : Settings) (places : ℕ → ℕ) where
  took_not : (old : PassState) (a : Account) → TookTurns tasks s places old old a a []
  took_not old a = record {
    gained = [];
    draws = sym (append-nil old.draws);
    each = refl;
    seen = sym (append-nil old.seen);
    past = [];
    late = All-nil (λ d. limit tasks s.tries ≤ d);
    deeds = refl;
    gains = gains_nothing a;
    lost = omega arith;
    asked = All-nil (IsAsked tasks s places);
  }

  -- where it has not drawn past the attempts
  only_turns : (old mid : PassState) (a b : Account) (ts : List Turn)
      (w : TookTurns tasks s places old mid a b ts) → w.past ≡ []
      → HasDone old.deeds (all_deeds tasks ts) mid.deeds
  only_turns old mid a b ts w none =
      subst (λ (l : List Deed). HasDone old.deeds l mid.deeds)
      (ap (λ (l : List ℕ). all_deeds tasks ts ++ map DrewNumber l) none
      ∙ append-nil (all_deeds tasks ts)) w.deeds

  -- the deeds of one turn more, with its draw
  turn_done : (old mid next new : PassState) (a b c : Account) (ts : List Turn) (t : Turn)
      (m d : ℕ) (w : TookTurns tasks s places old mid a b ts) → w.past ≡ [] → AreBefore m mid
      → next ≡ drawn (limit tasks s.tries) mid m d → TookTurn tasks s places d next new b c t
      → HasDone old.deeds (all_deeds tasks (ts ++ t ∷ []) ++ []) new.deeds
  turn_done old mid next new a b c ts t m d w none before drew o =
      let drawn_here : next.deeds ≡ mid.deeds ++ (m, DrewNumber t.draw) ∷ [] =
      ap (λ (n : PassState). n.deeds) drew
      ∙ ap (λ (k : ℕ). mid.deeds ++ (m, DrewNumber k) ∷ []) (sym o.draw) in
      let here : HasDone mid.deeds (deeds_of tasks t) new.deeds = (
        m,
        before,
        subst
            (λ (l : List (ℕ × Deed)).
            HasDone l (SawWord (task_of tasks t.draw) t.word ∷ t.commit) new.deeds)
            drawn_here o.deeds,
      ) in
      subst (λ (l : List Deed). HasDone old.deeds l new.deeds)
      (sym (append-nil (all_deeds tasks (ts ++ t ∷ [])) ∙ deeds_push tasks ts t))
      (done_on (all_deeds tasks ts) (deeds_of tasks t) old.deeds mid.deeds new.deeds
      (only_turns old mid a b ts w none) here)

  -- one turn more
  took_more : (old mid next new : PassState) (a b c : Account) (ts : List Turn) (t : Turn)
      (m d : ℕ) (w : TookTurns tasks s places old mid a b ts) → w.past ≡ [] → AreBefore m mid
      → d < limit tasks s.tries → next ≡ drawn (limit tasks s.tries) mid m d
      → TookTurn tasks s places d next new b c t
      → (k : TookTurns tasks s places old new a c (ts ++ t ∷ [])) × (k.past ≡ [])
  took_more old mid next new a b c ts t m d w none before low drew o =
      let most = limit tasks s.tries in
      let look = look_of tasks in
      let draw : Turn → ℕ = λ u. u.draw in
      let up = w.gains.later in
      let on = o.gains.later in (
        record {
          gained = w.gained ++ d ∷ [];
          draws = o.draws.0 ∙ (ap (λ (n : PassState). n.draws) drew
              ∙ (ap (λ (l : List ℕ). l ++ d ∷ []) w.draws
              ∙ append_assoc old.draws w.gained (d ∷ [])));
          each = map-append draw ts (t ∷ [])
              ∙ (ap (λ (l : List ℕ). l ++ t.draw ∷ []) w.each
              ∙ (ap (λ (n : ℕ). filter (λ x. ltb x most) w.gained ++ n ∷ []) o.draw
              ∙ sym (filter_in most d w.gained low)));
          seen = o.seen
              ∙ (ap (λ (n : PassState). n.seen ++ look t ∷ []) drew
              ∙ (ap (λ (l : List (ℕ × ℕ)). l ++ look t ∷ []) w.seen
              ∙ (append_assoc old.seen (map look ts) (look t ∷ [])
              ∙ ap (λ (l : List (ℕ × ℕ)). old.seen ++ l) (sym (map-append look ts (t ∷ []))))));
          past = [];
          late = All-nil (λ x. most ≤ x);
          deeds = turn_done old mid next new a b c ts t m d w none before drew o;
          gains = subst (λ (x : List At × List At). Gains a c x.0 x.1)
              (λ i. (sym (passed_push ts t) i, sym (downs_push ts t) i))
              (gains_on a b c (places_passed ts) t.passed (all_downs ts) t.downs w.gains o.gains);
          lost = subst (λ (n : ℕ). RoseBy n a.losses c.losses)
              (sym (ap length (downs_push ts t) ∙ length-append (all_downs ts) t.downs))
              (rises a.losses b.losses c.losses (length (all_downs ts)) (length t.downs) up on
              w.lost o.lost);
          asked = All-push (IsAsked tasks s places) ts t w.asked o.asked;
        },
        refl,
      )

  -- the draw that names no attempt
  took_last : (old mid : PassState) (a b : Account) (ts : List Turn) (m n : ℕ)
      (w : TookTurns tasks s places old mid a b ts) → w.past ≡ [] → AreBefore m mid
      → limit tasks s.tries ≤ n
      → TookTurns tasks s places old (drawn (limit tasks s.tries) mid m n) a b ts
  took_last old mid a b ts m n w none before late = record {
    gained = w.gained ++ n ∷ [];
    draws = ap (λ (l : List ℕ). l ++ n ∷ []) w.draws ∙ append_assoc old.draws w.gained (n ∷ []);
    each = w.each ∙ sym (filter_out (limit tasks s.tries) n w.gained late);
    seen = w.seen;
    past = n ∷ [];
    late = All-cons (λ d. limit tasks s.tries ≤ d) n [] late
        (All-nil (λ d. limit tasks s.tries ≤ d));
    deeds = done_on (all_deeds tasks ts) (DrewNumber n ∷ []) old.deeds mid.deeds
        (mid.deeds ++ (m, DrewNumber n) ∷ []) (only_turns old mid a b ts w none)
        (m, before, refl);
    gains = w.gains;
    lost = w.lost;
    asked = w.asked;
  }

  -- a cause stays one after later steps of the pass
  cause_later : (p q : PassState) (t : Turn) (w : List ℕ) (l : List (ℕ × ℕ))
      → q.won ≡ p.won ++ w → q.lost ≡ p.lost ++ l
      → Cause tasks s places p t → Cause tasks s places q t
  cause_later p q t w l ew el (Taken full passed downs commit) = Taken full passed downs commit
  cause_later p q t w l ew el (Won made h) =
      Won made (subst (λ (y : List ℕ). 0 < times_in_list t.draw y) (sym ew)
      (times_left t.draw p.won w h))
  cause_later p q t w l ew el (Lost x made h) =
      Lost x made (subst (λ (y : List (ℕ × ℕ)). 0 < times_first t.draw y) (sym el)
      (times_first_left t.draw p.lost l h))
  cause_later p q t w l ew el (Drilled made h commit) = Drilled made h commit
  cause_later p q t w l ew el (WentDown down commit) = WentDown down commit

  same_cause : (p : PassState) (m n : ℕ) (t : Turn) → Cause tasks s places p t
      → Cause tasks s places (drawn (limit tasks s.tries) p m n) t
  same_cause p m n t (Taken full passed downs commit) = Taken full passed downs commit
  same_cause p m n t (Won made h) = Won made h
  same_cause p m n t (Lost x made h) = Lost x made h
  same_cause p m n t (Drilled made h commit) = Drilled made h commit
  same_cause p m n t (WentDown down commit) = WentDown down commit

  -- where each turn came to something
  pub came_all : (p : PassState) (ts : List Turn) → All (Cause tasks s places p) ts
      → CameFar tasks s places p ts
  came_all p ts causes = record {
    done = ts;
    last = [];
    whole = append-nil ts;
    causes = causes;
    early = All-nil (λ t. t.commit ≡ []);
    one = omega arith;
  }

  -- one turn more, which came to something or stopped early
  came_then : (p : PassState) (ts : List Turn) (t : Turn) → All (Cause tasks s places p) ts
      → (Cause tasks s places p t ⊎ (t.commit ≡ [])) → CameFar tasks s places p (ts ++ t ∷ [])
  came_then p ts t causes (inl cause) =
      came_all p (ts ++ t ∷ []) (All-push (Cause tasks s places p) ts t causes cause)
  came_then p ts t causes (inr none) = record {
    done = ts;
    last = t ∷ [];
    whole = refl;
    causes = causes;
    early = All-cons (λ (u : Turn). u.commit ≡ []) t [] none
        (All-nil (λ (u : Turn). u.commit ≡ []));
    one = omega arith;
  }

module _ (tasks : ℕ) (s : Settings) {O : Type 0} (is_value : ℕ → O → Type 0) (places : ℕ → ℕ) where
  abbrev Did : PassState → PassState → Account → Account → List (KeptOut O) → Type 0
  Did = Worked tasks s is_value places

  abbrev IsKeptOn : Account → Account → KeptOut O → Type 0
  IsKeptOn a b k = IsOut is_value tasks s k × RanOn places s a b k

  abbrev pub DidSoFar : PassState → PassState → Account → Account → List (KeptOut O) → Type 0
  DidSoFar = WorkedSoFar tasks s is_value places

  pub worked_not : (old : PassState) (a : Account) → DidSoFar old old a a []
  unfolding took_not
  worked_not old a = record {
    worked = record {
      won = sym (append-nil old.won);
      kept = All-nil (IsKeptOn a a);
      turns = [];
      took = took_not tasks s places old a;
      causes = All-nil (Cause tasks s places old);
    };
    none = refl;
  }

  -- one turn more
  pub worked_more : (old mid next new : PassState) (a b c : Account) (ks more : List (KeptOut O))
      (m d : ℕ) → DidSoFar old mid a b ks → Grew a b → AreBefore m mid
      → d < limit tasks s.tries → next ≡ drawn (limit tasks s.tries) mid m d
      → Turned tasks s is_value places d next new b c more → Grew b c
      → DidSoFar old new a c (ks ++ more)
  worked_more old mid next new a b c ks more m d far before behind low drew t after =
      let w = far.worked in
      let gone = t.took.lost_to in
      let won : new.won ≡ mid.won ++ map (draw_by tasks) more =
      t.won ∙ ap (λ (n : PassState). n.won ++ map (draw_by tasks) more) drew in
      let lost : new.lost ≡ mid.lost ++ gone.0 =
      gone.1 ∙ ap (λ (n : PassState). n.lost ++ gone.0) drew in
      let took = took_more tasks s places old mid next new a b c w.turns t.turn m d w.took far.none
      behind low drew t.took in record {
        worked = record {
          won = won ∙ (ap (λ (l : List ℕ). l ++ map (draw_by tasks) more) w.won
              ∙ (append_assoc old.won (map (draw_by tasks) ks) (map (draw_by tasks) more)
              ∙ ap (λ (l : List ℕ). old.won ++ l) (sym (map-append (draw_by tasks) ks more))));
          kept = All-append (IsKeptOn a c) ks more
              (All-weaker (IsKeptOn a b) (IsKeptOn a c)
              (λ k h. (h.0, passed_later a b c _ h.1 after)) ks w.kept)
              (All-weaker (IsKeptOn b c) (IsKeptOn a c)
              (λ k h. (h.0, passed_before a b c _ before h.1 after)) more t.kept);
          turns = w.turns ++ t.turn ∷ [];
          took = took.0;
          causes = All-push (Cause tasks s places new) w.turns t.turn
              (All-weaker (Cause tasks s places mid) (Cause tasks s places new)
              (λ x h. cause_later tasks s places mid new x (map (draw_by tasks) more) gone.0 won
              lost h)
              w.turns w.causes)
              t.cause;
        };
        none = took.1;
      }

  -- the draw that ends it
  worked_last : (old mid new : PassState) (a b : Account) (ks : List (KeptOut O)) (m n : ℕ)
      → DidSoFar old mid a b ks → AreBefore m mid → limit tasks s.tries ≤ n
      → new ≡ drawn (limit tasks s.tries) mid m n → Did old new a b ks
  worked_last old mid new a b ks m n far before late drew =
      let w = far.worked in
      subst (λ (q : PassState). Did old q a b ks) (sym drew) record {
        won = w.won;
        kept = w.kept;
        turns = w.turns;
        took = took_last tasks s places old mid a b w.turns m n w.took far.none before late;
        causes = All-weaker (Cause tasks s places mid)
            (Cause tasks s places (drawn (limit tasks s.tries) mid m n))
            (same_cause tasks s places mid m n) w.turns w.causes;
      }

  pub worked_end : (old mid new : PassState) (a b : Account) (ks : List (KeptOut O))
      → DidSoFar old mid a b ks → (mid.ended ≡ true → new ≡ mid)
      → (mid.ended ≡ false →
      (m : ℕ) × (n : ℕ) × AreBefore m mid × (limit tasks s.tries ≤ n)
      × (new ≡ drawn (limit tasks s.tries) mid m n))
      → Did old new a b ks
  worked_end old mid new a b ks w stop last = go mid.ended refl
    where
      go : (e : Bool) → mid.ended ≡ e → Did old new a b ks
      go true is = subst (λ (q : PassState). Did old q a b ks) (sym (stop is)) w.worked
      go false is = let l = last is in worked_last old mid new a b ks l.0 l.1 w l.2 l.3 l.4

  -- the same of what the host was asked, however far the last turn came
  took_then : (old mid next new : PassState) (a b c : Account) (ks : List (KeptOut O))
      (m d : ℕ) → DidSoFar old mid a b ks → AreBefore m mid → d < limit tasks s.tries
      → next ≡ drawn (limit tasks s.tries) mid m d
      → TookOne tasks s places d next new b c → Took tasks s places old new a c
  took_then old mid next new a b c ks m d far behind low drew one =
      let w = far.worked in
      let won : new.won ≡ mid.won ++ one.1.won.0 =
      one.1.won.1 ∙ ap (λ (n : PassState). n.won ++ one.1.won.0) drew in
      let lost : new.lost ≡ mid.lost ++ one.1.lost_to.0 =
      one.1.lost_to.1 ∙ ap (λ (n : PassState). n.lost ++ one.1.lost_to.0) drew in
      let took = took_more tasks s places old mid next new a b c w.turns one.0 m d w.took far.none
      behind low drew one.1 in (
        w.turns ++ one.0 ∷ [],
        took.0,
        came_then tasks s places new w.turns one.0
            (All-weaker (Cause tasks s places mid) (Cause tasks s places new)
            (λ x h. cause_later tasks s places mid new x one.1.won.0 one.1.lost_to.0 won lost h)
            w.turns w.causes)
            one.2,
      )

  pub took_drawn : (board : Board) (old mid next new : PassState) (a b c : Account)
      (ks : List (KeptOut O)) (draw : Drawn) → board.tasks ≡ tasks → board.tries ≡ s.tries
      → Drew board mid next draw → DidSoFar old mid a b ks
      → TookOne tasks s places draw.number next new b c → Took tasks s places old new a c
  took_drawn board old mid next new a b c ks draw count tries drew far one =
      let same : limit board.tasks board.tries ≡ limit tasks s.tries
      = λ i. count i * tries i in
      took_then old mid next new a b c ks drew.place draw.number far drew.later
      (subst (λ (n : ℕ). draw.number < n) same drew.claimable.claimable.1)
      (drew.gained ∙ ap (λ (n : ℕ). drawn n mid drew.place draw.number) same) one

-- one more than the greatest number
abbrev pub high : List ℕ → ℕ
high [] = 0
high (x ∷ xs) = max (x + 1) (high xs)

high_le : (n : ℕ) (xs : List ℕ) → All (λ x. x < n) xs → high xs ≤ n
high_le n [] h = omega arith
high_le n (x ∷ xs) h =
    let a = All-head (λ y. y < n) x xs h in
    let r = high_le n xs (All-tail (λ y. y < n) x xs h) in omega arith

high_push : (n : ℕ) (xs : List ℕ) → n + 1 ≤ high (xs ++ n ∷ [])
high_push n [] = omega arith
high_push n (x ∷ xs) = let r = high_push n xs in omega arith

-- the numbers that a pass draws rise
pub falls : (most n : ℕ) (xs ys : List ℕ) → All (λ x. x < n) xs → n < most → ys ≡ xs ++ n ∷ []
    → most - high ys < most - high xs
falls most n xs ys below small is =
    let a : high xs ≤ n = high_le n xs below in
    let b : n + 1 ≤ high ys =
    subst (λ (l : List ℕ). n + 1 ≤ high l) (sym is) (high_push n xs) in omega arith
