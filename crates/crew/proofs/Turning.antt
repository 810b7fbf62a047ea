-- What comes of one turn, by the way it ends.
use Rattle.std.proofs.Common.{◌≡◌, ◌≢◌, ℕ, ◌+◌, ◌-◌, ◌*◌, ◌/◌, ◌%◌, ◌<◌, ◌≤◌, true, false, List, [], ◌∷◌, ◌++◌, append-nil, length, inl, inr, refl, sym, ap, ◌∙◌, subst, arith, mul_comm, div-add-mod'}
use Rattle.std.specs.Prelude.{All}
use Rattle.std.proofs.lemmas.List.Elements.{All-nil, All-cons}
use Rattle.std.proofs.Math.Nat.{div-lt_iff_lt-mul}
use Rattle.claim_board.specs.Protocol.{PassState, Deed, SawWord, WonTask, LostTask, looked, winning, losing}
use Rattle.claim_board.specs.Boards.{AreBefore, Board, Drawn, IsOpenDraw}
use Rattle.claim_board.specs.Told.{draw_of}
use Rattle.crew.specs.declared.kept.KeptOut.{KeptOut}
use Rattle.crew.specs.declared.drill.Entry.{Entry}
use Rattle.outside.specs.Accounts.{Account, Gains}
use Rattle.outside.specs.Cause.{RoseBy}
use Rattle.outside.specs.declared.host.At.{At}
use Rattle.crew.specs.Hosts.{at_place, places_below}
use Rattle.crew.specs.Drills.{Settings, attempt_in, is_drilled}
use Rattle.crew.specs.Attempts.{Ran, StoppedDown, StoppedEarly}
use Rattle.crew.specs.Outs.{IsOut, RanOn}
use Rattle.crew.specs.Work.{Turn, HasDone, IsAsked, IsCommitted, WasMade, drawn_attempt}
use Rattle.crew.specs.Work.Cause.{Won, Lost, Taken, Drilled, WentDown}
use Rattle.crew.specs.inner.Turns.{TookTurn, TookOne, Turned}
use Rattle.crew.proofs.Accounts.{gains_nothing}
use Rattle.crew.proofs.Lists.{times_one, times_right, times_first_one, times_first_right}

-- what a draw of a board names, where the board is for so many tasks and tries
pub record Names (tasks tries d task attempt : ℕ) : Type 0 where
  pub some_task : 0 < tasks
  pub low : d < tasks * tries
  pub at : task ≡ d % tasks
  pub by : attempt ≡ d / tasks + 1

pub names_of : (b : Board) (p : PassState) (d : Drawn) (tasks tries task attempt : ℕ)
    → b.tasks ≡ tasks → b.tries ≡ tries → 0 < b.tasks → IsOpenDraw b p d
    → task ≡ d.task → attempt ≡ d.attempt → Names tasks tries d.number task attempt
names_of b p d tasks tries task attempt same_tasks same_tries some_task h at by = record {
  some_task = subst (λ (n : ℕ). 0 < n) same_tasks some_task;
  low = subst (λ (n : ℕ × ℕ). d.number < n.0 * n.1) (λ i. (same_tasks i, same_tries i))
      h.claimable.1;
  at = at ∙ (h.task ∙ ap (λ (n : ℕ). d.number % n) same_tasks);
  by = by ∙ (h.attempt ∙ ap (λ (n : ℕ). d.number / n + 1) same_tasks);
}

-- the draw that an attempt of a task names
pub named_draw : (tasks d task attempt : ℕ) → task ≡ d % tasks → attempt ≡ d / tasks + 1
    → draw_of tasks task attempt ≡ d
named_draw tasks d task attempt at by =
    let low : attempt - 1 ≡ d / tasks = omega arith in
    ap (λ (x : ℕ). (attempt - 1) * tasks + x) at
    ∙ (ap (λ (x : ℕ). x * tasks + d % tasks) low ∙ div-add-mod' d tasks)

-- ---- what a pass does behind its draw

module _ (tasks m d task x : ℕ) (old : PassState) (at : task ≡ d % tasks)
    (before : AreBefore m old) where
  abbrev saw : ℕ → List (ℕ × Deed)
  saw t = old.deeds ++ (m, SawWord t x) ∷ []

  done_looked : HasDone old.deeds (SawWord (d % tasks) x ∷ []) (looked old m task x).deeds
  done_looked = (m, before, ap (λ (t : ℕ). saw t) at)

  -- it committed
  done_commit : (l : ℕ) (came : Deed) → AreBefore l (looked old m task x)
      → HasDone old.deeds (SawWord (d % tasks) x ∷ (came ∷ [])) (saw task ++ (l, came) ∷ [])
  done_commit l came behind = (
    m,
    before,
    (
      l,
      subst (λ (t : ℕ). All (λ (y : ℕ × Deed). y.0 < l) (saw t)) at behind,
      ap (λ (t : ℕ). saw t ++ (l, came) ∷ []) at,
    ),
  )

module _ (tasks : ℕ) (s : Settings) (places : ℕ → ℕ) where
  -- the attempt that a draw names
  same_attempt : (d task attempt : ℕ) → Names tasks s.tries d task attempt
      → attempt_in s task attempt ≡ drawn_attempt tasks s d
  same_attempt d task attempt n =
      λ i. record { stage = s.stage; phase = s.phase; task = n.at i; attempt = n.by i }

  -- the turn of an attempt that was made, whatever its commit came to
  abbrev made_turn : ℕ → List Deed → Turn
  made_turn d commit = record {
    draw = d;
    word = 0;
    passed = places_below (drawn_attempt tasks s d) (places (d % tasks) + 1);
    downs = [];
    commit = commit;
  }

  made : (d : ℕ) (commit : List Deed) → WasMade tasks s places (made_turn d commit)
  made d commit = record { free = refl; passed = refl; downs = refl }

  -- the drill does not name it
  committed : (d task attempt : ℕ) (came : Deed) → Names tasks s.tries d task attempt
      → is_drilled s.drill (attempt_in s task attempt) ≡ false
      → IsCommitted tasks s places (made_turn d (came ∷ [])) came
  committed d task attempt came n undrilled = record {
    made = made d (came ∷ []);
    drill = subst (λ (e : Entry). is_drilled s.drill e ≡ false)
        (same_attempt d task attempt n) undrilled;
    commit = refl;
  }

  took_made : (d task attempt : ℕ) (old new : PassState) (a b : Account) (commit : List Deed)
      → Names tasks s.tries d task attempt → (new.draws ≡ old.draws) × (new.ended ≡ old.ended)
      → new.seen ≡ old.seen ++ (task, 0) ∷ []
      → HasDone old.deeds (SawWord (d % tasks) 0 ∷ commit) new.deeds
      → ((more : List ℕ) × (new.won ≡ old.won ++ more))
      → ((more : List (ℕ × ℕ)) × (new.lost ≡ old.lost ++ more))
      → Ran (attempt_in s task attempt) (places task) a b
      → TookTurn tasks s places d old new a b (made_turn d commit)
  took_made d task attempt old new a b commit n draws seen deeds won lost ran = record {
    draw = refl;
    draws = draws;
    seen = seen ∙ ap (λ (t : ℕ). old.seen ++ (t, 0) ∷ []) n.at;
    deeds = deeds;
    won = won;
    lost_to = lost;
    gains = subst (λ (x : Entry × ℕ). Gains a b (places_below x.0 (places x.1 + 1)) [])
        (λ i. (same_attempt d task attempt n i, n.at i)) ran;
    lost = let up = ran.later in omega arith;
    asked = record {
      through = places (d % tasks) + 1;
      passed = refl;
      downs = inl refl;
      within = omega arith;
      taken = λ full. absurd (full refl);
    };
  }

  -- the turn that ended behind its look, with what its host was asked
  abbrev looked_turn : ℕ → ℕ → List At → List At → Turn
  looked_turn d x passed downs =
      record { draw = d; word = x; passed = passed; downs = downs; commit = [] }

  took_looked : (m d task attempt x : ℕ) (old : PassState) (a b : Account) (passed downs : List At)
      → Names tasks s.tries d task attempt → AreBefore m old → Gains a b passed downs
      → RoseBy (length downs) a.losses b.losses
      → IsAsked tasks s places (looked_turn d x passed downs)
      → TookTurn tasks s places d old (looked old m task x) a b (looked_turn d x passed downs)
  took_looked m d task attempt x old a b passed downs n before gains lost asked = record {
    draw = refl;
    draws = (refl, refl);
    seen = ap (λ (t : ℕ). old.seen ++ (t, x) ∷ []) n.at;
    deeds = done_looked tasks m d task x old n.at before;
    won = ([], sym (append-nil old.won));
    lost_to = ([], sym (append-nil old.lost));
    gains = gains;
    lost = lost;
    asked = asked;
  }

  -- want of memory ended the attempt
  pub took_early : (m d task attempt : ℕ) (old : PassState) (a b : Account)
      → Names tasks s.tries d task attempt → AreBefore m old
      → StoppedEarly (attempt_in s task attempt) (places task) a b
      → TookOne tasks s places d old (looked old m task 0) a b
  took_early m d task attempt old a b n before h =
      let passed = places_below (drawn_attempt tasks s d) h.place in
      let within = subst (λ (t : ℕ). h.place ≤ places t + 1) n.at h.within in (
        looked_turn d 0 passed [],
        took_looked m d task attempt 0 old a b passed [] n before
            (subst (λ (x : Entry). Gains a b (places_below x h.place) [])
            (same_attempt d task attempt n) h.gains)
            (let up = h.gains.later in omega arith) (record {
              through = h.place;
              passed = refl;
              downs = inl refl;
              within = omega arith;
              taken = λ full. absurd (full refl);
            }),
        inr refl,
      )

module _ (tasks : ℕ) (s : Settings) {O : Type 0} (is_value : ℕ → O → Type 0) (places : ℕ → ℕ) where
  no_outs : (a b : Account)
      → All (λ (k : KeptOut O). IsOut is_value tasks s k × RanOn places s a b k) []
  no_outs a b = All-nil (λ (k : KeptOut O). IsOut is_value tasks s k × RanOn places s a b k)

  -- it found a winner
  pub turned_seen : (m d task attempt x : ℕ) (old : PassState) (a : Account)
      → Names tasks s.tries d task attempt → AreBefore m old → x ≢ 0
      → Turned tasks s is_value places d old (looked old m task x) a a []
  turned_seen m d task attempt x old a n before full = record {
    turn = looked_turn tasks s places d x [] [];
    took = took_looked tasks s places m d task attempt x old a a [] [] n before (gains_nothing a)
        (omega arith) (record {
          through = 0;
          passed = refl;
          downs = inl refl;
          within = omega arith;
          taken = λ _. (refl, refl);
        });
    cause = Taken full refl refl refl;
    won = sym (append-nil old.won);
    kept = no_outs a a;
  }

  -- its host was down
  pub turned_down : (m d task attempt : ℕ) (old : PassState) (a b : Account)
      → Names tasks s.tries d task attempt → AreBefore m old
      → StoppedDown (attempt_in s task attempt) (places task) a b
      → Turned tasks s is_value places d old (looked old m task 0) a b []
  turned_down m d task attempt old a b n before h =
      let e = drawn_attempt tasks s d in
      let within = subst (λ (t : ℕ). h.place ≤ places t) n.at h.within in
      let passed = places_below e h.place in
      let here = at_place e h.place ∷ [] in record {
        turn = looked_turn tasks s places d 0 passed here;
        took = took_looked tasks s places m d task attempt 0 old a b passed here n before
            (subst (λ (x : Entry). Gains a b (places_below x h.place) (at_place x h.place ∷ []))
            (same_attempt tasks s places d task attempt n) h.gains) h.lost (record {
              through = h.place;
              passed = refl;
              downs = inr refl;
              within = omega arith;
              taken = λ full. absurd (full refl);
            });
        cause = WentDown record {
          free = refl;
          place = h.place;
          within = within;
          passed = refl;
          downs = refl;
        } refl;
        won = sym (append-nil old.won);
        kept = no_outs a b;
      }

  -- the drill names it
  pub turned_drilled : (m d task attempt : ℕ) (old : PassState) (a b : Account)
      → Names tasks s.tries d task attempt → AreBefore m old
      → Ran (attempt_in s task attempt) (places task) a b
      → is_drilled s.drill (attempt_in s task attempt) ≡ true
      → Turned tasks s is_value places d old (looked old m task 0) a b []
  turned_drilled m d task attempt old a b n before ran drilled = record {
    turn = made_turn tasks s places d [];
    took = took_made tasks s places d task attempt old (looked old m task 0) a b [] n (refl, refl)
        refl (done_looked tasks m d task 0 old n.at before) ([], sym (append-nil old.won))
        ([], sym (append-nil old.lost)) ran;
    cause = Drilled (made tasks s places d [])
        (subst (λ (x : Entry). is_drilled s.drill x ≡ true)
        (same_attempt tasks s places d task attempt n) drilled) refl;
    won = sym (append-nil old.won);
    kept = no_outs a b;
  }

  -- it won
  pub turned_won : (m l d task attempt : ℕ) (out : O) (old : PassState) (a b : Account)
      → Names tasks s.tries d task attempt → AreBefore m old → AreBefore l (looked old m task 0)
      → Ran (attempt_in s task attempt) (places task) a b
      → is_drilled s.drill (attempt_in s task attempt) ≡ false → is_value task out
      → Turned tasks s is_value places d old (winning (looked old m task 0) l d) a b
      (record { task = task; attempt = attempt; out = out } ∷ [])
  turned_won m l d task attempt out old a b n before behind ran undrilled value =
      let k : KeptOut O = record { task = task; attempt = attempt; out = out } in
      let low = n.low in
      let some_task = n.some_task in
      let round : d / tasks < s.tries =
      (div-lt_iff_lt-mul n.some_task).1
      (subst (λ (x : ℕ). d < x) (mul_comm tasks s.tries) low) in
      let at = n.at in let by = n.by in
      let through : RanOn places s a b k =
      λ t. (
        [],
        [],
        (ran.told t).1
            ∙ ap (λ (l : List _). a.passed ++ l) (sym (append-nil _)),
      ) in record {
        turn = made_turn tasks s places d (WonTask d ∷ []);
        took = took_made tasks s places d task attempt old (winning (looked old m task 0) l d) a b
            (WonTask d ∷ []) n (refl, refl) refl
            (done_commit tasks m d task 0 old n.at before l (WonTask d) behind) (d ∷ [], refl)
            ([], sym (append-nil old.lost)) ran;
        cause = Won (committed tasks s places d task attempt (WonTask d) n undrilled)
            (times_right d old.won (d ∷ []) (times_one d));
        won = ap (λ (x : ℕ). old.won ++ x ∷ []) (sym (named_draw tasks d task attempt n.at n.by));
        kept = All-cons (λ (j : KeptOut O). IsOut is_value tasks s j × RanOn places s a b j) k [] (
          record {
            task = omega arith;
            attempt = (omega arith, omega arith);
            value = value;
            drill = undrilled;
          },
          through,
        ) (no_outs a b);
      }

  -- it lost
  pub turned_lost : (m l d task attempt x : ℕ) (old : PassState) (a b : Account)
      → Names tasks s.tries d task attempt → AreBefore m old → AreBefore l (looked old m task 0)
      → Ran (attempt_in s task attempt) (places task) a b
      → is_drilled s.drill (attempt_in s task attempt) ≡ false
      → Turned tasks s is_value places d old (losing (looked old m task 0) l d x) a b []
  turned_lost m l d task attempt x old a b n before behind ran undrilled = record {
    turn = made_turn tasks s places d (LostTask d x ∷ []);
    took = took_made tasks s places d task attempt old (losing (looked old m task 0) l d x) a b
        (LostTask d x ∷ []) n (refl, refl) refl
        (done_commit tasks m d task 0 old n.at before l (LostTask d x) behind)
        ([], sym (append-nil old.won)) ((d, x) ∷ [], refl) ran;
    cause = Lost x (committed tasks s places d task attempt (LostTask d x) n undrilled)
        (times_first_right d old.lost ((d, x) ∷ []) (times_first_one d x));
    won = sym (append-nil old.won);
    kept = no_outs a b;
  }
