-- The hosts of a phase are asked for each place at most once.
use Rattle.std.proofs.Common.{◌≡◌, ◌≢◌, ℕ, zero, suc, ◌+◌, ◌/◌, ◌%◌, ◌<◌, ◌≤◌, Bool, true, false, eqb, ltb, leb, ◌&&◌, cond, ⊎_elim, List, [], ◌∷◌, ◌++◌, length, map, refl, sym, ap, ◌∙◌, subst, arith, mul_comm}
use Rattle.std.specs.Prelude.{All, sum_by}
use Rattle.std.specs.List.{filter}
use Rattle.std.proofs.Math.Nat.{div-lt_iff_lt-mul}
use Rattle.std.proofs.lemmas.Bool.Decides.{eqb_tells, leb_tells, Decides-ltb}
use Rattle.std.proofs.lemmas.List.Elements.{All-nil, All-cons, All-head, All-tail, All-append, All-push, All-same, All-weaker, filter_passes}
use Rattle.std.proofs.lemmas.List.Sums.{sum_by-cons, sum_by-append, sum_by_push}
use native.Mathlib.Decide.{ℕ_discrete}
use mathlib.Core.Logic.{dite}
use Rattle.outside.specs.declared.host.At.{At}
use Rattle.outside.specs.Notes.{Notes, no_notes}
use Rattle.claim_board.specs.Counts.{one_if, times_in_list}
use Rattle.claim_board.specs.Protocol.{PassState, BoardState, pass_begun, limit, IsGood}
use Rattle.claim_board.specs.Told.{draw_of}
use Rattle.crew.specs.declared.drill.Entry.{Entry}
use Rattle.outside.specs.Accounts.{Account}
use Rattle.crew.specs.Hosts.{at_place, places_below}
use Rattle.crew.specs.Drills.{Settings, names, same_phase}
use Rattle.crew.specs.Work.{Turn, Worker, IsAsked, TookTurns, AreWorkers, places_passed, all_downs, drawn_attempt}
use Rattle.crew.specs.Phases.{HaveGained, all_places, attempt_of_place, times_asked, IsPlaceOf, AreAskedOnce}
use Rattle.crew.proofs.Accounts.{gains_nothing}
use Rattle.crew.proofs.Lists.{one_if_eq, all_of_map}
use Rattle.crew.proofs.Counting.{and_false, one_if_low}
use Rattle.crew.proofs.Turning.{named_draw}

-- what hosts gained that were asked for nothing
abbrev nothing : List Account → List Notes
nothing us = map (λ (a : Account). no_notes) us

nowhere : (us : List Account) → all_places (nothing us) ≡ []
nowhere [] = refl
nowhere (a ∷ us) = nowhere us

gained_nothing : (us : List Account) → HaveGained us us (nothing us)
gained_nothing [] = tt
gained_nothing (a ∷ us) = (gains_nothing a, gained_nothing us)

pub asked_not : (tasks : ℕ) (s : Settings) (places : ℕ → ℕ) (us : List Account)
    → AreAskedOnce tasks s places us us
asked_not tasks s places us =
    let P = IsPlaceOf tasks s places in record {
      gained = nothing us;
      gains = gained_nothing us;
      ours = subst (All P) (sym (nowhere us)) (All-nil P);
      once = λ x. subst (λ (l : List At). times_asked x l ≤ 1) (sym (nowhere us)) (omega arith);
    }

-- a test of several parts, one of which fails
third_fails : (u d p : Bool) → one_if ((u && (false && d)) && p) ≡ 0
third_fails true d p = refl
third_fails false d p = refl

fourth_fails : (u c p : Bool) → one_if ((u && (c && false)) && p) ≡ 0
fourth_fails true true p = refl
fourth_fails true false p = refl
fourth_fails false c p = refl

-- how often a number is among those that pass a test
times_filter : (d : ℕ) (test : ℕ → Bool) (xs : List ℕ)
    → times_in_list d (filter test xs) ≤ times_in_list d xs
times_filter d test [] = omega arith
times_filter d test (x ∷ xs) = go (test x) (times_filter d test xs)
  where
    go : (b : Bool) → times_in_list d (filter test xs) ≤ times_in_list d xs
        → times_in_list d (cond b (x ∷ filter test xs) (filter test xs)) ≤ times_in_list d (x ∷ xs)
    go true l =
        omega (
          arith,
          sum_by-cons (λ (y : ℕ). one_if (eqb y d)) x (filter test xs),
          sum_by-cons (λ (y : ℕ). one_if (eqb y d)) x xs,
        )
    go false l = omega (arith, sum_by-cons (λ (y : ℕ). one_if (eqb y d)) x xs)

module _ (x : At) where
  -- it is the place
  abbrev is_it : At → Bool
  is_it y = names (attempt_of_place x) (attempt_of_place y) && eqb x.place y.place

  away : (e : Entry) (place : ℕ) → x.place ≢ place → one_if (is_it (at_place e place)) ≡ 0
  away e place n =
      let u = names (attempt_of_place x) e in
      ⊎_elim (λ (t : (eqb x.place place ≡ true) × (x.place ≡ place)). absurd (n t.1))
      (λ (t : (eqb x.place place ≡ false) × (x.place ≢ place)).
      ap (λ (b : Bool). one_if (u && b)) t.0 ∙ and_false u) (eqb_tells x.place place)

  one_more : (e : Entry) (n : ℕ) → times_asked x (places_below e (suc n))
      ≡ times_asked x (places_below e n) + one_if (is_it (at_place e n))
  one_more e n = sum_by_push (λ (y : At). one_if (is_it y)) (places_below e n) (at_place e n)

  below_none : (e : Entry) (n : ℕ) → n ≤ x.place → times_asked x (places_below e n) ≡ 0
  below_none e zero l = refl
  below_none e (suc n) l =
      let r = below_none e n (omega arith) in
      let z = away e n (λ q. absurd (omega arith)) in omega (arith, one_more e n)

  below_once : (e : Entry) (n : ℕ) → times_asked x (places_below e n) ≤ 1
  below_once e zero = omega arith
  below_once e (suc n) =
      dite (ℕ_discrete x.place n)
      (λ is. let r = below_none e n (omega arith) in
      let l = one_if_low (is_it (at_place e n)) in omega (arith, one_more e n))
      (λ other. let r = below_once e n in
      let z = away e n other in omega (arith, one_more e n))

  module _ (tasks : ℕ) (s : Settings) where
    -- the draw of its attempt
    abbrev its_draw : ℕ
    its_draw = draw_of tasks x.task x.attempt

    other_draw : (d place : ℕ) → d ≢ its_draw
        → one_if (is_it (at_place (drawn_attempt tasks s d) place)) ≡ 0
    other_draw d place n =
        let e = drawn_attempt tasks s d in
        let y = attempt_of_place x in
        let p = eqb x.place place in
        let u = eqb e.stage y.stage && same_phase e.phase y.phase in
        let v = eqb e.attempt y.attempt in
        ⊎_elim
        (λ (t : (eqb (d % tasks) x.task ≡ true) × (d % tasks ≡ x.task)).
        ⊎_elim
        (λ (w : (eqb (d / tasks + 1) x.attempt ≡ true) × (d / tasks + 1 ≡ x.attempt)).
        absurd (n (sym (named_draw tasks d x.task x.attempt (sym t.1) (sym w.1)))))
        (λ (w : (eqb (d / tasks + 1) x.attempt ≡ false) × (d / tasks + 1 ≢ x.attempt)).
        ap (λ (b : Bool). one_if ((u && (eqb (d % tasks) x.task && b)) && p)) w.0
        ∙ fourth_fails u (eqb (d % tasks) x.task) p)
        (eqb_tells (d / tasks + 1) x.attempt))
        (λ (t : (eqb (d % tasks) x.task ≡ false) × (d % tasks ≢ x.task)).
        ap (λ (b : Bool). one_if ((u && (b && v)) && p)) t.0 ∙ third_fails u v p)
        (eqb_tells (d % tasks) x.task)

    other_below : (d n : ℕ) → d ≢ its_draw
        → times_asked x (places_below (drawn_attempt tasks s d) n) ≡ 0
    other_below d zero other = refl
    other_below d (suc n) other =
        let r = other_below d n other in
        let z = other_draw d n other in omega (arith, one_more (drawn_attempt tasks s d) n)

    module _ (places : ℕ → ℕ) where
      abbrev asked_in : Turn → ℕ
      asked_in t = times_asked x t.passed + times_asked x t.downs

      turn_once : (t : Turn) → IsAsked tasks s places t
          → asked_in t ≤ one_if (eqb t.draw its_draw)
      turn_once t h =
          let e = drawn_attempt tasks s t.draw in
          let n = h.through in
          let F : List At → Type 0 =
          λ l. times_asked x (places_below e n) + times_asked x l
          ≤ one_if (eqb t.draw its_draw) in
          subst
          (λ (l : List At). times_asked x l + times_asked x t.downs ≤ one_if (eqb t.draw its_draw))
          (sym h.passed)
          (⊎_elim (λ (is : t.downs ≡ []). subst F (sym is) none)
          (λ (is : t.downs ≡ at_place e n ∷ []). subst F (sym is) one) h.downs)
        where
          none : times_asked x (places_below (drawn_attempt tasks s t.draw) h.through)
              + times_asked x [] ≤ one_if (eqb t.draw its_draw)
          none =
              dite (ℕ_discrete t.draw its_draw)
              (λ is. let r = one_if_eq t.draw its_draw is in
              let l = below_once (drawn_attempt tasks s t.draw) h.through in omega arith)
              (λ other. let z = other_below t.draw h.through other in omega arith)

          one : times_asked x (places_below (drawn_attempt tasks s t.draw) h.through)
              + times_asked x (at_place (drawn_attempt tasks s t.draw) h.through ∷ [])
              ≤ one_if (eqb t.draw its_draw)
          one =
              let e = drawn_attempt tasks s t.draw in
              let m = one_more e h.through in
              let k = sum_by-cons (λ (y : At). one_if (is_it y)) (at_place e h.through) [] in
              dite (ℕ_discrete t.draw its_draw)
              (λ is. let r = one_if_eq t.draw its_draw is in
              let l = below_once e (suc h.through) in omega arith)
              (λ other. let z = other_below t.draw (suc h.through) other in omega arith)

      turns_once : (ts : List Turn) → All (IsAsked tasks s places) ts
          → times_asked x (places_passed ts) + times_asked x (all_downs ts)
          ≤ times_in_list its_draw (map (λ t. t.draw) ts)
      turns_once [] h = omega arith
      turns_once (t ∷ ts) h =
          let A = IsAsked tasks s places in
          let r = turns_once ts (All-tail A t ts h) in
          let o = turn_once t (All-head A t ts h) in
          omega (
            arith,
            sum_by-append (λ (y : At). one_if (is_it y)) t.passed (places_passed ts),
            sum_by-append (λ (y : At). one_if (is_it y)) t.downs (all_downs ts),
            sum_by-cons (λ (d : ℕ). one_if (eqb d its_draw)) t.draw (map (λ (u : Turn). u.draw) ts),
          )

-- what the host of a worker gained
abbrev gained_by : Worker → Notes
gained_by w = record { passed = places_passed w.turns; downs = all_downs w.turns }

module _ (tasks : ℕ) (s : Settings) (places : ℕ → ℕ) where
  abbrev HasTaken : Worker → Type 0
  HasTaken w = TookTurns tasks s places (pass_begun w.pass.number) w.pass w.before w.after w.turns

  have_gained : (ws : List Worker) → All HasTaken ws
      → HaveGained (map (λ w. w.before) ws) (map (λ w. w.after) ws) (map gained_by ws)
  have_gained [] h = tt
  have_gained (w ∷ ws) h = (
    (All-head HasTaken w ws h).gains,
    have_gained ws (All-tail HasTaken w ws h),
  )

  worker_once : (x : At) (w : Worker) → HasTaken w
      → times_asked x (places_passed w.turns) + times_asked x (all_downs w.turns)
      ≤ times_in_list (its_draw x tasks s) w.pass.draws
  worker_once x w h =
      let d = its_draw x tasks s in
      let test : ℕ → Bool = λ y. ltb y (limit tasks s.tries) in
      let a = turns_once x tasks s places w.turns h.asked in
      let b : times_in_list d (map (λ (t : Turn). t.draw) w.turns)
      ≡ times_in_list d (filter test h.gained) =
      ap (times_in_list d) h.each in
      let c = times_filter d test h.gained in
      let e : times_in_list d w.pass.draws ≡ times_in_list d h.gained =
      ap (times_in_list d) h.draws in omega arith

  workers_once : (x : At) (ws : List Worker) → All HasTaken ws
      → times_asked x (all_places (map gained_by ws))
      ≤ sum_by (λ (q : PassState). times_in_list (its_draw x tasks s) q.draws)
      (map (λ w. w.pass) ws)
  workers_once x [] h = omega arith
  workers_once x (w ∷ ws) h =
      let r = workers_once x ws (All-tail HasTaken w ws h) in
      let o = worker_once x w (All-head HasTaken w ws h) in
      let f : At → ℕ = λ y. one_if (is_it x y) in
      let rest = all_places (map gained_by ws) in
      omega (
        arith,
        sum_by-append f (places_passed w.turns) (all_downs w.turns ++ rest),
        sum_by-append f (all_downs w.turns) rest,
        sum_by-cons (λ (q : PassState). times_in_list (its_draw x tasks s) q.draws) w.pass
            (map (λ (v : Worker). v.pass) ws),
      )

  -- the places of a turn are the phase's
  module _ (some_task : 0 < tasks) where
    abbrev Ours : At → Type 0
    Ours = IsPlaceOf tasks s places

    our_place : (d place : ℕ) → d < limit tasks s.tries → place ≤ places (d % tasks)
        → Ours (at_place (drawn_attempt tasks s d) place)
    our_place d place low within =
        let round : d / tasks < s.tries =
        (div-lt_iff_lt-mul some_task).1
        (subst (λ (x : ℕ). d < x) (mul_comm tasks s.tries) low) in record {
          stage = refl;
          phase = refl;
          task = omega arith;
          attempt = (omega arith, omega arith);
          place = within;
        }

    our_places : (d n : ℕ) → d < limit tasks s.tries → n ≤ places (d % tasks) + 1
        → All Ours (places_below (drawn_attempt tasks s d) n)
    our_places d zero low within = All-nil Ours
    our_places d (suc n) low within =
        All-push Ours (places_below (drawn_attempt tasks s d) n)
        (at_place (drawn_attempt tasks s d) n) (our_places d n low (omega arith))
        (our_place d n low (omega arith))

    our_turn : (t : Turn) → t.draw < limit tasks s.tries → IsAsked tasks s places t
        → All Ours t.passed × All Ours t.downs
    our_turn t low h =
        let e = drawn_attempt tasks s t.draw in
        let w = h.within in (
          All-same Ours t.passed (places_below e h.through) h.passed
              (our_places t.draw h.through low (omega arith)),
          ⊎_elim (λ (is : t.downs ≡ []). All-same Ours t.downs [] is (All-nil Ours))
              (λ (is : t.downs ≡ at_place e h.through ∷ []).
              let one : length t.downs ≡ 1 = ap length is in
              All-same Ours t.downs (at_place e h.through ∷ []) is
              (All-cons Ours (at_place e h.through) []
              (our_place t.draw h.through low (omega arith)) (All-nil Ours)))
              h.downs,
        )

    our_turns : (ts : List Turn) → All (λ t. t.draw < limit tasks s.tries) ts
        → All (IsAsked tasks s places) ts → All Ours (places_passed ts) × All Ours (all_downs ts)
    our_turns [] low h = (All-nil Ours, All-nil Ours)
    our_turns (t ∷ ts) low h =
        let L : Turn → Type 0 = λ u. u.draw < limit tasks s.tries in
        let A = IsAsked tasks s places in
        let one = our_turn t (All-head L t ts low) (All-head A t ts h) in
        let rest = our_turns ts (All-tail L t ts low) (All-tail A t ts h) in (
          All-append Ours t.passed (places_passed ts) one.0 rest.0,
          All-append Ours t.downs (all_downs ts) one.1 rest.1,
        )

    low_draws : (w : Worker) → HasTaken w → All (λ t. t.draw < limit tasks s.tries) w.turns
    low_draws w h =
        let most = limit tasks s.tries in
        let test : ℕ → Bool = λ y. ltb y most in
        let L : ℕ → Type 0 = λ d. d < most in
        let draw : Turn → ℕ = λ t. t.draw in
        all_of_map L draw w.turns
        (subst (All L) (sym h.each)
        (All-weaker (λ d. test d ≡ true) L (λ d e. (Decides-ltb d most).0 e) (filter test h.gained)
        (filter_passes test h.gained)))

    our_workers : (ws : List Worker) → All HasTaken ws
        → All Ours (all_places (map gained_by ws))
    our_workers [] h = All-nil Ours
    our_workers (w ∷ ws) h =
        let k = All-head HasTaken w ws h in
        let o = our_turns w.turns (low_draws w k) k.asked in
        let rest = all_places (map gained_by ws) in
        All-append Ours (places_passed w.turns) (all_downs w.turns ++ rest) o.0
        (All-append Ours (all_downs w.turns) rest o.1 (our_workers ws (All-tail HasTaken w ws h)))

    -- where the board is a good one
    pub asked_once : (board : BoardState) (us vs : List Account) (ws : List Worker)
        → IsGood tasks s.tries board → AreWorkers tasks s places board.passes us vs ws
        → AreAskedOnce tasks s places us vs
    asked_once board us vs ws good h = record {
      gained = map gained_by ws;
      gains = subst
          (λ (x : List Account × List Account). HaveGained x.0 x.1 (map gained_by ws))
          (λ i. (h.before i, h.after i)) (have_gained ws h.took);
      ours = our_workers ws h.took;
      once = λ x.
          let d = its_draw x tasks s in
          let count : List PassState → ℕ =
          λ ps. sum_by (λ (q : PassState). times_in_list d q.draws) ps in
          let a = workers_once x ws h.took in
          let b : count (map (λ (w : Worker). w.pass) ws) ≡ count board.passes =
          ap count h.passes in
          let c = at_most_once d in omega arith;
    }
      where
        at_most_once : (d : ℕ)
            → sum_by (λ (q : PassState). times_in_list d q.draws) board.passes ≤ 1
        at_most_once d =
            ⊎_elim
            (λ (t : (leb board.next d ≡ true) × (board.next ≤ d)).
            let z = (good.each_once d).1 t.1 in omega arith)
            (λ (t : (leb board.next d ≡ false) × (d < board.next)).
            let o = (good.each_once d).0 t.1 in omega arith)
            (leb_tells board.next d)
