-- What holds along every list of events.
use Rattle.std.proofs.lemmas.List.Elements.{All-nil, All-cons}
use Rattle.std.proofs.lemmas.List.Sums.{sum_by-cons}
use Rattle.std.proofs.Common.{◌⊎◌, ◌≡◌, ◌≢◌, ℕ, zero, suc, ◌+◌, ◌*◌, ◌/◌, ◌%◌, ◌<◌, ◌≤◌, true, false, leb, List, [], ◌∷◌, set, get_or, replicate, length, refl, sym, ap, ◌∙◌, subst, arith, ⊎_elim, length-set, get_or-set_same}
use Rattle.std.proofs.lemmas.List.{get_or-set_other, get_or-replicate, length-replicate}
use Rattle.std.proofs.lemmas.Nat.{mod-mul-add}
use Rattle.std.proofs.Common.{suc-mul, mul_comm}
use Rattle.std.proofs.Math.Nat.{mul-le-mul_right, le_trans, lt_of_lt_of_le, lt_of_le_of_lt, le_of_lt}
use native.Mathlib.Decide.{ℕ_discrete}
use Rattle.std.proofs.lemmas.Bool.Decides.{leb_tells}
use mathlib.Core.Logic.{dite}
use mathlib.Core.Option.{some}
use lib.ListN.{get_elem?}
use Rattle.std.specs.Prelude.{sum_by, All}
use Rattle.claim_board.specs.Counts.{one_if, times_in_list, times_first, from_on}
use Rattle.claim_board.specs.Protocol.{Deed, PassState, BoardState, times_placed, word_of_task, pass_begun, fresh_from, start, of_task, IsGoodPass, IsGood, Event, Draw, Look, Win, Lose, Step, Runs}
use Rattle.claim_board.specs.Laws.{EveryStateIsGood, WordsStay, EachTaskIsWonOnce, UndecidedWereDrawn, EndedMeansUsedUp, wins}
use Rattle.claim_board.proofs.Totals.{times-cons, total_at, total_none, all_at, all_map, one_if_eq, at_test, times_none, times_first_none}
use Rattle.claim_board.proofs.Keeps.{Stay, stay_set, step_keeps}

total_fresh : (f : PassState → ℕ) → ((k : ℕ) → f (pass_begun k) ≡ 0) → (k n : ℕ)
    → sum_by f (fresh_from k n) ≡ 0
total_fresh f none k zero = refl
total_fresh f none k (suc n) =
    let a = none k in let r = total_fresh f none (k + 1) n in
    let c = sum_by-cons f (pass_begun k) (fresh_from (k + 1) n) in omega arith

each_fresh : (P : PassState → Type 0) → ((k : ℕ) → P (pass_begun k)) → (k n : ℕ)
    → All P (fresh_from k n)
each_fresh P h k zero = All-nil P
each_fresh P h k (suc n) =
    All-cons P (pass_begun k) (fresh_from (k + 1) n) (h k) (each_fresh P h (k + 1) n)

-- a pass that has done nothing is good
pub fresh_pass : (tasks tries : ℕ) (words : List ℕ) (k : ℕ)
    → IsGoodPass tasks tries words (pass_begun k)
fresh_pass tasks tries words k = record {
  ends = refl;
  won = All-nil (λ d. (d < tasks * tries) × (get_or words (d % tasks) 0 ≡ d / tasks + 1));
  lost = All-nil (λ (x : ℕ × ℕ). (x.0 < tasks * tries) × (get_or words (x.0 % tasks) 0 ≡ x.1)
      × (x.1 ≢ 0));
  seen = All-nil (λ (x : ℕ × ℕ). (x.0 < tasks) × ((x.1 ≡ 0) ⊎ (get_or words x.0 0 ≡ x.1)));
  own = λ d. omega arith;
}

pub start_good : (tasks tries crew : ℕ) → IsGood tasks tries (start tasks crew)
start_good tasks tries crew = record {
  sized = length-replicate tasks 0;
  each_once = λ d. (
    (λ l. absurd (omega arith)),
    λ _. total_fresh (λ (v : PassState). times_in_list d v.draws) (λ k. refl) 0 crew,
  );
  one_winner = λ t small. (
    (λ _. total_fresh (λ (v : PassState). of_task tasks t v.won) (λ k. refl)
        0 crew),
    λ n. absurd (n (get_or-replicate tasks t 0 0 small)),
  );
  passes = each_fresh (IsGoodPass tasks tries (replicate tasks 0))
      (λ k. fresh_pass tasks tries (replicate tasks 0) k) 0 crew;
  order = record {
    deeds = [];
    lead = (refl, refl);
    count = sym (total_fresh (λ (v : PassState). length v.deeds) (λ k. refl) 0 crew);
    placed = each_fresh (λ v. All (λ x. get_elem? [] x.0 ≡ some x.1) v.deeds)
        (λ k. All-nil (λ (x : ℕ × Deed). get_elem? [] x.0 ≡ some x.1)) 0 crew;
    each_once = λ n. (
      (λ l. absurd (omega arith)),
      λ _. total_fresh (λ (v : PassState). times_placed n v.deeds) (λ k. refl) 0 crew,
    );
  };
}

runs_keep : (tasks tries : ℕ) (old : BoardState) (events : List Event) (new : BoardState)
    → 0 < tasks
    → Runs tasks tries old events new → IsGood tasks tries old → IsGood tasks tries new
runs_keep tasks tries old [] new some_task r h = subst (IsGood tasks tries) (sym r) h
runs_keep tasks tries old (e ∷ es) new some_task r h =
    runs_keep tasks tries r.0 es new some_task r.2
    (step_keeps tasks tries old r.0 e some_task r.1 h)

pub every_state_is_good : EveryStateIsGood
every_state_is_good tasks tries crew events s some_task r =
    runs_keep tasks tries (start tasks crew) events s some_task r (start_good tasks tries crew)

step_stays : (tasks tries : ℕ) (old : BoardState) (e : Event) (new : BoardState)
    → Step tasks tries old e new → Stay old.words new.words
step_stays tasks tries old (Draw p) new s t full = ap (λ (k : BoardState). word_of_task k t) s.3
step_stays tasks tries old (Look p u) new s t full = ap (λ (k : BoardState). word_of_task k t) s.3
step_stays tasks tries old (Win p d) new s t full = ap (λ (k : BoardState). word_of_task k t) s.4
    ∙ stay_set old.words (d % tasks) (d / tasks + 1) s.3 t full
step_stays tasks tries old (Lose p d) new s t full = ap (λ (k : BoardState). word_of_task k t) s.4

pub words_stay : WordsStay
words_stay tasks tries [] old new t r full = ap (λ (k : BoardState). word_of_task k t) r
words_stay tasks tries (e ∷ es) old new t r full =
    let first = step_stays tasks tries old e r.0 r.1 t full in
    words_stay tasks tries es r.0 new t r.2 (λ z. full (sym first ∙ z)) ∙ first

step_sized : (tasks tries : ℕ) (old : BoardState) (e : Event) (new : BoardState)
    → Step tasks tries old e new
    → length old.words ≡ tasks → length new.words ≡ tasks
step_sized tasks tries old (Draw p) new s h = ap (λ (k : BoardState). length k.words) s.3 ∙ h
step_sized tasks tries old (Look p u) new s h = ap (λ (k : BoardState). length k.words) s.3 ∙ h
step_sized tasks tries old (Win p d) new s h = ap (λ (k : BoardState). length k.words) s.4
    ∙ (length-set old.words (d % tasks) (d / tasks + 1) ∙ h)
step_sized tasks tries old (Lose p d) new s h = ap (λ (k : BoardState). length k.words) s.4 ∙ h

-- where a word is as it was, so are the wins that are to come
wins_on : (old new n : ℕ) → new ≡ old → (new ≡ 0 → n ≤ 1) × (new ≢ 0 → n ≡ 0)
    → (old ≡ 0 → n ≤ 1) × (old ≢ 0 → n ≡ 0)
wins_on old new n same later =
    (λ z. later.0 (same ∙ z), λ m. later.1 (λ z. m (sym same ∙ z)))

-- the wins that are to come
wins_left : (tasks tries : ℕ) (old : BoardState) (events : List Event) (new : BoardState)
    (t : ℕ) → 0 < tasks
    → length old.words ≡ tasks → Runs tasks tries old events new
    → (word_of_task old t ≡ 0 → wins tasks t events ≤ 1)
    × (word_of_task old t ≢ 0 → wins tasks t events ≡ 0)
wins_left tasks tries old [] new t some_task size r = ((λ _. omega arith), λ _. refl)
wins_left tasks tries old (Draw p ∷ es) new t some_task size r =
    wins_on _ _ _ (ap (λ (k : BoardState). word_of_task k t) r.1.3)
    (wins_left tasks tries r.0 es new t some_task
    (step_sized tasks tries old (Draw p) r.0 r.1 size) r.2)
wins_left tasks tries old (Look p u ∷ es) new t some_task size r =
    wins_on _ _ _ (ap (λ (k : BoardState). word_of_task k t) r.1.3)
    (wins_left tasks tries r.0 es new t some_task
    (step_sized tasks tries old (Look p u) r.0 r.1 size) r.2)
wins_left tasks tries old (Lose p d ∷ es) new t some_task size r =
    wins_on _ _ _ (ap (λ (k : BoardState). word_of_task k t) r.1.4)
    (wins_left tasks tries r.0 es new t some_task
    (step_sized tasks tries old (Lose p d) r.0 r.1 size) r.2)
wins_left tasks tries old (Win p d ∷ es) new t some_task size r =
    let later = wins_left tasks tries r.0 es new t some_task
    (step_sized tasks tries old (Win p d) r.0 r.1 size) r.2 in
    let is = ap (λ (k : BoardState). word_of_task k t) r.1.4 in
    let u : ℕ = d % tasks in let a : ℕ = d / tasks + 1 in
    let F : ℕ → Type 0 = λ n. (word_of_task old t ≡ 0 → n + wins tasks t es ≤ 1)
    × (word_of_task old t ≢ 0 → n + wins tasks t es ≡ 0) in
    at_test u t F
    (λ e. let here : word_of_task r.0 t ≡ a = is
    ∙ (ap (λ (k : ℕ). get_or (set old.words u a) k 0) (sym e)
    ∙ get_or-set_same old.words u a 0 (omega arith)) in
    let full : word_of_task r.0 t ≢ 0 = λ z. absurd (omega arith) in let none = later.1 full in
    ((λ _. omega arith), λ n. absurd (n (ap (λ (k : ℕ). word_of_task old k) (sym e) ∙ r.1.3))))
    (λ n. let same : word_of_task r.0 t ≡ word_of_task old t = is
    ∙ get_or-set_other old.words u t a 0 (λ e. n (sym e)) in (
      (λ z. let l = later.0 (same ∙ z) in omega arith),
      λ m. let l =
          later.1 (λ z. m (sym same ∙ z)) in omega arith,
    ))

pub each_task_is_won_once : EachTaskIsWonOnce
each_task_is_won_once tasks tries crew events s t some_task r =
    let both = wins_left tasks tries (start tasks crew) events s t some_task
    (length-replicate tasks 0) r in
    dite (ℕ_discrete (word_of_task (start tasks crew) t) 0) (λ z. both.0 z)
    (λ n. let l = both.1 n in omega arith)

-- a list with a number that is n or more
some_late : (n : ℕ) (xs : List ℕ) → 0 < from_on n xs → (d : ℕ) × (n ≤ d) × (0 < times_in_list d xs)
some_late n [] h = absurd (omega arith)
some_late n (x ∷ xs) h = ⊎_elim
    (λ (l : (leb n x ≡ true) × (n ≤ x)).
    let one = one_if_eq x x refl in (x, l.1, omega (arith, times-cons x x xs)))
    (λ (l : (leb n x ≡ false) × (x < n)).
    let none : one_if (leb n x) ≡ 0 = ap one_if l.0 in
    let c = sum_by-cons (λ (y : ℕ). one_if (leb n y)) x xs in
    let r = some_late n xs (omega arith) in
    let more = r.2 in (r.0, r.1, omega (arith, times-cons r.0 x xs)))
    (leb_tells n x)

within_next : (f next high : ℕ) → (next ≤ high → f ≡ 0) → 0 < f → high < next
within_next f next high none some_one =
    ⊎_elim (λ (l : (leb next high ≡ true) × (next ≤ high)). let z = none l.1 in
    absurd (omega arith)) (λ (l : (leb next high ≡ false) × (high < next)). l.1)
    (leb_tells next high)

pub inside_limit : (tasks tries t k : ℕ) → t < tasks → k < tries → k * tasks + t < tasks * tries
inside_limit tasks tries t k small few =
    let below : suc k * tasks ≤ tries * tasks = mul-le-mul_right tasks few in
    let turned : tries * tasks ≡ tasks * tries = mul_comm tries tasks in let more : suc k * tasks
    ≡ k * tasks + tasks = suc-mul k tasks in omega arith

pub ended_means_used_up : EndedMeansUsedUp
ended_means_used_up tasks tries s p v h at ended =
    let mine = all_at (IsGoodPass tasks tries s.words) s.passes p v h.passes at in
    let one : one_if v.ended ≡ 1 = ap one_if ended in
    let ends = mine.ends in
    let late = some_late (tasks * tries) v.draws (omega arith) in
    let all = total_at (λ (u : PassState). times_in_list late.0 u.draws) s.passes p v at in
    let some_draw = late.2 in
    lt_of_le_of_lt late.1 (within_next (sum_by (λ (u : PassState). times_in_list late.0 u.draws)
    s.passes)
    s.next late.0 (h.each_once late.0).1 (le_trans some_draw all))

pub undecided_were_drawn : UndecidedWereDrawn
undecided_were_drawn tasks tries s p v t k h at ended small empty few =
    let d : ℕ = k * tasks + t in
    let turn : d % tasks ≡ t = mod-mul-add k tasks t small in
    let blank : get_or s.words (d % tasks) 0 ≡ 0 = ap (λ (u : ℕ). word_of_task s u) turn ∙ empty in
    let within : d < s.next = lt_of_lt_of_le (inside_limit tasks tries t k small few)
    (le_of_lt (ended_means_used_up tasks tries s p v h at ended)) in (
      (h.each_once d).0 within,
      total_none (λ (u : PassState). times_in_list d u.won) s.passes
          (all_map (IsGoodPass tasks tries s.words) (λ (u : PassState). times_in_list d u.won ≡ 0)
          s.passes
          (λ u g. times_none d u.won (all_map
          (λ x. (x < tasks * tries) × (get_or s.words (x % tasks) 0 ≡ x / tasks + 1))
          (λ x. x ≢ d) u.won
          (λ x w e. let no : get_or s.words (x % tasks) 0
          ≡ 0 = ap (λ (y : ℕ). get_or s.words (y % tasks) 0) e
          ∙ blank in let is = w.1 in absurd (omega arith)) g.won)) h.passes),
      total_none (λ (u : PassState). times_first d u.lost) s.passes
          (all_map (IsGoodPass tasks tries s.words) (λ (u : PassState). times_first d u.lost ≡ 0)
          s.passes
          (λ u g. times_first_none d u.lost
          (all_map (λ (x : ℕ × ℕ). (x.0 < tasks * tries)
          × (get_or s.words (x.0 % tasks) 0 ≡ x.1) × (x.1 ≢ 0)) (λ (x : ℕ × ℕ). x.0 ≢ d) u.lost
          (λ x w e. let no : get_or s.words (x.0 % tasks) 0
          ≡ 0 = ap (λ (y : ℕ). get_or s.words (y % tasks) 0) e
          ∙ blank in absurd (w.2 (sym w.1 ∙ no))) g.lost)) h.passes),
    )
