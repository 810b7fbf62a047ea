-- What a phase has when its board is closed.
use Rattle.std.proofs.Common.{◌≡◌, ◌≢◌, ℕ, ◌+◌, ◌-◌, ◌*◌, ◌/◌, ◌%◌, ◌^◌, ◌<◌, ◌≤◌, Bool, true, false, eqb, ltb, ◌&&◌, ◌⊎◌, inl, inr, ⊎_elim, List, [], ◌∷◌, get_or, map, length, refl, sym, ap, ◌∙◌, subst, arith}
use Rattle.std.specs.Prelude.{All, Contains, sum_by}
use Rattle.std.specs.List.{filter}
use Rattle.std.specs.List.Sorted.{IsPermutation, IsNonDecreasingBy}
use Rattle.std.proofs.lemmas.Nat.{div-mul-add, mod-mul-add}
use Rattle.std.proofs.lemmas.Bool.Decides.{eqb_tells, Decides-ltb}
use Rattle.std.proofs.lemmas.List.Elements.{All-head, All-tail, All-weaker, All-map, All-filter, All-contains, filter_passes}
use Rattle.std.proofs.lemmas.List.Sums.{sum_by-cons}
use Rattle.std.proofs.lemmas.List.Sorted.{All-permutation, sum_by-IsPermutation}
use mathlib.Core.Option.{some}
use lib.ListN.{get_elem?}
use Rattle.claim_board.specs.Counts.{one_if, times_in_list, times_first}
use Rattle.claim_board.specs.Protocol.{PassState, limit, pass_begun, of_task, IsGood, IsGoodPass}
use Rattle.claim_board.specs.Boards.{Pass, Tally, states_of}
use Rattle.claim_board.specs.Laws.{UndecidedWereDrawn}
use Rattle.claim_board.specs.Told.{closing_state}
use Rattle.crew.specs.declared.kept.KeptOut.{KeptOut}
use Rattle.crew.specs.declared.drill.Entry.{Entry}
use Rattle.outside.specs.Accounts.{Account}
use Rattle.crew.specs.Hosts.{HaveRisen, RefusedPlace, SomeHost}
use Rattle.crew.specs.Drills.{Settings, attempt_in, names, is_drilled, same_phase, drilled_tries}
use Rattle.crew.specs.Outs.{IsOut, RanOn, draw_by}
use Rattle.crew.specs.Work.{drawn_attempt}
use Rattle.crew.specs.Phases.{IsClosed, IsLostTask, CanFinish, AreWinnersOuts, Settled, Unsettled}
use Rattle.crew.specs.Workers.{Phased}
use Rattle.crew.specs.inner.Fates.{Fate, Fated}
use Rattle.crew.specs.inner.Fates.Fate.{Won, Lost, Taken, Drilled, WentDown}
use Rattle.claim_board.proofs.Moves.{part}
use Rattle.crew.proofs.Lists.{all_times, all_both, all_zero, all_of_map}
use Rattle.crew.proofs.Fates.{fated}
use Rattle.crew.proofs.InOrder.{outs_of, outs_of-cons, indexed}
use Rattle.crew.proofs.Counting.{just, first_length, all_accounted, any_counts}
use Rattle.crew.proofs.Closing.{as_many, wins_of_all, all_wons, inside_limit, outs_of_filter}

module _ (tasks : ℕ) (s : Settings) {O : Type 0} (is_value : ℕ → O → Type 0) (places : ℕ → ℕ) where
  -- an attempt's draw names its task and itself
  draw_task : (k : KeptOut O) → IsOut is_value tasks s k → draw_by tasks k % tasks ≡ k.task
  draw_task k h = mod-mul-add (k.attempt - 1) tasks k.task h.task

  draw_attempt : (k : KeptOut O) → IsOut is_value tasks s k
      → draw_by tasks k / tasks + 1 ≡ k.attempt
  draw_attempt k h =
      let e = div-mul-add (k.attempt - 1) tasks k.task h.task in
      let some_attempt = h.attempt.0 in omega arith

  outs_of_draws : (t : ℕ) (ks : List (KeptOut O)) → All (IsOut is_value tasks s) ks
      → of_task tasks t (map (draw_by tasks) ks) ≡ outs_of t ks
  outs_of_draws t [] h = refl
  outs_of_draws t (k ∷ ks) h =
      let I = IsOut is_value tasks s in
      let r = outs_of_draws t ks (All-tail I k ks h) in
      let e : one_if (eqb (draw_by tasks k % tasks) t) ≡ one_if (eqb k.task t) =
      ap (λ (x : ℕ). one_if (eqb x t)) (draw_task k (All-head I k ks h)) in
      omega (
        arith,
        outs_of-cons t k ks,
        sum_by-cons (λ (d : ℕ). one_if (eqb (d % tasks) t)) (draw_by tasks k)
            (map (draw_by tasks) ks),
      )

  module _ (r : Tally) (ps : List Pass) (us vs : List Account) (ks : List (KeptOut O))
      (good : IsGood tasks s.tries (closing_state r ps))
      (h : Phased tasks s is_value places ps us vs ks) (some_task : 0 < tasks)
      (as_many : length (states_of ps) ≡ length us) where
    closed : IsClosed tasks s (length us) (closing_state r ps)
    closed = record {
      good = good;
      passes = as_many;
      ended = All-map (λ (q : PassState). q.ended ≡ true) (λ (p : Pass). p.state) ps h.ended;
    }

    abbrev Fact : KeptOut O → Type 0
    Fact k =
        (IsOut is_value tasks s k × SomeHost (λ a b. RanOn places s a b k) us vs)
        × (get_or r.winners k.task 0 ≡ k.attempt)

    outs : All (IsOut is_value tasks s) ks
    outs =
        All-weaker (λ k. IsOut is_value tasks s k × SomeHost (λ a b. RanOn places s a b k) us vs)
        (IsOut is_value tasks s) (λ k t. t.0) ks h.kept

    facts : All Fact ks
    facts =
        let Word : ℕ → Type 0 =
        λ d. (d < tasks * s.tries) × (get_or r.winners (d % tasks) 0 ≡ d / tasks + 1) in
        let K : KeptOut O → Type 0 =
        λ k. IsOut is_value tasks s k × SomeHost (λ a b. RanOn places s a b k) us vs in
        let words = all_wons Word ps
        (All-weaker (IsGoodPass tasks s.tries r.winners) (λ q. All Word q.won) (λ q g. g.won)
        (states_of ps) good.passes) in
        let named = all_of_map Word (draw_by tasks) ks (subst (All Word) h.won words) in
        All-weaker (λ k. K k × Word (draw_by tasks k)) Fact
        (λ k t. (
          t.0,
          ap (λ (x : ℕ). get_or r.winners x 0) (sym (draw_task k t.0.0))
              ∙ (t.1.1 ∙ draw_attempt k t.0.0),
        )) ks
        (all_both K (λ k. Word (draw_by tasks k)) ks h.kept named)

    one_out : (t : ℕ) → t < tasks → get_or r.winners t 0 ≢ 0 → outs_of t ks ≡ 1
    one_out t small full =
        sym (outs_of_draws t ks outs)
        ∙ (ap (of_task tasks t) (sym h.won)
        ∙ (sym (wins_of_all tasks t ps) ∙ (good.one_winner t small).1 full))

    are_outs : (n : ℕ) (xs ls : List (KeptOut O)) → All Fact xs → All (λ k. k.task < n) xs
        → ((t : ℕ) → t < n → outs_of t xs ≡ 1) → IsPermutation xs ls
        → IsNonDecreasingBy (λ k. k.task) ls
        → AreWinnersOuts tasks s is_value places us vs (closing_state r ps) n ls
    are_outs n xs ls each low one moved rise =
        let all = All-permutation Fact xs ls moved each in
        let below = All-permutation (λ (k : KeptOut O). k.task < n) xs ls moved low in
        let by_task = indexed n ls below rise
        (λ t small. sum_by-IsPermutation (λ (k : KeptOut O). one_if (eqb k.task t)) xs ls moved
        ∙ one t small) in record {
          count = by_task.0;
          order = by_task.1;
          outs = All-weaker Fact (IsOut is_value tasks s) (λ k t. t.0.0) ls all;
          winners = All-weaker Fact (λ k. get_or r.winners k.task 0 ≡ k.attempt) (λ k t. t.1) ls
              all;
          ran = All-weaker Fact (λ k. SomeHost (λ a b. RanOn places s a b k) us vs)
              (λ k t. t.0.1) ls all;
        }

    pub settled : ((t : ℕ) → t < tasks → get_or r.winners t 0 ≢ 0) → (ls : List (KeptOut O))
        → IsPermutation ks ls → IsNonDecreasingBy (λ k. k.task) ls
        → Settled tasks s is_value places us vs ls
    settled all ls moved rise = record {
      board = closing_state r ps;
      closed = closed;
      outs = are_outs tasks ks ls facts
          (All-weaker (IsOut is_value tasks s) (λ k. k.task < tasks) (λ k t. t.task) ks outs)
          (λ t small. one_out t small (all t small)) moved rise;
      worked = h.worked;
    }

    module _ (law : UndecidedWereDrawn) (task : ℕ) (small : task < tasks)
        (none : get_or r.winners task 0 ≡ 0) (some_pass : 0 < length ps) where
      of_draws : Fated tasks s (states_of ps) us vs
      of_draws = fated tasks s places (states_of ps) us vs h.worked

      -- why the attempt k + 1 of the task was not won
      abbrev Why : ℕ → Type 0
      Why k =
          (is_drilled s.drill (attempt_in s task (k + 1)) ≡ true)
          ⊎ (0 < times_in_list (k * tasks + task) of_draws.downs)

      -- a fate that no winner and no loss has
      fate_left_over : (k : ℕ) (q : PassState) → times_in_list (k * tasks + task) q.won ≡ 0
          → times_first (k * tasks + task) q.lost ≡ 0 → IsGoodPass tasks s.tries r.winners q
          → Fate tasks s of_draws.downs q (k * tasks + task) → Why k
      fate_left_over k q no_win no_loss g (Won x) = absurd (omega arith)
      fate_left_over k q no_win no_loss g (Lost x) = absurd (omega arith)
      fate_left_over k q no_win no_loss g (Taken a full x) =
          let turn : (k * tasks + task) % tasks ≡ task = mod-mul-add k tasks task small in
          let seen = All-contains
          (λ (y : ℕ × ℕ). (y.0 < tasks) × ((y.1 ≡ 0) ⊎ (get_or r.winners y.0 0 ≡ y.1)))
          q.seen ((k * tasks + task) % tasks, a) g.seen x in
          absurd (full (⊎_elim (λ (z : a ≡ 0). z)
          (λ (z : get_or r.winners ((k * tasks + task) % tasks) 0 ≡ a).
          sym z ∙ (ap (λ (u : ℕ). get_or r.winners u 0) turn ∙ none)) seen.1))
      fate_left_over k q no_win no_loss g (Drilled x) =
          inl (subst (λ (y : ℕ × ℕ). is_drilled s.drill (attempt_in s y.0 (y.1 + 1)) ≡ true)
          (λ i. (mod-mul-add k tasks task small i, div-mul-add k tasks task small i)) x)
      fate_left_over k q no_win no_loss g (WentDown x) = inr x

      attempt_fate : (k : ℕ) → k < s.tries → Why k
      attempt_fate k few =
          let d : ℕ = k * tasks + task in
          let states = states_of ps in
          let drawn = law tasks s.tries (closing_state r ps) 0 (first_state ps) task k good
          (first_at ps some_pass) (first_ended ps h.ended some_pass) small none few in
          let C : PassState → Type 0 =
          λ q. All (λ x. x < limit tasks s.tries → Fate tasks s of_draws.downs q x) q.draws in
          let G : PassState → Type 0 = λ q. IsGoodPass tasks s.tries r.winners q in
          let W : PassState → Type 0 = λ q. times_in_list d q.won ≡ 0 in
          let L : PassState → Type 0 = λ q. times_first d q.lost ≡ 0 in
          let some_one : 0 < sum_by (λ (q : PassState). times_in_list d q.draws) states =
          (let e = drawn.0 in omega arith) in
          let all = all_both (λ q. C q × G q) (λ q. W q × L q) states
          (all_both C G states of_draws.fates good.passes)
          (all_both W L states
          (all_zero (λ (q : PassState). times_in_list d q.won) states drawn.1)
          (all_zero (λ (q : PassState). times_first d q.lost) states drawn.2)) in
          let q =
          part (λ q. (C q × G q) × (W q × L q)) (λ (q : PassState). times_in_list d q.draws) states
          all some_one in
          let low = inside_limit tasks s.tries task k small few in
          let why = all_times (λ x. x < limit tasks s.tries → Fate tasks s of_draws.downs q.0 x) d
          q.0.draws q.1.0.0 q.2 low in
          fate_left_over k q.0 q.1.1.0 q.1.1.1 q.1.0.1 why
        where
          first_state : (qs : List Pass) → PassState
          first_state [] = pass_begun 0
          first_state (p ∷ qs) = p.state

          first_at : (qs : List Pass) → 0 < length qs
              → get_elem? (states_of qs) 0 ≡ some (first_state qs)
          first_at [] l = absurd (omega arith)
          first_at (p ∷ qs) l = refl

          first_ended : (qs : List Pass) → All (λ p. p.state.ended ≡ true) qs → 0 < length qs
              → (first_state qs).ended ≡ true
          first_ended [] e l = absurd (omega arith)
          first_ended (p ∷ qs) e l = All-head (λ (q : Pass). q.state.ended ≡ true) p qs e

      both_yes : (a b c d : ℕ) → a ≡ b → c ≡ d → 1 ≤ one_if (eqb a b && eqb c d)
      both_yes a b c d e f =
          ⊎_elim
          (λ (t : (eqb a b ≡ true) × (a ≡ b)).
          ⊎_elim
          (λ (u : (eqb c d ≡ true) × (c ≡ d)).
          let o : one_if (eqb a b && eqb c d) ≡ 1 =
          ap (λ (x : Bool × Bool). one_if (x.0 && x.1)) (λ i. (t.0 i, u.0 i)) in
          omega arith)
          (λ (u : (eqb c d ≡ false) × (c ≢ d)). absurd (u.1 f)) (eqb_tells c d))
          (λ (t : (eqb a b ≡ false) × (a ≢ b)). absurd (t.1 e)) (eqb_tells a b)

      -- a down of a draw of the task counts for its attempt
      down_counts : (k : ℕ) (ds : List ℕ) → 0 < times_in_list (k * tasks + task) ds
          → 0 < just (λ _. true) (λ d. eqb (d % tasks) task) (λ d. d / tasks + 1) (k + 1) ds
      down_counts k [] l = absurd (omega arith)
      down_counts k (d ∷ ds) l =
          let named = k * tasks + task in
          let count : ℕ → ℕ =
          λ x. one_if (true && (eqb (x % tasks) task && eqb (x / tasks + 1) (k + 1))) in
          let c = sum_by-cons (λ (x : ℕ). one_if (eqb x named)) d ds in
          let c' = sum_by-cons count d ds in
          ⊎_elim
          (λ (t : (eqb d named ≡ true) × (d ≡ named)).
          let turn : d % tasks ≡ task =
          ap (λ (y : ℕ). y % tasks) t.1 ∙ mod-mul-add k tasks task small in
          let round : d / tasks + 1 ≡ k + 1 =
          ap (λ (y : ℕ). y / tasks + 1) t.1
          ∙ ap (λ (y : ℕ). y + 1) (div-mul-add k tasks task small) in
          let one = both_yes (d % tasks) task (d / tasks + 1) (k + 1) turn round in omega arith)
          (λ (t : (eqb d named ≡ false) × (d ≢ named)).
          let z : one_if (eqb d named) ≡ 0 = ap one_if t.0 in
          let more = down_counts k ds (omega arith) in omega arith)
          (eqb_tells d named)

      accounted : s.tries ≤ drilled_tries s task + length of_draws.downs
      accounted =
          let p : Entry → Bool = λ e. eqb e.stage s.stage && same_phase e.phase s.phase in
          let q : Entry → Bool = λ e. eqb e.task task in
          let a : Entry → ℕ = λ e. e.attempt in
          let p' : ℕ → Bool = λ _. true in
          let q' : ℕ → Bool = λ d. eqb (d % tasks) task in
          let a' : ℕ → ℕ = λ d. d / tasks + 1 in
          let each = λ (k : ℕ) (few : k < s.tries).
          ⊎_elim
          (λ (x : is_drilled s.drill (attempt_in s task (k + 1)) ≡ true).
          inl (any_counts (names (attempt_in s task (k + 1))) s.drill x))
          (λ (x : 0 < times_in_list (k * tasks + task) of_draws.downs).
          inr (down_counts k of_draws.downs x))
          (attempt_fate k few) in
          let le = all_accounted p q a p' q' a' s.drill of_draws.downs s.tries each in
          let few = first_length p' q' a' s.tries of_draws.downs in omega arith

      lost : IsLostTask tasks s us vs task
      lost = record {
        losses = length of_draws.downs;
        risen = of_draws.risen;
        counted = accounted;
        told = λ attempt some_attempt few.
            let k = attempt - 1 in
            let is : k + 1 ≡ attempt = omega arith in
            let Told : ℕ → Type 0 = λ n.
            (is_drilled s.drill (attempt_in s task n) ≡ true)
            ⊎ SomeHost (λ a b. RefusedPlace a b (attempt_in s task n)) us vs in
            subst Told is
            (⊎_elim (λ (x : is_drilled s.drill (attempt_in s task (k + 1)) ≡ true). inl x)
            (λ (x : 0 < times_in_list (k * tasks + task) of_draws.downs).
            inr (subst
            (λ (y : ℕ × ℕ).
            SomeHost (λ a b. RefusedPlace a b (attempt_in s y.0 (y.1 + 1))) us vs)
            (λ i. (mod-mul-add k tasks task small i, div-mul-add k tasks task small i))
            (all_times (λ d. SomeHost (λ a b. RefusedPlace a b (drawn_attempt tasks s d)) us vs)
            (k * tasks + task) of_draws.downs of_draws.told x)))
            (attempt_fate k (omega arith)));
      }

      pub unsettled : ((t : ℕ) → t < task → get_or r.winners t 0 ≢ 0) → (ls : List (KeptOut O))
          → IsPermutation (filter (λ k. ltb k.task task) ks) ls → IsNonDecreasingBy (λ k. k.task) ls
          → Unsettled tasks s is_value places us vs task ls
      unsettled smaller ls moved rise =
          let test : KeptOut O → Bool = λ k. ltb k.task task in record {
            board = closing_state r ps;
            closed = closed;
            is_task = small;
            none = none;
            least = smaller;
            lost = lost;
            below = are_outs task (filter test ks) ls (All-filter test Fact ks facts)
                (All-weaker (λ k. test k ≡ true) (λ k. k.task < task)
                (λ k t. (Decides-ltb k.task task).0 t) (filter test ks) (filter_passes test ks))
                (λ t l. outs_of_filter t task l ks ∙ one_out t (omega arith) (smaller t l)) moved
                rise;
            worked = h.worked;
          }

-- a phase that gives up on a task has lost each of its tries
pub cannot_finish : (tasks : ℕ) (s : Settings) (us vs : List Account) (task : ℕ) → task < tasks
    → IsLostTask tasks s us vs task → CanFinish tasks s us vs → ⊥
cannot_finish tasks s us vs task small lost can =
    can task small (fewer us vs (s.tries - drilled_tries s task) lost.losses
    (let c = lost.counted in omega arith) lost.risen)
  where
    fewer : (us vs : List Account) (m n : ℕ) → m ≤ n → HaveRisen n us vs → HaveRisen m us vs
    fewer us vs m n l h =
        ⊎_elim
        (λ (x : sum_by (λ (a : Account). a.losses) us + n ≤ sum_by (λ (b : Account). b.losses) vs).
        inl (omega arith))
        (λ (x : (b : Account) × Contains vs b × (2 ^ 64 - 1 ≤ b.losses)). inr x) h
