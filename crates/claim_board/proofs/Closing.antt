-- What a good state at the end tells of the passes.
use Rattle.std.proofs.Common.{◌≡◌, ◌≢◌, ℕ, suc, ◌+◌, ◌-◌, ◌*◌, ◌/◌, ◌%◌, ◌<◌, true, false, eqb, List, [], ◌∷◌, get_or, refl, sym, ap, ◌∙◌, arith, ⊎_elim, ◌⊎◌, div-add-mod'}
use Rattle.std.proofs.lemmas.Bool.Decides.{eqb_tells}
use Rattle.std.proofs.lemmas.List.Elements.{All-nil, All-cons, All-head, All-tail}
use Rattle.std.proofs.lemmas.List.Sums.{sum_by-cons}
use Rattle.std.proofs.lemmas.Nat.{mod-mul-add}
use mathlib.Core.Option.{some}
use lib.ListN.{get_elem?}
use Rattle.std.specs.Prelude.{sum_by, All}
use Rattle.claim_board.specs.Counts.{one_if, times_in_list}
use Rattle.claim_board.specs.Protocol.{PassState, limit, of_task, IsGoodPass, IsGood}
use Rattle.claim_board.specs.Boards.{Board, Pass, Tally, states_of}
use Rattle.claim_board.specs.Told.{closing_state, draw_of, DrawnOnce, WonOnce, SawWinners, LostToWinners, EndedPastLimit}
use Rattle.claim_board.proofs.Totals.{times-cons, all_map, one_if_eq, one_if_ne}
use Rattle.claim_board.proofs.Whole.{ended_means_used_up}

total_states : (f : PassState → ℕ) (ps : List Pass) → sum_by f (states_of ps)
    ≡ sum_by (λ p. f p.state) ps
total_states f [] = refl
total_states f (p ∷ ps) =
    let r = total_states f ps in
    omega (arith, sum_by-cons f p.state (states_of ps), sum_by-cons (λ (q : Pass). f q.state) p ps)

each_states : (P : PassState → Type 0) (ps : List Pass) → All P (states_of ps)
    → All (λ p. P p.state) ps
each_states P [] h = All-nil (λ (p : Pass). P p.state)
each_states P (p ∷ ps) h =
    All-cons (λ (q : Pass). P q.state) p ps (All-head P p.state (states_of ps) h)
    (each_states P ps (All-tail P p.state (states_of ps) h))

each_from : {A : Type 0} (P : A → Type 0) (xs : List A)
    → ((i : ℕ) (x : A) → get_elem? xs i ≡ some x → P x) → All P xs
each_from P [] h = All-nil P
each_from P (x ∷ xs) h =
    All-cons P x xs (h 0 x refl) (each_from P xs (λ i y e. h (suc i) y e))

-- a draw of the task that is its word's attempt is the one draw that is so
same_test : (tasks t w d : ℕ) → t < tasks → (d % tasks ≡ t → w ≡ d / tasks + 1)
    → one_if (eqb (d % tasks) t) ≡ one_if (eqb d (draw_of tasks t w))
same_test tasks t w d small is = ⊎_elim
    (λ (y : (eqb (d % tasks) t ≡ true) × (d % tasks ≡ t)).
    let low : w - 1 ≡ d / tasks = (let e = is y.1 in omega arith) in
    let named : draw_of tasks t w ≡ d = ap (λ (x : ℕ). x * tasks + t) low
    ∙ (ap (λ (x : ℕ). d / tasks * tasks + x) (sym y.1) ∙ div-add-mod' d tasks) in
    ap one_if y.0 ∙ sym (one_if_eq d (draw_of tasks t w) (sym named)))
    (λ (n : (eqb (d % tasks) t ≡ false) × (d % tasks ≢ t)).
    ap one_if n.0 ∙ sym (one_if_ne d (draw_of tasks t w)
    (λ e. n.1 (ap (λ (x : ℕ). x % tasks) e ∙ mod-mul-add (w - 1) tasks t small))))
    (eqb_tells (d % tasks) t)

-- the draws of a task that a good pass won are those that name its word
won_counts : (tasks tries t : ℕ) (words ds : List ℕ) → t < tasks
    → All (λ d. (d < limit tasks tries) × (get_or words (d % tasks) 0 ≡ d / tasks + 1)) ds
    → of_task tasks t ds ≡ times_in_list (draw_of tasks t (get_or words t 0)) ds
won_counts tasks tries t words [] small h = refl
won_counts tasks tries t words (d ∷ ds) small h =
    let W : ℕ → Type 0 =
    λ x. (x < limit tasks tries) × (get_or words (x % tasks) 0 ≡ x / tasks + 1) in
    let named = draw_of tasks t (get_or words t 0) in
    let first = same_test tasks t (get_or words t 0) d small
    (λ e. ap (λ (x : ℕ). get_or words x 0) (sym e) ∙ (All-head W d ds h).1) in
    let rest = won_counts tasks tries t words ds small (All-tail W d ds h) in
    omega (arith, sum_by-cons (λ (x : ℕ). one_if (eqb (x % tasks) t)) d ds, times-cons named d ds)

won_totals : (tasks tries t : ℕ) (words : List ℕ) (ps : List PassState) → t < tasks
    → All (IsGoodPass tasks tries words) ps
    → sum_by (λ p. of_task tasks t p.won) ps
    ≡ sum_by (λ p. times_in_list (draw_of tasks t (get_or words t 0)) p.won) ps
won_totals tasks tries t words [] small h = refl
won_totals tasks tries t words (p ∷ ps) small h =
    let good = All-head (IsGoodPass tasks tries words) p ps h in
    let first = won_counts tasks tries t words p.won small good.won in
    let rest = won_totals tasks tries t words ps small
    (All-tail (IsGoodPass tasks tries words) p ps h) in
    let named = draw_of tasks t (get_or words t 0) in
    omega (
      arith,
      sum_by-cons (λ (q : PassState). of_task tasks t q.won) p ps,
      sum_by-cons (λ (q : PassState). times_in_list named q.won) p ps,
    )

module _ (b : Board) (r : Tally) (ps : List Pass) (h : IsGood b.tasks b.tries (closing_state r ps))
  where
    each_good : (P : PassState → Type 0)
        → ((p : PassState) → IsGoodPass b.tasks b.tries r.winners p → P p)
        → All (λ (p : Pass). P p.state) ps
    each_good P f = each_states P ps
        (all_map (IsGoodPass b.tasks b.tries r.winners) P (states_of ps) f h.passes)

    pub drawn_once : DrawnOnce r ps
    drawn_once d =
        let e = sym (total_states (λ p. times_in_list d p.draws) ps) in let o = h.each_once d in
        ((λ l. e ∙ o.0 l), λ l. e ∙ o.1 l)

    pub won_once : WonOnce b r ps
    won_once t small =
        let o = h.one_winner t small in
        let wins = sym (total_states (λ p. of_task b.tasks t p.won) ps) in
        let same = won_totals b.tasks b.tries t r.winners (states_of ps) small h.passes in
        let named =
        sym (total_states (λ p. times_in_list (draw_of b.tasks t (get_or r.winners t 0)) p.won)
        ps) in
        ((λ z. wins ∙ o.0 z), λ n. (wins ∙ o.1 n, named ∙ (sym same ∙ o.1 n)))

    pub saw_winners : SawWinners r ps
    saw_winners = each_good (λ p. All (λ x. (x.1 ≡ 0) ⊎ (get_or r.winners x.0 0 ≡ x.1)) p.seen)
        (λ p good. all_map (λ (x : ℕ × ℕ). (x.0 < b.tasks)
        × ((x.1 ≡ 0) ⊎ (get_or r.winners x.0 0 ≡ x.1)))
        (λ (x : ℕ × ℕ). (x.1 ≡ 0) ⊎ (get_or r.winners x.0 0 ≡ x.1)) p.seen (λ x k. k.1) good.seen)

    pub lost_to_winners : LostToWinners b r ps
    lost_to_winners = each_good (λ p. All
        (λ x. (get_or r.winners (x.0 % b.tasks) 0 ≡ x.1) × (x.1 ≢ 0)) p.lost)
        (λ p good. all_map (λ (x : ℕ × ℕ). (x.0 < limit b.tasks b.tries)
        × (get_or r.winners (x.0 % b.tasks) 0 ≡ x.1) × (x.1 ≢ 0))
        (λ (x : ℕ × ℕ). (get_or r.winners (x.0 % b.tasks) 0 ≡ x.1) × (x.1 ≢ 0)) p.lost
        (λ x k. (k.1, k.2)) good.lost)

    pub ended_past_limit : EndedPastLimit b r ps
    ended_past_limit = each_states (λ p. p.ended ≡ true → limit b.tasks b.tries < r.draws) ps
        (each_from (λ p. p.ended ≡ true → limit b.tasks b.tries < r.draws) (states_of ps)
        (λ i p at. ended_means_used_up b.tasks b.tries (closing_state r ps) i p h at))
