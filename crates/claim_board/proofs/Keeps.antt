-- Each step of the core leads from a good state to a good state.
use Rattle.std.proofs.Common.{◌≡◌, ◌≢◌, ℕ, ◌+◌, ◌*◌, ◌/◌, ◌%◌, ◌<◌, ◌≤◌, false, eqb, leb, List, set, get_or, length, refl, sym, ap, ◌∙◌, subst, arith, ◌⊎◌, inl, inr, ⊎_elim, length-set, get_or-set_same}
use Rattle.std.proofs.lemmas.List.{get_or-set_other}
use native.Mathlib.Decide.{ℕ_discrete}
use mathlib.Core.Logic.{dite}
use mathlib.Core.Option.{some}
use lib.ListN.{get_elem?}
use Rattle.std.specs.Prelude.{sum_by}
use Rattle.claim_board.specs.Counts.{one_if, times_in_list, times_first}
use Rattle.claim_board.specs.Protocol.{PassState, BoardState, DrewNumber, SawWord, WonTask, LostTask, steps_of, drawn, looked, winning, losing, of_task, IsOpen, IsInOrder, IsGoodPass, IsGood, Event, Draw, Look, Win, Lose, Step}
use Rattle.std.proofs.lemmas.List.Elements.{All-push}
use Rattle.std.proofs.lemmas.List.Sums.{sum_by_push}
use Rattle.claim_board.proofs.Totals.{total_up, all_set, all_at, all_map, at_test}
use Rattle.claim_board.proofs.Placing.{order_more}

-- a word that is not 0 stays
abbrev pub Stay : List ℕ → List ℕ → Type 0
Stay old new = (t : ℕ) → get_or old t 0 ≢ 0 → get_or new t 0 ≡ get_or old t 0

pub stay_set : (words : List ℕ) (t a : ℕ) → get_or words t 0 ≡ 0 → Stay words (set words t a)
stay_set words t a empty u full =
    get_or-set_other words t u a 0 (λ e. full (ap (λ (k : ℕ). get_or words k 0) e ∙ empty))

module _ (tasks tries : ℕ) where
  pass_stays : (old new : List ℕ) (v : PassState) → Stay old new → IsGoodPass tasks tries old v
      → IsGoodPass tasks tries new v
  pass_stays old new v stay h = record {
    ends = h.ends;
    won = all_map (λ d. (d < tasks * tries) × (get_or old (d % tasks) 0 ≡ d / tasks + 1))
        (λ d. (d < tasks * tries) × (get_or new (d % tasks) 0 ≡ d / tasks + 1)) v.won
        (λ d k. (k.0, stay (d % tasks) (λ z. absurd (omega arith)) ∙ k.1)) h.won;
    lost = all_map (λ (x : ℕ × ℕ). (x.0 < tasks * tries) × (get_or old (x.0 % tasks) 0 ≡ x.1)
        × (x.1 ≢ 0)) (λ (x : ℕ × ℕ). (x.0 < tasks * tries) × (get_or new (x.0 % tasks) 0 ≡ x.1)
        × (x.1 ≢ 0)) v.lost (λ x k. (k.0, stay (x.0 % tasks) (λ z. k.2 (sym k.1 ∙ z)) ∙ k.1, k.2))
        h.lost;
    seen = all_map (λ (x : ℕ × ℕ). (x.0 < tasks) × ((x.1 ≡ 0) ⊎ (get_or old x.0 0 ≡ x.1)))
        (λ (x : ℕ × ℕ). (x.0 < tasks) × ((x.1 ≡ 0) ⊎ (get_or new x.0 0 ≡ x.1))) v.seen
        (λ x k. (
          k.0,
          ⊎_elim (λ (z : x.1 ≡ 0). inl z)
              (λ (e : get_or old x.0 0 ≡ x.1). dite (ℕ_discrete x.1 0) (λ z. inl z)
              (λ n. inr (stay x.0 (λ z. n (sym e ∙ z)) ∙ e))) k.1,
        )) h.seen;
    own = h.own;
  }

  draw_pass : (words : List ℕ) (v : PassState) (n d : ℕ) → v.ended ≡ false
      → IsGoodPass tasks tries words v → IsGoodPass tasks tries words (drawn (tasks * tries) v n d)
  draw_pass words v n d may h = record {
    ends = (let p = sum_by_push (λ (x : ℕ). one_if (leb (tasks * tries) x)) v.draws d in
        let z : one_if v.ended ≡ 0 = ap one_if may in let e = h.ends in omega arith);
    won = h.won;
    lost = h.lost;
    seen = h.seen;
    own = λ x. let p = sum_by_push (λ (y : ℕ). one_if (eqb y x)) v.draws d in let o = h.own x in
        omega arith;
  }

  look_pass : (words : List ℕ) (v : PassState) (n t : ℕ) → t < tasks
      → IsGoodPass tasks tries words v
      → IsGoodPass tasks tries words (looked v n t (get_or words t 0))
  look_pass words v n t small h = record {
    ends = h.ends;
    won = h.won;
    lost = h.lost;
    seen = All-push (λ (x : ℕ × ℕ). (x.0 < tasks) × ((x.1 ≡ 0) ⊎ (get_or words x.0 0 ≡ x.1))) v.seen
        (t, get_or words t 0) h.seen (small, inr refl);
    own = h.own;
  }

  win_pass : (words : List ℕ) (v : PassState) (n d : ℕ) → IsOpen tasks tries v d
      → get_or words (d % tasks) 0 ≡ d / tasks + 1 → IsGoodPass tasks tries words v
      → IsGoodPass tasks tries words (winning v n d)
  win_pass words v n d may is h = record {
    ends = h.ends;
    won = All-push (λ d. (d < tasks * tries) × (get_or words (d % tasks) 0 ≡ d / tasks + 1)) v.won d
        h.won (may.1, is);
    lost = h.lost;
    seen = h.seen;
    own = λ x. let p = sum_by_push (λ (y : ℕ). one_if (eqb y x)) v.won d in let o = h.own x in
        let F : ℕ → Type 0 =
        λ n. times_in_list x v.won + n + times_first x v.lost ≤ times_in_list x v.draws in
        let q : F (one_if (eqb d x)) = at_test d x F
        (λ e. subst (λ y. times_in_list y v.won + 1 + times_first y v.lost ≤ times_in_list y
        v.draws) e
        (let a = may.0 in let b = may.2 in let c = may.3 in omega arith))
        (λ n. omega arith) in omega arith;
  }

  lose_pass : (words : List ℕ) (v : PassState) (n d : ℕ) → IsOpen tasks tries v d
      → get_or words (d % tasks) 0 ≢ 0 → IsGoodPass tasks tries words v
      → IsGoodPass tasks tries words (losing v n d (get_or words (d % tasks) 0))
  lose_pass words v n d may full h = record {
    ends = h.ends;
    won = h.won;
    lost = All-push (λ (x : ℕ × ℕ). (x.0 < tasks * tries) × (get_or words (x.0 % tasks) 0 ≡ x.1)
        × (x.1 ≢ 0)) v.lost (d, get_or words (d % tasks) 0) h.lost (may.1, refl, full);
    seen = h.seen;
    own = λ x. let p = sum_by_push (λ (y : ℕ × ℕ). one_if (eqb y.0 x)) v.lost
        (d, get_or words (d % tasks) 0) in let o = h.own x in
        let F : ℕ → Type 0 =
        λ n. times_in_list x v.won + times_first x v.lost + n ≤ times_in_list x v.draws in
        let q : F (one_if (eqb d x)) = at_test d x F
        (λ e. subst (λ y. times_in_list y v.won + times_first y v.lost + 1 ≤ times_in_list y
        v.draws) e
        (let a = may.0 in let b = may.2 in let c = may.3 in omega arith))
        (λ n. omega arith) in omega arith;
  }

  draw_good : (s : BoardState) (p : ℕ) (v : PassState) → IsGood tasks tries s
      → get_elem? s.passes p
      ≡ some v → v.ended ≡ false
      → IsGood tasks tries record {
        next = s.next + 1;
        words = s.words;
        passes =
            set s.passes p (drawn (tasks * tries) v (steps_of s.passes) s.next);
      }
  draw_good s p v h at may =
      let w = drawn (tasks * tries) v (steps_of s.passes) s.next in record {
        sized = h.sized;
        each_once = λ d. let f : PassState → ℕ = λ u. times_in_list d u.draws in
            let up = total_up f s.passes p (one_if (eqb s.next d)) v w at
            (sum_by_push (λ (x : ℕ). one_if (eqb x d)) v.draws s.next) in
            let before = h.each_once d in
            let F : ℕ → Type 0 = λ n. (d < s.next + 1 → sum_by f s.passes + n ≡ 1)
            × (s.next + 1 ≤ d → sum_by f s.passes + n ≡ 0) in
            let q : F (one_if (eqb s.next d)) = at_test s.next d F
            (λ e. ((λ _. let z = before.1 (omega arith) in omega arith), λ l. absurd (omega arith)))
            (λ n. (
              (λ l. let z = before.0 (omega arith) in omega arith),
              λ l. let z =
                  before.1 (omega arith) in omega arith,
            )) in
            ((λ l. up ∙ q.0 l), λ l. up ∙ q.1 l);
        one_winner = λ t small. let same =
            total_up (λ (u : PassState). of_task tasks t u.won) s.passes p 0 v w at (omega arith) in
            let o = h.one_winner t small in
            ((λ z. let r = o.0 z in omega arith), λ n. let r = o.1 n in omega arith);
        passes = all_set (IsGoodPass tasks tries s.words) s.passes p w h.passes
            (draw_pass s.words v (steps_of s.passes) s.next may
            (all_at (IsGoodPass tasks tries s.words) s.passes p v h.passes at));
        order = order_more tasks tries s p v w (DrewNumber s.next) (s.next + 1) s.words h.order at
            refl
            (refl, refl, refl);
      }

  -- a step that changes neither the draws nor the won ones, nor a word
  still_good : (s : BoardState) (p : ℕ) (v w : PassState) → IsGood tasks tries s
      → get_elem? s.passes p ≡ some v → w.draws ≡ v.draws → w.won ≡ v.won
      → IsGoodPass tasks tries s.words w
      → IsInOrder tasks tries record { next = s.next; words = s.words; passes = set s.passes p w }
      → IsGood tasks tries record { next = s.next; words = s.words; passes = set s.passes p w }
  still_good s p v w h at draws won good order = record {
    sized = h.sized;
    each_once =
        λ d. let same = total_up (λ (u : PassState). times_in_list d u.draws) s.passes p 0 v w at
        (let e : times_in_list d w.draws ≡ times_in_list d v.draws = ap (times_in_list d) draws in
        omega arith) in let o =
        h.each_once d in
        ((λ z. let r = o.0 z in omega arith), λ n. let r = o.1 n in omega arith);
    one_winner = λ t small. let same =
        total_up (λ (u : PassState). of_task tasks t u.won) s.passes p 0 v w at
        (let e : of_task tasks t w.won
        ≡ of_task tasks t v.won = ap (of_task tasks t) won in omega arith) in let o =
        h.one_winner t small in
        ((λ z. let r = o.0 z in omega arith), λ n. let r = o.1 n in omega arith);
    passes = all_set (IsGoodPass tasks tries s.words) s.passes p w h.passes good;
    order = order;
  }

  win_good : (s : BoardState) (p : ℕ) (v : PassState) (d : ℕ) → 0 < tasks → IsGood tasks tries s
      → get_elem? s.passes p ≡ some v → IsOpen tasks tries v d → get_or s.words (d % tasks) 0 ≡ 0
      → IsGood tasks tries record {
        next = s.next;
        words =
            set s.words (d % tasks) (d / tasks + 1);
        passes = set s.passes p (winning v (steps_of s.passes) d);
      }
  win_good s p v d some_task h at may empty =
      let w = winning v (steps_of s.passes) d in
      let t : ℕ = d % tasks in let a : ℕ = d / tasks + 1 in
      let new : List ℕ = set s.words t a in
      let size = h.sized in
      let inside : t < length s.words = omega arith in
      let is : get_or new t 0 ≡ a = get_or-set_same s.words t a 0 inside in
      let stay = stay_set s.words t a empty in record {
        sized = length-set s.words t a ∙ h.sized;
        each_once =
            λ x. let same = total_up (λ (u : PassState). times_in_list x u.draws) s.passes p 0 v w
            at (omega arith) in let o = h.each_once x in
            ((λ z. let r = o.0 z in omega arith), λ n. let r = o.1 n in omega arith);
        one_winner = λ u small. let f : PassState → ℕ = λ k. of_task tasks u k.won in
            let up = total_up f s.passes p (one_if (eqb t u)) v w at
            (sum_by_push (λ (x : ℕ). one_if (eqb (x % tasks) u)) v.won d) in
            let before = h.one_winner u small in
            let F : ℕ → Type 0 = λ n. (get_or new u 0 ≡ 0 → sum_by f s.passes + n ≡ 0)
            × (get_or new u 0 ≢ 0 → sum_by f s.passes + n ≡ 1) in
            let q : F (one_if (eqb t u)) = at_test t u F
            (λ e. let here : get_or new u 0 ≡ a = ap (λ (k : ℕ). get_or new k 0) (sym e)
            ∙ is in let none : get_or s.words u 0
            ≡ 0 = ap (λ (k : ℕ). get_or s.words k 0) (sym e) ∙ empty in
            ((λ z. absurd (omega arith)), λ _. let z = before.0 none in omega arith))
            (λ n. let other : get_or new u 0
            ≡ get_or s.words u 0 = get_or-set_other s.words t u a 0 (λ e. n (sym e)) in (
              (λ z. let r = before.0 (sym other ∙ z) in omega arith),
              λ m. let r =
                  before.1 (λ z. m (other ∙ z)) in omega arith,
            )) in
            ((λ z. up ∙ q.0 z), λ m. up ∙ q.1 m);
        passes = all_set (IsGoodPass tasks tries new) s.passes p w
            (all_map (IsGoodPass tasks tries s.words) (IsGoodPass tasks tries new) s.passes
            (λ u g. pass_stays s.words new u stay g) h.passes)
            (win_pass new v (steps_of s.passes) d may is (pass_stays s.words new v stay
            (all_at (IsGoodPass tasks tries s.words) s.passes p v h.passes at)));
        order = order_more tasks tries s p v w (WonTask d) s.next new h.order at refl
            (empty, refl, refl);
      }

  pub step_keeps : (old new : BoardState) (e : Event) → 0 < tasks → Step tasks tries old e new
      → IsGood tasks tries old → IsGood tasks tries new
  step_keeps old new (Draw p) some_task s h =
      subst (IsGood tasks tries) (sym s.3) (draw_good old p s.0 h s.1 s.2)
  step_keeps old new (Look p t) some_task s h =
      subst (IsGood tasks tries) (sym s.3)
      (still_good old p s.0 _ h s.1 refl refl
      (look_pass old.words s.0 (steps_of old.passes) t s.2
      (all_at (IsGoodPass tasks tries old.words) old.passes p s.0 h.passes s.1))
      (order_more tasks tries old p s.0
      (looked s.0 (steps_of old.passes) t (get_or old.words t 0))
      (SawWord t (get_or old.words t 0)) old.next old.words h.order s.1 refl (refl, refl, refl)))
  step_keeps old new (Win p d) some_task s h =
      subst (IsGood tasks tries) (sym s.4) (win_good old p s.0 d some_task h s.1 s.2 s.3)
  step_keeps old new (Lose p d) some_task s h =
      subst (IsGood tasks tries) (sym s.4)
      (still_good old p s.0 _ h s.1 refl refl
      (lose_pass old.words s.0 (steps_of old.passes) d s.2 s.3
      (all_at (IsGoodPass tasks tries old.words) old.passes p s.0 h.passes s.1))
      (order_more tasks tries old p s.0
      (losing s.0 (steps_of old.passes) d (get_or old.words (d % tasks) 0))
      (LostTask d (get_or old.words (d % tasks) 0)) old.next old.words h.order s.1 refl
      (refl, s.3, refl, refl)))
