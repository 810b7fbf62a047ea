-- The steps of a board are the core's.
use Rattle.std.proofs.Common.{◌≡◌, ℕ, ◌+◌, ◌/◌, ◌%◌, ◌<◌, ◌≤◌, true, false, leb, ⊎_elim, List, set, get_or, length, refl, sym, ap, ◌∙◌, subst, arith, length-set}
use Rattle.std.proofs.lemmas.Bool.Decides.{leb_tells}
use mathlib.Core.Option.{some}
use lib.ListN.{get_elem?}
use Rattle.claim_board.specs.declared.size.Size.{Size}
use Rattle.claim_board.specs.Counts.{one_if}
use Rattle.claim_board.specs.Protocol.{BoardState, PassState, drawn, looked, winning, losing, Event, Draw, Look, Win, Lose, Step}
use Rattle.claim_board.specs.Seats.{limit_at, pass_view, all_passes, task_words, state_of, Rule}
use Rattle.claim_board.specs.Steps.{next_place, StepsTo, DrawSteps, LookSteps, WinSteps, LoseSteps, MakeSteps, JoinSteps}
use Rattle.claim_board.proofs.Ruling.{Goes, StaysLow, Tab, place, next_set, rest_set_next, next_set_rest, rest_set, rest_at, pass_step}
use Rattle.claim_board.proofs.Seating.{makes, joins}

-- the rule and the step, from the step alone
leads : (k : Size) (s : Tab) (id : ℕ) (p q : PassState) (ws : List ℕ) (e : ℕ → Event)
    → Rule k s → get_elem? s.views id ≡ some (pass_view k p) → q.number ≡ p.number
    → length ws ≡ length s.words → Goes k s p q ws e → StaysLow k s p q ws
    → StepsTo k s id p ws q e
leads k s id p q ws e h at number size goes room =
    let pl = place s.views id (pass_view k p) p at refl in (
      pass_step k s id p q ws e h at number size goes room,
      (
        pl.0,
        pl.1,
        subst (λ (l : List PassState). Step k.tasks k.tries (state_of s.words s.views)
            (e pl.0) record { next = get_or ws 0 0; words = task_words ws; passes = l })
            (sym (pl.2 (pass_view k q) q refl)) (goes pl.0 pl.1),
      ),
    )

room_after : (n l x y : ℕ) → n ≤ l + x → y + 0 ≡ x + one_if (leb l n) → n + 1 ≤ l + y
room_after n l x y before change =
    ⊎_elim (λ (t : (leb l n ≡ true) × (l ≤ n)). let z : one_if (leb l n)
    ≡ 1 = ap one_if t.0 in omega arith) (λ (t : (leb l n ≡ false) × (n < l)). omega arith)
    (leb_tells l n)

pub draw_steps : DrawSteps
draw_steps k s id p h at going =
    let n : ℕ = get_or s.words 0 0 in let q : PassState = drawn (limit_at k) p (next_place s) n in
    let ws : List ℕ = set s.words 0 (n + 1) in
    let wide = h.wide in
    let next = next_set s.words (n + 1) (omega arith) in let rest = rest_set_next s.words (n + 1) in
    let not_yet : one_if p.ended ≡ 0 = ap one_if going in
    leads k s id p q ws (λ j. Draw j) h at refl (length-set s.words 0 _)
    (λ j e. (
      p,
      e,
      going,
      λ i. record
          { next = next i; words = rest i; passes = set (all_passes s.views) j q },
    ))
    (λ x y before change. subst (λ (z : ℕ). z ≤ limit_at k + y) (sym next)
    (room_after n (limit_at k) x y before
    (subst (λ (z : ℕ). y + z ≡ x + one_if (leb (limit_at k) n)) not_yet change)))

-- the protocol's state where the words stay and a pass becomes q
abbrev with_pass : Tab → ℕ → PassState → BoardState
with_pass s j q = record {
  next = get_or s.words 0 0;
  words = task_words s.words;
  passes = set (all_passes s.views) j q;
}

pub look_steps : LookSteps
look_steps t k s id p h at small =
    leads k s id p (looked p (next_place s) t (get_or s.words (t + 1) 0)) s.words (λ j. Look j t) h
    at refl refl
    (λ j e. (
      p,
      e,
      small,
      ap (λ n. with_pass s j (looked p (next_place s) t n)) (sym (rest_at s.words t)),
    ))
    (λ x y before change. omega arith)

pub win_steps : WinSteps
win_steps d k s id p h at may =
    let t : ℕ = d % k.tasks in let a : ℕ = d / k.tasks + 1 in let ws : List ℕ =
    set s.words (t + 1) a in
    let next = next_set_rest s.words t a in let rest = rest_set s.words t a in
    leads k s id p (winning p (next_place s) d) ws (λ j. Win j d) h at refl
    (length-set s.words (t + 1) a)
    (λ j e. (
      p,
      e,
      may.0,
      rest_at s.words t
          ∙ may.1,
      λ i. record {
        next = next i;
        words = rest i;
        passes =
            set (all_passes s.views) j (winning p (next_place s) d);
      },
    ))
    (λ x y before change. subst (λ (z : ℕ). z ≤ limit_at k + y) (sym next) (omega arith))

pub lose_steps : LoseSteps
lose_steps d k s id p h at may =
    let t : ℕ = d % k.tasks in let n : ℕ = get_or s.words (t + 1) 0 in
    leads k s id p (losing p (next_place s) d n) s.words (λ j. Lose j d) h at refl refl
    (λ j e. (
      p,
      e,
      may.0,
      (λ z. may.1 (sym (rest_at s.words t) ∙ z)),
      ap (λ n. with_pass s j (losing p (next_place s) d n)) (sym (rest_at s.words t)),
    ))
    (λ x y before change. omega arith)

pub make_steps : MakeSteps
make_steps = makes

pub join_steps : JoinSteps
join_steps = joins
