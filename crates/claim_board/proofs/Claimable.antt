-- A draw that may claim its task still may after other steps of its pass.
use Rattle.std.proofs.Common.{◌≡◌, ◌≢◌, ℕ, ◌+◌, ◌-◌, ◌*◌, ◌/◌, ◌%◌, ◌<◌, Bool, true, false, eqb, List, [], ◌∷◌, sym, ap, ◌∙◌, subst, arith, ⊎_elim, div-add-mod'}
use Rattle.std.specs.Bool.{MatchBool}
use Rattle.std.proofs.lemmas.Bool.Decides.{eqb_tells}
use Rattle.std.proofs.lemmas.List.Elements.{All-head, All-tail}
use Rattle.std.specs.Prelude.{All}
use Rattle.claim_board.specs.Counts.{one_if, times_in_list}
use Rattle.claim_board.specs.Protocol.{PassState, task_of, attempt_of, drawn, looked, winning, losing}
use Rattle.claim_board.specs.Boards.{Board, Drawn, IsOpenDraw, Saw, HasWon, HasLost, KeepsClaims, KeepsOtherClaims}
use Rattle.claim_board.specs.Told.{draw_of}
use Rattle.claim_board.specs.Seats.{limit_at}
use Rattle.claim_board.specs.inner.Seats.{Seated, Steps, Drawing, Looking, Claiming, pass_in}
use Rattle.std.proofs.lemmas.List.Sums.{sum_by_push}
use Rattle.claim_board.proofs.Totals.{one_if_ne, times-cons}

module _ (b : Board) (p : PassState) (d : Drawn) (h : IsOpenDraw b p d) where
  claimable_after_draw : (most m n : ℕ) → IsOpenDraw b (drawn most p m n) d
  claimable_after_draw most m n =
      let c = h.claimable in
      let more = sum_by_push (λ (x : ℕ). one_if (eqb x d.number)) p.draws n in
      record {
        claimable = ((let own = c.0 in omega arith), c.1, c.2, c.3);
        task = h.task;
        attempt =
            h.attempt;
      }

  claimable_after_look : (m t x : ℕ) → IsOpenDraw b (looked p m t x) d
  claimable_after_look m t x = record {
    claimable = h.claimable;
    task = h.task;
    attempt = h.attempt;
  }

  claimable_after_win : (m n : ℕ) → n ≢ d.number → IsOpenDraw b (winning p m n) d
  claimable_after_win m n other =
      let c = h.claimable in
      let more = sum_by_push (λ (x : ℕ). one_if (eqb x d.number)) p.won n in
      let none = one_if_ne n d.number other in
      record {
        claimable = (c.0, c.1, (let won = c.2 in omega arith), c.3);
        task = h.task;
        attempt =
            h.attempt;
      }

  claimable_after_loss : (m n x : ℕ) → n ≢ d.number → IsOpenDraw b (losing p m n x) d
  claimable_after_loss m n x other =
      let c = h.claimable in
      let more = sum_by_push (λ (y : ℕ × ℕ). one_if (eqb y.0 d.number)) p.lost (n, x) in
      let none = one_if_ne n d.number other in
      record {
        claimable = (c.0, c.1, c.2, (let lost = c.3 in omega arith));
        task =
            h.task;
        attempt = h.attempt;
      }

-- whatever a draw finds
pub draw_keeps : (b : Board) (m w : Seated) (old : PassState) (n : ℕ) → pass_in m.0 ≡ old
    → Steps m w (λ k p q. Drawing k p n q) → KeepsClaims b old (pass_in w.0)
draw_keeps b m w old n is goes d h =
    subst (λ (r : PassState). IsOpenDraw b r d) (sym goes.1.0.2)
    (claimable_after_draw b (pass_in m.0) d
    (subst (λ (r : PassState). IsOpenDraw b r d) (sym is) h) (limit_at m.0.size) goes.1.0.0 n)

-- whatever a look finds
pub look_keeps : (b : Board) (m w : Seated) (old : PassState) (t x : ℕ) → pass_in m.0 ≡ old
    → Steps m w (λ k p q. Looking k p t x q) → KeepsClaims b old (pass_in w.0)
look_keeps b m w old t x is goes d h =
    let saw : Saw (pass_in m.0) (pass_in w.0) t x = goes.1.0 in
    subst (λ (r : PassState). IsOpenDraw b r d) (sym saw.gained)
    (claimable_after_look b (pass_in m.0) d (subst (λ (r : PassState). IsOpenDraw b r d) (sym is) h)
    saw.place t x)

-- the draw that an attempt of a task names
named_draw : (tasks d t a : ℕ) → t ≡ task_of tasks d → a ≡ attempt_of tasks d
    → draw_of tasks (t + 1 - 1) a ≡ d
named_draw tasks d t a at by =
    let x : t + 1 - 1 ≡ t = omega arith in let y : a - 1 ≡ d / tasks = omega arith in
    ap (λ (z : ℕ). (a - 1) * tasks + z) (x ∙ at)
    ∙ (ap (λ (z : ℕ). z * tasks + d % tasks) y ∙ div-add-mod' d tasks)

-- whatever a claim finds
claim_keeps : (b : Board) (p q : PassState) (found n : ℕ)
    → MatchBool (eqb found 0) (HasWon p q n) (HasLost p q n found) → KeepsOtherClaims b p q n
claim_keeps b p q found n goes d other h = ⊎_elim
    (λ (y : (eqb found 0 ≡ true) × (found ≡ 0)).
    let won : HasWon p q n =
    subst (λ (x : Bool). MatchBool x (HasWon p q n) (HasLost p q n found)) y.0 goes in
    subst (λ (r : PassState). IsOpenDraw b r d) (sym won.gained)
    (claimable_after_win b p d h won.place n other))
    (λ (y : (eqb found 0 ≡ false) × (found ≢ 0)).
    let lost : HasLost p q n found =
    subst (λ (x : Bool). MatchBool x (HasWon p q n) (HasLost p q n found)) y.0 goes in
    subst (λ (r : PassState). IsOpenDraw b r d) (sym lost.gained)
    (claimable_after_loss b p d h lost.place n found other))
    (eqb_tells found 0)

pub commit_keeps : (b : Board) (m w : Seated) (old : PassState) (found t a n : ℕ) → pass_in m.0
    ≡ old → m.0.size.tasks ≡ b.tasks → t ≡ task_of b.tasks n → a ≡ attempt_of b.tasks n
    → Steps m w (λ k p q. Claiming k p (draw_of k.tasks (t + 1 - 1) a) found q)
    → KeepsOtherClaims b old (pass_in w.0) n
commit_keeps b m w old found t a n is size task attempt goes =
    let named : draw_of m.0.size.tasks (t + 1 - 1) a
    ≡ n = ap (λ (k : ℕ). draw_of k (t + 1 - 1) a) size
    ∙ named_draw b.tasks n t a task attempt in
    subst (λ (x : PassState × ℕ). KeepsOtherClaims b x.0 (pass_in w.0) x.1) (λ i. (is i, named i))
    (claim_keeps b (pass_in m.0) (pass_in w.0) found (draw_of m.0.size.tasks (t + 1 - 1) a)
    goes.1.0)
