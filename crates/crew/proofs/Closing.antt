-- What the passes of a board are at its start, and what they have told where it is closed.
use Rattle.std.proofs.Common.{◌≡◌, ◌≢◌, ℕ, zero, suc, ◌+◌, ◌-◌, ◌*◌, ◌%◌, ◌<◌, ◌≤◌, Bool, true, false, eqb, ltb, cond, List, [], ◌∷◌, map, take, drop, ◌++◌, length, refl, sym, ap, ◌∙◌, subst, arith, mul_comm, true≢false}
use Rattle.std.specs.Prelude.{All, sum_by}
use Rattle.std.specs.List.{filter}
use Rattle.std.proofs.lemmas.List.{length-map}
use Rattle.std.proofs.lemmas.Bool.Decides.{Decides-ltb}
use Rattle.std.proofs.lemmas.List.Elements.{All-nil, All-cons, All-head, All-tail, All-append}
use Rattle.std.proofs.lemmas.List.Sums.{sum_by-cons, sum_by-append}
use Rattle.std.proofs.Math.Nat.{mul-le-mul_right}
use Rattle.std.proofs.Common.{suc-mul, length-append}
use Rattle.claim_board.specs.Counts.{one_if}
use Rattle.claim_board.specs.Protocol.{PassState, pass_begun, of_task, IsGood}
use Rattle.claim_board.specs.Boards.{Board, Pass, Passes, Tally, states_of, AreOfBoard, fresh_passes, new_passes}
use Rattle.claim_board.specs.Told.{closing_state}
use Rattle.crew.specs.declared.kept.KeptOut.{KeptOut}
use Rattle.outside.specs.Accounts.{Account}
use Rattle.crew.specs.Workers.{IsFresh, CanStart, wons}
use Rattle.crew.proofs.Lists.{lent_back, one_if_ne}
use Rattle.crew.proofs.InOrder.{outs_of, outs_of-cons}

-- the passes of a new board are its own, have done nothing, and are as many as its crew
fresh_are_of : (b : Board) (n : ℕ) → AreOfBoard b (fresh_passes b n)
fresh_are_of b zero = All-nil (λ (p : Pass). p.board ≡ b)
fresh_are_of b (suc n) =
    let Q : Pass → Type 0 = λ p. p.board ≡ b in
    All-append Q (fresh_passes b n) (record { board = b; state = pass_begun n } ∷ [])
    (fresh_are_of b n)
    (All-cons Q _ [] refl (All-nil Q))

fresh_done_nothing : (b : Board) (n : ℕ)
    → All (λ p. IsFresh p.state) (fresh_passes b n)
fresh_done_nothing b zero = All-nil (λ (p : Pass). IsFresh p.state)
fresh_done_nothing b (suc n) =
    let Q : Pass → Type 0 = λ p. IsFresh p.state in
    All-append Q (fresh_passes b n) (record { board = b; state = pass_begun n } ∷ [])
    (fresh_done_nothing b n)
    (All-cons Q _ [] (record { won = refl; draws = refl; seen = refl; deeds = refl }) (All-nil Q))

length_fresh : (b : Board) (n : ℕ) → length (fresh_passes b n) ≡ n
length_fresh b zero = refl
length_fresh b (suc n) =
    let r = length_fresh b n in
    omega (
      arith,
      length-append (fresh_passes b n) (record { board = b; state = pass_begun n } ∷
          []),
    )

pub can_start : (b : Board) (count tries hosts : ℕ) (ps : List Pass) → ps ≡ fresh_passes b b.crew
    → b.tasks ≡ count → b.tries ≡ tries → b.crew ≡ hosts → 0 < count → 0 < hosts
    → CanStart b count tries hosts ps
can_start b count tries hosts ps is tasks try crew some_task some_host =
    let len : length ps ≡ b.crew = ap length is ∙ length_fresh b b.crew in record {
      board = subst (AreOfBoard b) (sym is) (fresh_are_of b b.crew);
      fresh = subst (All (λ (p : Pass). IsFresh p.state)) (sym is)
          (fresh_done_nothing b b.crew);
      passes = (omega arith, omega arith);
      tasks = (tasks, some_task);
      tries = try;
    }

-- a board is closed with the passes that its workers, to whom they were lent, gave back
module _ (b : Board) (ps : Passes) (lent new : List Pass) (fresh : ps ≡ new_passes b)
    (all : lent ≡ ps.members) (same : length new ≡ length lent) where
  abbrev Back : List Pass
  Back = take (length ps.members) (new ++ drop (length new) ps.members)

  back_is : Back ≡ new
  back_is = lent_back (length ps.members) ps.members new (same ∙ ap length all)

  pub as_many : length new ≡ b.crew
  as_many =
      same ∙ ap length all ∙ ap (λ (x : Passes). length x.members) fresh ∙ length_fresh b b.crew

  pub can_close : AreOfBoard b new → AreOfBoard b Back × (length Back ≡ b.crew)
  can_close are = (subst (AreOfBoard b) (sym back_is) are, ap length back_is ∙ as_many)

  module _ (told : Tally) {H : Type 0} (account : H → Account) (hosts : List H)
      {tasks tries count most : ℕ}
      (size : (b.tasks ≡ tasks) × (b.tries ≡ tries) × (b.crew ≡ length hosts))
      (of_tasks : tasks ≡ count) (of_tries : tries ≡ most)
      (good : IsGood b.tasks b.tries (closing_state told Back)) where
    pub closed_well : IsGood count most (closing_state told new)
        × (length (states_of new) ≡ length (map account hosts)) × (length new ≡ length hosts)
    closed_well = (
      subst (λ (x : ℕ × ℕ × List Pass). IsGood x.0 x.1 (closing_state told x.2))
          (λ i. ((size.0 ∙ of_tasks) i, (size.1 ∙ of_tries) i, back_is i)) good,
      length-map new (λ (p : Pass). p.state) ∙ as_many ∙ size.2 ∙ sym (length-map hosts account),
      as_many ∙ size.2,
    )

-- the draws of a task that passes have won
pub wins_of_all : (tasks t : ℕ) (ps : List Pass)
    → sum_by (λ (q : PassState). of_task tasks t q.won) (states_of ps) ≡ of_task tasks t (wons ps)
wins_of_all tasks t [] = refl
wins_of_all tasks t (p ∷ ps) =
    let r = wins_of_all tasks t ps in
    omega (
      arith,
      sum_by-cons (λ (q : PassState). of_task tasks t q.won) p.state (states_of ps),
      sum_by-append (λ (d : ℕ). one_if (eqb (d % tasks) t)) p.state.won (wons ps),
    )

pub all_wons : (P : ℕ → Type 0) (ps : List Pass) → All (λ q. All P q.won) (states_of ps)
    → All P (wons ps)
all_wons P [] h = All-nil P
all_wons P (p ∷ ps) h =
    let Q : PassState → Type 0 = λ q. All P q.won in
    All-append P p.state.won (wons ps) (All-head Q p.state (states_of ps) h)
    (all_wons P ps (All-tail Q p.state (states_of ps) h))

pub inside_limit : (tasks tries t k : ℕ) → t < tasks → k < tries → k * tasks + t < tasks * tries
inside_limit tasks tries t k small few =
    let below : suc k * tasks ≤ tries * tasks = mul-le-mul_right tasks few in
    let turned : tries * tasks ≡ tasks * tries = mul_comm tries tasks in
    let more : suc k * tasks ≡ k * tasks + tasks = suc-mul k tasks in omega arith

-- only the smaller tasks
pub outs_of_filter : {O : Type 0} (t task : ℕ) → t < task → (ks : List (KeptOut O))
    → outs_of t (filter (λ k. ltb k.task task) ks) ≡ outs_of t ks
outs_of_filter t task l [] = refl
outs_of_filter {O} t task l (k ∷ ks) =
    go (ltb k.task task) refl (outs_of_filter t task l ks) ∙ sym (outs_of-cons t k ks)
  where
    go : (b : Bool) → ltb k.task task ≡ b
        → outs_of t (filter (λ (j : KeptOut O). ltb j.task task) ks) ≡ outs_of t ks
        → outs_of t (cond b (k ∷ filter (λ (j : KeptOut O). ltb j.task task) ks)
        (filter (λ (j : KeptOut O). ltb j.task task) ks))
        ≡ one_if (eqb k.task t) + outs_of t ks
    go true is r =
        outs_of-cons t k (filter (λ (j : KeptOut O). ltb j.task task) ks)
        ∙ ap (λ (n : ℕ). one_if (eqb k.task t) + n) r
    go false is r =
        let z : one_if (eqb k.task t) ≡ 0 =
        one_if_ne k.task t (λ e. true≢false (sym ((Decides-ltb k.task task).1
        (subst (λ (x : ℕ). x < task) (sym e) l)) ∙ is)) in omega arith
