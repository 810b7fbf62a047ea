-- The outs that a crew has kept, by the numbers of their tasks.
use Rattle.std.proofs.Common.{◌≡◌, ℕ, zero, suc, ◌<◌, ◌≤◌, List, [], ◌∷◌, ◌++◌, length, map, Option, Some, None, Result, Ok, Err, refl, sym, ap, ◌∙◌, subst, arith, append-nil}
use Rattle.std.specs.Prelude.{slice_get, slice_index, All}
use Rattle.std.specs.Option.{option_map}
use Rattle.std.proofs.lemmas.List.{length-map}
use Rattle.std.proofs.lemmas.Option.{get_or_from_slice_get, none-some, same_Some, slice_get-map, slice_get_within}
use Rattle.claim_board.specs.Protocol.{BoardState, word_of_task}
use Rattle.flume_collection.specs.declared.trap.Trap.{Trap}
use Rattle.crew.specs.declared.kept.KeptOut.{KeptOut}
use Rattle.crew.specs.Drills.{Settings}
use Rattle.outside.specs.Accounts.{Account}
use Rattle.crew.specs.Hosts.{SomeHost}
use Rattle.crew.specs.Outs.{IsOut, RanOn}
use Rattle.crew.specs.Phases.{AreWinnersOuts, IsClosed, IsWork, Settled, Unsettled}
use Rattle.crew.specs.Work.{HaveWorked}
use Rattle.crew.proofs.Fronts.{whole_so_far}
use Rattle.phase_outs.specs.declared.made.PhaseOuts.{PhaseOuts}
use Rattle.phase_outs.specs.declared.stop.PhaseStop.{PhaseStop}
use Rattle.phase_outs.specs.declared.stop.PhaseStop.TheVariants as stop
use Rattle.phase_outs.specs.inner.Made.{AreMadeOf, IsFirstTrap, IsTrapped, outs_in}
use Rattle.phase_outs.specs.Outs.{HaveMadeOuts, AreMadeBelow, HasComeTo, HasMade, HasRun, IsStop}

-- what f gives of an element is that of some element
from_map : {A B : Type 0} (f : A → B) (o : Option A) (b : B) → option_map f o ≡ Some b
    → (a : A) × (o ≡ Some a) × (f a ≡ b)
from_map f None b e = absurd (none-some b e)
from_map f (Some a) b e = (a, refl, same_Some (f a) b e)

at_map : {A B : Type 0} (f : A → B) (xs : List A) (k : ℕ) (b : B)
    → slice_get (map f xs) k ≡ Some b → (a : A) × (slice_get xs k ≡ Some a) × (f a ≡ b)
at_map f xs k b e = from_map f (slice_get xs k) b (sym (slice_get-map f xs k) ∙ e)

-- what stands at a place of the first of two lists
at_first : {A : Type 0} (xs ys : List A) (k : ℕ) (a : A) → slice_get xs k ≡ Some a
    → slice_get (xs ++ ys) k ≡ Some a
at_first [] ys k a e = absurd (none-some a e)
at_first (x ∷ xs) ys zero a e = e
at_first (x ∷ xs) ys (suc k) a e = at_first xs ys k a e

at_seam : {A : Type 0} (xs : List A) (x : A) (ys : List A)
    → slice_get (xs ++ x ∷ ys) (length xs) ≡ Some x
at_seam [] x ys = refl
at_seam (z ∷ xs) x ys = at_seam xs x ys

-- a list that has the same numbers at the same places
same_numbers : (xs ys : List ℕ) → length xs ≡ length ys
    → ((t y : ℕ) → slice_get ys t ≡ Some y → slice_index xs t ≡ y) → xs ≡ ys
same_numbers [] [] len at = refl
same_numbers [] (y ∷ ys) len at = absurd (omega arith)
same_numbers (x ∷ xs) [] len at = absurd (omega arith)
same_numbers (x ∷ xs) (y ∷ ys) len at =
    let first : x ≡ y = at 0 y refl in
    let rest = same_numbers xs ys (omega arith) (λ t z e. at (suc t) z e) in
    λ i. first i ∷ rest i

pub some_at : {A : Type 0} (xs : List A) (k : ℕ) → k < length xs
    → (a : A) × (slice_get xs k ≡ Some a)
some_at [] k h = absurd (omega arith)
some_at (x ∷ xs) zero h = (x, refl)
some_at (x ∷ xs) (suc k) h = some_at xs k (omega arith)

module _ (tasks : ℕ) (s : Settings) {O : Type 0} (is_value : ℕ → Result O Trap → Type 0)
    (places : ℕ → ℕ) (olds news : List Account) (board : BoardState) (n : ℕ)
    (ks : List (KeptOut (Result O Trap)))
    (a : AreWinnersOuts tasks s is_value places olds news board n ks) where
  -- the out at a place is of the task of that number
  task_at : (t : ℕ) (k : KeptOut (Result O Trap)) → slice_get ks t ≡ Some k → k.task ≡ t
  task_at t k e =
      let is = get_or_from_slice_get ks t k k e in
      let within = slice_get_within ks t k e in
      let count = a.count in
      ap (λ x. x.task) (sym is) ∙ a.order t k (omega arith)

  held : (P : KeptOut (Result O Trap) → Type 0) → All P ks → (t : ℕ)
      (k : KeptOut (Result O Trap)) → slice_get ks t ≡ Some k → P k
  held P all t k e =
      subst P (get_or_from_slice_get ks t k k e) (all t k (slice_get_within ks t k e))

  value_at : (t : ℕ) (k : KeptOut (Result O Trap)) → slice_get ks t ≡ Some k
      → is_value t k.out
  value_at t k e =
      subst (λ i. is_value i k.out) (task_at t k e)
      (held (IsOut is_value tasks s) a.outs t k e).value

  run_at : (t : ℕ) (k : KeptOut (Result O Trap)) → slice_get ks t ≡ Some k
      → HasRun s olds news t (places t) k.attempt
  run_at t k e =
      let out = held (IsOut is_value tasks s) a.outs t k e in
      let ran = held (λ k. SomeHost (λ a b. RanOn places s a b k) olds news) a.ran t k e in
      subst (λ i. HasRun s olds news i (places i) k.attempt) (task_at t k e)
      (record { tries = out.attempt; drill = out.drill; ran = ran })

  -- its attempt is the one that has won the task
  word_at : (t : ℕ) (k : KeptOut (Result O Trap)) → slice_get ks t ≡ Some k
      → slice_index board.words t ≡ k.attempt
  word_at t k e =
      subst (λ i. slice_index board.words i ≡ k.attempt) (task_at t k e)
      (held (λ k. word_of_task board k.task ≡ k.attempt) a.winners t k e)

  made_at : (t : ℕ) (k : KeptOut (Result O Trap)) (out : Result O Trap)
      → slice_get ks t ≡ Some k → k.out ≡ out
      → HasMade tasks s is_value places olds news board.words t out
  made_at t k out at same = record {
    value = subst (is_value t) same (value_at t k at);
    ran = subst (HasRun s olds news t (places t)) (sym (word_at t k at)) (run_at t k at);
  }

  -- the first outs are no traps
  made_below : (before behind : List (KeptOut (Result O Trap))) (made : List O)
      → before ++ behind ≡ ks → outs_in before ≡ map Ok made
      → AreMadeBelow tasks s is_value places olds news board.words (length before)
  made_below before behind made whole e k below =
      let here = some_at before k below in
      let at_made : slice_get (map Ok made) k ≡ Some here.0.out =
      ap (λ l. slice_get l k) (sym e) ∙ slice_get-map (λ x. x.out) before k
      ∙ ap (option_map (λ x. x.out)) here.1 in
      let out = at_map Ok made k here.0.out at_made in (
        out.0,
        made_at k here.0 (Ok out.0)
            (ap (λ l. slice_get l k) (sym whole) ∙ at_first before behind k here.0 here.1)
            (sym out.2),
      )

  -- where each task has an out, the attempts are the words of the board
  words_are : (made : PhaseOuts O) → length board.words ≡ n → AreMadeOf ks made
      → board.words ≡ made.attempts.items
  words_are made sized m =
      same_numbers board.words made.attempts.items
      (sized ∙ sym a.count ∙ sym (length-map ks (λ k. k.attempt)) ∙ ap length m.attempts)
      (λ t attempt e.
      let here = at_map (λ k. k.attempt) ks t attempt
      (ap (λ l. slice_get l t) m.attempts ∙ e) in
      word_at t here.0 here.1 ∙ here.2)

  -- the work of the phase
  work_of : IsClosed tasks s (length olds) board
      → HaveWorked tasks s places board.passes olds news
      → IsWork tasks s places board.words olds news
  work_of closed worked =
      record { board = board; closed = closed; words = refl; worked = worked }

  pub all_made : (made : PhaseOuts O) → tasks ≡ n → IsClosed tasks s (length olds) board
      → HaveWorked tasks s places board.passes olds news → AreMadeOf ks made
      → HaveMadeOuts tasks s is_value places olds news made
  all_made made whole closed worked m = record {
    count = (
      sym (length-map made.outs.items Ok) ∙ ap length (sym m.outs)
          ∙ length-map ks (λ k. k.out) ∙ a.count ∙ sym whole,
      ap length (sym m.attempts) ∙ length-map ks (λ k. k.attempt) ∙ a.count ∙ sym whole,
    );
    values = λ task out e.
        let here = at_map (λ k. k.out) ks task (Ok out)
        (ap (λ l. slice_get l task) m.outs ∙ slice_get-map Ok made.outs.items task
        ∙ ap (option_map Ok) e) in
        subst (is_value task) here.2 (value_at task here.0 here.1);
    attempts = λ task attempt e.
        let here = at_map (λ k. k.attempt) ks task attempt
        (ap (λ l. slice_get l task) m.attempts ∙ e) in
        subst (HasRun s olds news task (places task)) here.2 (run_at task here.0 here.1);
    work = subst (λ won. IsWork tasks s places won olds news)
        (words_are made (closed.good.sized ∙ whole) m) (work_of closed worked);
  }

  pub trapped : (task : ℕ) (trap : Trap) → n ≤ tasks → IsClosed tasks s (length olds) board
      → HaveWorked tasks s places board.passes olds news → IsFirstTrap ks task trap
      → IsStop tasks s is_value places olds news (stop.Trap task trap)
  trapped task trap few closed worked t =
      let at : slice_get ks (length t.before) ≡ Some t.here =
      ap (λ l. slice_get l (length t.before)) (sym t.whole) ∙ at_seam t.before t.here t.behind in
      let is : length t.before ≡ task = sym (task_at (length t.before) t.here at) ∙ t.named.0 in
      let within = slice_get_within ks (length t.before) t.here at in
      let count = a.count in (
        board.words,
        record {
          is_task = omega arith;
          work = work_of closed worked;
          below = subst (AreMadeBelow tasks s is_value places olds news board.words) is
              (made_below t.before (t.here ∷ t.behind) t.made t.whole t.outs);
        },
        subst (λ i. HasMade tasks s is_value places olds news board.words i (Err trap)) is
            (made_at (length t.before) t.here (Err trap) at t.named.1),
      )

  come_to : (made : PhaseOuts O) → n < tasks → IsClosed tasks s (length olds) board
      → HaveWorked tasks s places board.passes olds news → AreMadeOf ks made
      → HasComeTo tasks s is_value places olds news n board.words
  come_to made small closed worked m = record {
    is_task = small;
    work = work_of closed worked;
    below = subst (AreMadeBelow tasks s is_value places olds news board.words) a.count
        (made_below ks [] made.outs.items (append-nil ks) m.outs);
  }

module _ (tasks : ℕ) (s : Settings) {O : Type 0} (is_value : ℕ → Result O Trap → Type 0)
    (places : ℕ → ℕ) (olds news : List Account) where
  pub settled_made : (ks : List (KeptOut (Result O Trap))) (made : PhaseOuts O)
      → Settled tasks s is_value places olds news ks → AreMadeOf ks made
      → HaveMadeOuts tasks s is_value places olds news made
  settled_made ks made h m =
      all_made tasks s is_value places olds news h.board tasks ks h.outs made refl h.closed h.worked
      m

  pub settled_stop : (ks : List (KeptOut (Result O Trap))) (w : PhaseStop)
      → Settled tasks s is_value places olds news ks → IsTrapped ks w
      → IsStop tasks s is_value places olds news w
  settled_stop ks (stop.Trap task trap) h t =
      trapped tasks s is_value places olds news h.board tasks ks h.outs task trap (omega arith)
      h.closed h.worked t
  settled_stop ks (stop.GaveUp task) h t = absurd t
  settled_stop ks stop.Memory h t =
      whole_so_far tasks s places olds news h.board h.closed h.worked

  pub unsettled_stop : (task : ℕ) (ks : List (KeptOut (Result O Trap))) (w : PhaseStop)
      → Unsettled tasks s is_value places olds news task ks → IsTrapped ks w
      → IsStop tasks s is_value places olds news w
  unsettled_stop task ks (stop.Trap t trap) h is =
      let small = h.is_task in
      trapped tasks s is_value places olds news h.board task ks h.below t trap (omega arith)
      h.closed h.worked is
  unsettled_stop task ks (stop.GaveUp t) h is = absurd is
  unsettled_stop task ks stop.Memory h is =
      whole_so_far tasks s places olds news h.board h.closed h.worked

  pub given_up : (task : ℕ) (ks : List (KeptOut (Result O Trap))) (made : PhaseOuts O)
      → Unsettled tasks s is_value places olds news task ks → AreMadeOf ks made
      → IsStop tasks s is_value places olds news (stop.GaveUp task)
  given_up task ks made h m = (
    h.board.words,
    come_to tasks s is_value places olds news h.board task ks h.below made h.is_task h.closed
        h.worked m,
    h.none,
    h.lost,
  )
