-- What a phase tells, where its tasks are those of the plan.
use Rattle.std.proofs.Common.{◌≡◌, ℕ, zero, suc, ◌<◌, ◌≤◌, inl, inr, List, [], ◌∷◌, ◌++◌, take, Some, length, Result, Ok, refl, ap, sym, ◌∙◌, subst, arith, slice_get, slice_index}
use Rattle.std.proofs.lemmas.List.{length-take-le}
use Rattle.std.proofs.lemmas.Option.{none-some, same_Some, slice_get_within}
use Rattle.crew.specs.Drills.{Settings}
use Rattle.outside.specs.Accounts.{Account}
use Rattle.crew.specs.Phases.{AreAskedOnce, IsCut, IsLostTask, IsWork, IsWorkSoFar}
use Rattle.exec_graph.specs.World.{World}
use Rattle.flume_collection.specs.declared.trap.Trap.{Trap}
use Rattle.phase_outs.specs.declared.made.PhaseOuts.{PhaseOuts}
use Rattle.phase_outs.specs.declared.stop.PhaseStop.{PhaseStop}
use Rattle.phase_outs.specs.declared.stop.PhaseStop.TheVariants as stop
use Rattle.phase_outs.specs.Outs.{HaveMadeOuts, AreMadeBelow, HasComeTo, HasRun, IsStop}
use Rattle.phase_outs.proofs.Placing.{some_at}
use Rattle.task_lists.specs.Outs.{IsCalm}
use Rattle.task_lists.specs.Tasks.{Task, asks_of}
use Rattle.plan_phases.specs.declared.winners.PhaseWinners.{PhaseWinners}
use Rattle.plan_phases.specs.Phases.{OfTasks, PhaseTasks}
use Rattle.plan_phases.specs.Told.{AreAsked, AskedAtMost, AskedFront, HaveRun, IsReached, IsStopped, RanThrough, attempts_of, first_tasks, settings_of}
use Rattle.plan_phases.proofs.Asking.{asked_all, asked_last, asked_one}
use Rattle.map_shard.proofs.of_task_safety.Fitting.{each_placed}
use Rattle.stage_phases.specs.inner.Tasks.{IsPhaseOf, fault_at}

-- ---- lists

-- what stands among the first stands there
from_first : {A : Type 0} (xs : List A) (n k : ℕ) (x : A) → slice_get (take n xs) k ≡ Some x
    → slice_get xs k ≡ Some x
from_first [] zero k x e = e
from_first [] (suc n) k x e = e
from_first (y ∷ xs) zero k x e = absurd (none-some x e)
from_first (y ∷ xs) (suc n) zero x e = e
from_first (y ∷ xs) (suc n) (suc k) x e = from_first xs n k x e

-- what stands at a place is indexed there
index_at : (xs : List ℕ) (k x : ℕ) → slice_get xs k ≡ Some x → slice_index xs k ≡ x
index_at [] k x e = absurd (none-some x e)
index_at (y ∷ xs) zero x e = same_Some y x e
index_at (y ∷ xs) (suc k) x e = index_at xs k x e

-- ---- a phase

module _ (w : World) (ph : PhaseTasks) (s : Settings) (tasks : ℕ) {O : Type 0}
    (is_value : ℕ → Result O Trap → Type 0) (asked : ℕ → ℕ) (us vs : List Account)
    (p : IsPhaseOf w ph s tasks is_value asked) where
  settings_are : s ≡ settings_of s.tries s.drill ph
  settings_are =
      let stage = sym p.named.0 in
      let phase = sym p.named.1 in
      λ i. record { stage = stage i; phase = phase i; tries = s.tries; drill = s.drill }

  run_of : (k attempt : ℕ) (task : Task) → slice_get ph.tasks k ≡ Some task
      → HasRun s us vs k (asked k) attempt
      → HasRun (settings_of s.tries s.drill ph) us vs k (asks_of task) attempt
  run_of k attempt task at ran =
      subst (λ x. HasRun x us vs k (asks_of task) attempt) settings_are
      (subst (λ n. HasRun s us vs k n attempt) (p.asks k task at) ran)

  asked_in : (won : List ℕ) → AreAskedOnce tasks s asked us vs
      → IsWork tasks s asked won us vs → AreAsked s.tries s.drill ph won us vs
  asked_in won once work = record {
    asks = asked;
    each = p.asks;
    once = subst (λ x. AreAskedOnce (length ph.tasks) x asked us vs) settings_are
        (subst (λ n. AreAskedOnce n s asked us vs) (sym p.count) once);
    work = subst (λ x. IsWork (length ph.tasks) x asked won us vs) settings_are
        (subst (λ n. IsWork n s asked won us vs) (sym p.count) work);
  }

  -- the hosts were asked for the phase alone
  pub phase_asked : (won : List ℕ) → AreAskedOnce tasks s asked us vs
      → IsWork tasks s asked won us vs → AskedFront s.tries s.drill (ph ∷ []) us vs
  phase_asked won once work =
      asked_all s.tries s.drill (ph ∷ []) (won ∷ []) us vs
      (asked_one s.tries s.drill ph won us vs (asked_in won once work))

  so_far : AreAskedOnce tasks s asked us vs → IsCut tasks s asked us vs
      → AskedAtMost s.tries s.drill (ph ∷ []) us vs
  so_far once (inl none) = inl none
  so_far once (inr work) = inr (record {
    asks = asked;
    each = p.asks;
    once = subst (λ x. AreAskedOnce (length ph.tasks) x asked us vs) settings_are
        (subst (λ n. AreAskedOnce n s asked us vs) (sym p.count) once);
    work = subst (λ x. IsWorkSoFar (length ph.tasks) x asked us vs) settings_are
        (subst (λ n. IsWorkSoFar n s asked us vs) (sym p.count) work);
  })

  -- the tasks below one that stopped the phase have run through
  run_below : (n : ℕ) → n < length ph.tasks → (won : List ℕ) → n ≤ length won
      → AreMadeBelow tasks s is_value asked us vs won n
      → (r : RanThrough s.tries s.drill w (OfTasks (first_tasks n ph) ∷ []) us vs)
      × (attempts_of r.winners ≡ take n won ∷ [])
  run_below n below won long made =
      let count = length-take-le n ph.tasks (omega arith) in
      let within : (k : ℕ) (task : Task) → slice_get (take n ph.tasks) k ≡ Some task → k < n =
      λ k task at. subst (λ m. k < m) count (slice_get_within (take n ph.tasks) k task at) in (
        record {
          calm = (
            each_placed (IsCalm w) (take n ph.tasks) (λ k task at.
                let out = made k (within k task at) in
                p.calm k task out.0 (from_first ph.tasks n k task at) out.1.value),
            tt,
          );
          winners = record { stage = ph.stage; phase = ph.phase; attempts = take n won } ∷ [];
          won = (
            record {
              place = (refl, refl);
              count = length-take-le n won long ∙ sym count;
              ran = λ k attempt task at here.
                  let out = made k (within k task at) in
                  let is = index_at won k attempt (from_first won n k attempt here) in
                  run_of k attempt task (from_first ph.tasks n k task at)
                  (subst (HasRun s us vs k (asked k)) is out.1.ran);
            },
            tt,
          );
        },
        refl,
      )

  pub has_run : (before after : List PhaseWinners) (made : PhaseOuts O)
      → HaveMadeOuts tasks s is_value asked us vs made → AreAskedOnce tasks s asked us vs
      → after ≡ before
      ++ record { stage = s.stage; phase = s.phase; attempts = made.attempts.items }
      ∷ [] → HaveRun s.tries s.drill w (OfTasks ph ∷ []) us vs before after
  has_run before after made m once told = record {
    through = record {
      calm = (
        each_placed (IsCalm w) ph.tasks (λ k task at.
            let within = slice_get_within ph.tasks k task at in
            let count = p.count in
            let outs = m.count.0 in
            let out = some_at made.outs.items k (omega arith) in
            p.calm k task out.0 at (m.values k out.0 out.1)),
        tt,
      );
      winners =
          record { stage = s.stage; phase = s.phase; attempts = made.attempts.items } ∷ [];
      won = (
        record {
          place = (sym p.named.0, sym p.named.1);
          count = m.count.1 ∙ sym p.count;
          ran = λ k attempt task at won. run_of k attempt task at (m.attempts k attempt won);
        },
        tt,
      );
    };
    told = told;
    asked = asked_one s.tries s.drill ph made.attempts.items us vs
        (asked_in made.attempts.items once m.work);
  }

  reached : (task : ℕ) (won : List ℕ) → HasComeTo tasks s is_value asked us vs task won
      → AreAskedOnce tasks s asked us vs
      → (r : IsReached s.tries s.drill w (OfTasks ph ∷ []) us vs ph task) × (r.won ≡ won)
  reached task won come once =
      let small = come.is_task in
      let below = subst (λ n. task < n) (sym p.count) small in
      let sized : length won ≡ tasks =
      ap length (sym come.work.words) ∙ come.work.closed.good.sized in
      let smaller = run_below task below won (omega arith) come.below in (
        record {
          before = [];
          behind = [];
          whole = refl;
          is_task = below;
          earlier = record { calm = tt; winners = []; won = tt };
          smaller = smaller.0;
          won = won;
          asked = asked_one s.tries s.drill ph won us vs (asked_in won once come.work);
          winners = smaller.1;
        },
        refl,
      )

  pub has_stopped : (e : PhaseStop) → IsStop tasks s is_value asked us vs e
      → AreAskedOnce tasks s asked us vs
      → IsStopped s.tries s.drill w (OfTasks ph ∷ []) us vs (fault_at s.stage s.phase e)
  has_stopped (stop.Trap task trap) h once =
      let here = some_at ph.tasks task (subst (λ n. task < n) (sym p.count) h.1.is_task) in
      let r = reached task h.0 h.1 once in
      inl (record {
        here = ph;
        number = task;
        reached = r.0;
        task = here.0;
        at = here.1;
        is = p.trapped task here.0 trap here.1 h.2.value;
        ran = subst
            (λ (l : List ℕ). HasRun (settings_of s.tries s.drill ph) us vs task (asks_of here.0)
            (slice_index l task))
            (sym r.1) (run_of task (slice_index h.0 task) here.0 here.1 h.2.ran);
      })
  has_stopped (stop.GaveUp task) h once =
      let r = reached task h.0 h.1 once in
      record {
        here = ph;
        named = p.named;
        reached = r.0;
        none = subst (λ (l : List ℕ). slice_index l task ≡ 0) (sym r.1) h.2;
        lost = subst (λ n. IsLostTask n (settings_of s.tries s.drill ph) us vs task) (sym p.count)
            (subst (λ x. IsLostTask tasks x us vs task) settings_are h.3);
      }
  has_stopped stop.Memory h once = asked_last s.tries s.drill ph us vs (so_far once h)
