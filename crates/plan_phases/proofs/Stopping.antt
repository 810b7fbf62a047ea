-- The trap at which a run stops is the first of its phases.
use Rattle.std.proofs.Common.{◌≡◌, ℕ, zero, suc, inl, inr, List, [], ◌∷◌, ◌++◌, drop, take, Some, slice_get, sym, ap}
use Rattle.std.proofs.lemmas.Option.{none-some, same_Some}
use Rattle.flume_collection.specs.declared.trap.Trap.{Trap}
use Rattle.crew.specs.declared.drill.Entry.{Entry}
use Rattle.outside.specs.Accounts.{Account}
use Rattle.exec_graph.specs.World.{World}
use Rattle.plan_phases.specs.Phases.{OfAct, OfTasks, PlanPhase}
use Rattle.plan_phases.specs.Told.{HasTrapped, IsFirstOf}

-- a list, cut at one of its places
parted : {A : Type 0} (xs : List A) (k : ℕ) (x : A) → slice_get xs k ≡ Some x
    → take k xs ++ x ∷ drop (suc k) xs ≡ xs
parted [] k x e = absurd (none-some x e)
parted (y ∷ xs) zero x e = ap (λ z. z ∷ xs) (sym (same_Some y x e))
parted (y ∷ xs) (suc k) x e = ap (λ l. y ∷ l) (parted xs k x e)

pub trapped_first : (tries : ℕ) (drill : List Entry) (w : World) (phases : List PlanPhase)
    (olds news : List Account) (trap : Trap)
    → HasTrapped tries drill w phases olds news trap → IsFirstOf w phases trap
trapped_first tries drill w phases olds news trap (inl h) = record {
  before = h.reached.before;
  here = OfTasks h.here;
  behind = h.reached.behind;
  whole = h.reached.whole;
  calm = h.reached.earlier.calm;
  is = record {
    smaller = take h.number h.here.tasks;
    task = h.task;
    greater = drop (suc h.number) h.here.tasks;
    tasks = parted h.here.tasks h.number h.task h.at;
    small = h.reached.smaller.calm.0;
    is = h.is;
  };
}
trapped_first tries drill w phases olds news trap (inr h) = record {
  before = h.before;
  here = OfAct h.traps;
  behind = h.behind;
  whole = h.whole;
  calm = h.earlier.calm;
  is = h.is;
}
