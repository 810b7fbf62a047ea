use Rattle.std.specs.Prelude.{nat_eq}
use Rattle.std.proofs.Common.{◌≡◌, ℕ, drop}
use Rattle.std.specs.HashMap.{get}
use Rattle.mscr_form.specs.inner.Ranking.{first_of, place_from}
use Rattle.mscr_form.proofs.indexed.index_of.Given as goal

abbrev pub invariant-loop-i : goal.invariant-loop-i
invariant-loop-i l = (n : ℕ) → first_of (get nat_eq l.index n)
    (place_from l.i (drop l.i l.roles) n) ≡ place_from 0 l.roles n
