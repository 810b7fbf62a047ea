-- The settings of a phase, and the attempts that its drill names.
use Rattle.std.specs.Prelude.{ℕ, Bool, true, false, eqb, leb, ◌&&◌, List, count_by}
use Rattle.std.specs.List.{list_any}
use Rattle.outside.specs.declared.host.Phase.{Phase}
use Rattle.outside.specs.declared.host.Phase.TheVariants.{Map, Reduce}
use Rattle.crew.specs.declared.drill.Entry.{Entry}
use Rattle.crew.specs.declared.attempts.Spot.{Spot}

-- which phase of which stage it is, how often a task is tried, and the attempts that are lost
pub record Settings : Type 0 where
  pub stage : ℕ
  pub phase : Phase
  pub tries : ℕ
  pub drill : List Entry

-- an attempt of a task of the phase
abbrev pub attempt_in : Settings → ℕ → ℕ → Entry
attempt_in s task attempt =
    record { stage = s.stage; phase = s.phase; task = task; attempt = attempt }

-- the attempt of a task at a spot
abbrev pub attempt_at : Spot → ℕ → Entry
attempt_at at task =
    record { stage = at.stage; phase = at.phase; task = task; attempt = at.attempt }

abbrev pub same_phase : Phase → Phase → Bool
same_phase Map Map = true
same_phase Map Reduce = false
same_phase Reduce Map = false
same_phase Reduce Reduce = true

-- the entry e names the attempt a
abbrev pub names : Entry → Entry → Bool
names a e =
    (eqb e.stage a.stage && same_phase e.phase a.phase)
    && (eqb e.task a.task && eqb e.attempt a.attempt)

-- some entry of the drill names the attempt
abbrev pub is_drilled : List Entry → Entry → Bool
is_drilled drill a = list_any (names a) drill

-- the entry names one of the attempts of the task, up to the last of its tries
abbrev pub names_try : Settings → ℕ → Entry → Bool
names_try s task e =
    (eqb e.stage s.stage && same_phase e.phase s.phase)
    && (eqb e.task task && (leb 1 e.attempt && leb e.attempt s.tries))

-- how many entries of the drill do
abbrev pub drilled_tries : Settings → ℕ → ℕ
drilled_tries s task = count_by (names_try s task) s.drill
