-- What a phase gives, why it gives up, and what it asks of its hosts.
use Rattle.std.specs.Prelude.{◌≡◌, ◌≢◌, ℕ, ◌+◌, ◌-◌, ◌<◌, ◌≤◌, true, eqb, ◌&&◌, ◌⊎◌, List, [], ◌∷◌, ◌++◌, length, slice_index_or, All, count_by, ⊤}
use Rattle.outside.specs.declared.host.At.{At}
use Rattle.outside.specs.Notes.{Notes}
use Rattle.claim_board.specs.Protocol.{BoardState, IsGood, word_of_task}
use Rattle.crew.specs.declared.drill.Entry.{Entry}
use Rattle.crew.specs.declared.kept.KeptOut.{KeptOut}
use Rattle.crew.specs.declared.phase.PhaseFault.{PhaseFault}
use Rattle.crew.specs.declared.phase.PhaseFault.TheVariants.{GaveUp, Memory}
use Rattle.outside.specs.Accounts.{Account, Gains}
use Rattle.crew.specs.Hosts.{HaveRisen, RefusedPlace, SomeHost}
use Rattle.crew.specs.Drills.{Settings, attempt_in, names, is_drilled, drilled_tries}
use Rattle.crew.specs.Outs.{IsOut, RanOn}
use Rattle.crew.specs.Work.{Worker, AreWorkers, CameFar, HaveWorked}

-- what each host has let through and refused since, one list of places after the other
abbrev pub HaveGained : List Account → List Account → List Notes → Type 0
HaveGained [] [] [] = ⊤
HaveGained [] [] (n ∷ gained) = ⊥
HaveGained [] (b ∷ news) gained = ⊥
HaveGained (a ∷ olds) [] gained = ⊥
HaveGained (a ∷ olds) (b ∷ news) [] = ⊥
HaveGained (a ∷ olds) (b ∷ news) (n ∷ gained) =
    Gains a b n.passed n.downs × HaveGained olds news gained

-- all places of which hosts were asked
abbrev pub all_places : List Notes → List At
all_places [] = []
all_places (n ∷ gained) = n.passed ++ (n.downs ++ all_places gained)

-- the attempt of a place
abbrev pub attempt_of_place : At → Entry
attempt_of_place x =
    record { stage = x.stage; phase = x.phase; task = x.task; attempt = x.attempt }

-- how often the place is in the list
abbrev pub times_asked : At → List At → ℕ
times_asked x places =
    count_by
    (λ y. names (attempt_of_place x) (attempt_of_place y) && eqb x.place y.place) places

module _ (tasks : ℕ) (s : Settings) where
  -- the board at the end of a phase: a good state of the claim protocol in which each worker's pass
  -- has ended
  pub record IsClosed (hosts : ℕ) (board : BoardState) : Type 0 where
    pub good : IsGood tasks s.tries board
    pub passes : length board.passes ≡ hosts
    pub ended : All (λ p. p.ended ≡ true) board.passes

  -- The work of a phase on its hosts, to its end: by its board each task was won by this attempt,
  -- or by none, where the number is 0; and the board's passes are those of workers, each with a
  -- host, who were asked in the workers' turns alone.
  pub record IsWork (places : ℕ → ℕ) (won : List ℕ) (olds news : List Account) : Type 0 where
    pub board : BoardState
    pub closed : IsClosed (length olds) board
    pub words : board.words ≡ won
    pub worked : HaveWorked tasks s places board.passes olds news

  -- the same, as far as it came
  pub record IsWorkSoFar (places : ℕ → ℕ) (olds news : List Account) : Type 0 where
    pub board : BoardState
    pub good : IsGood tasks s.tries board
    pub workers : List Worker
    pub are : AreWorkers tasks s places board.passes olds news workers
    pub came : All (λ w. CameFar tasks s places w.pass w.turns) workers

  -- the phase was not begun, or its work came so far
  abbrev pub IsCut : (ℕ → ℕ) → List Account → List Account → Type 0
  IsCut places olds news = (olds ≡ news) ⊎ IsWorkSoFar places olds news

  -- the drill's entries and the losses of the hosts account for each try of the task, and where a
  -- host tells, for each try by itself
  pub record IsLostTask (olds news : List Account) (task : ℕ) : Type 0 where
    pub losses : ℕ
    pub risen : HaveRisen losses olds news
    pub counted : s.tries ≤ drilled_tries s task + losses
    pub told : (attempt : ℕ) → 0 < attempt → attempt ≤ s.tries →
        (is_drilled s.drill (attempt_in s task attempt) ≡ true)
        ⊎ SomeHost (λ a b. RefusedPlace a b (attempt_in s task attempt)) olds news

  -- for each task some try is neither in the drill nor accounted for by the losses of the hosts
  abbrev pub CanFinish : List Account → List Account → Type 0
  CanFinish olds news =
      (task : ℕ) → task < tasks → HaveRisen (s.tries - drilled_tries s task) olds news → ⊥

  -- a place of an attempt of a task of the phase
  pub record IsPlaceOf (places : ℕ → ℕ) (x : At) : Type 0 where
    pub stage : x.stage ≡ s.stage
    pub phase : x.phase ≡ s.phase
    pub task : x.task < tasks
    pub attempt : (0 < x.attempt) × (x.attempt ≤ s.tries)
    pub place : x.place ≤ places x.task

  -- all hosts together were asked for places of the phase alone, and for each of them at most once
  pub record AreAskedOnce (places : ℕ → ℕ) (olds news : List Account) : Type 0 where
    pub gained : List Notes
    pub gains : HaveGained olds news gained
    pub ours : All (IsPlaceOf places) (all_places gained)
    pub once : (x : At) → times_asked x (all_places gained) ≤ 1

  module _ {O : Type 0} (is_value : ℕ → O → Type 0) (places : ℕ → ℕ) where
    -- the outs of the first n tasks, in order: each was made by the attempt that the board names as
    -- the winner, all of whose places some host has let through
    pub record AreWinnersOuts (olds news : List Account) (board : BoardState) (n : ℕ)
        (ks : List (KeptOut O))
        : Type 0 where
      pub count : length ks ≡ n
      pub order : (t : ℕ) (d : KeptOut O) → t < n → (slice_index_or ks t d).task ≡ t
      pub outs : All (IsOut is_value tasks s) ks
      pub winners : All (λ k. word_of_task board k.task ≡ k.attempt) ks
      pub ran : All (λ k. SomeHost (λ a b. RanOn places s a b k) olds news) ks

    -- each task has an out, and the board's passes are those of workers that ran
    pub record Settled (olds news : List Account) (ks : List (KeptOut O)) : Type 0 where
      pub board : BoardState
      pub closed : IsClosed (length olds) board
      pub outs : AreWinnersOuts olds news board tasks ks
      pub worked : HaveWorked tasks s places board.passes olds news

    -- the task is the least without a winner; each smaller one has an out
    pub record Unsettled (olds news : List Account) (task : ℕ) (ks : List (KeptOut O))
        : Type 0 where
      pub board : BoardState
      pub closed : IsClosed (length olds) board
      pub is_task : task < tasks
      pub none : word_of_task board task ≡ 0
      pub least : (t : ℕ) → t < task → word_of_task board t ≢ 0
      pub lost : IsLostTask olds news task
      pub below : AreWinnersOuts olds news board task ks
      pub worked : HaveWorked tasks s places board.passes olds news

    abbrev pub IsPhaseFault : List Account → List Account → PhaseFault O → Type 0
    IsPhaseFault olds news (GaveUp task below) = Unsettled olds news task below
    IsPhaseFault olds news Memory = IsCut places olds news

-- the fault is want of memory
abbrev pub IsMemory : {O : Type 0} → PhaseFault O → Type 0
IsMemory (GaveUp task below) = ⊥
IsMemory Memory = ⊤
