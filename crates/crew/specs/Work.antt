-- What workers do, each with its pass and its host.
use Rattle.std.specs.Prelude.{◌≡◌, ◌≢◌, ℕ, ◌+◌, ◌<◌, ◌≤◌, ltb, true, false, ◌⊎◌, List, [], ◌∷◌, ◌++◌, length, map, All}
use Rattle.std.specs.List.{filter}
use Rattle.outside.specs.Cause.{RoseBy}
use Rattle.outside.specs.declared.host.At.{At}
use Rattle.claim_board.specs.Counts.{times_in_list, times_first}
use Rattle.claim_board.specs.Protocol.{PassState, Deed, DrewNumber, SawWord, WonTask, LostTask, pass_begun, task_of, attempt_of, limit}
use Rattle.crew.specs.declared.kept.KeptOut.{KeptOut}
use Rattle.crew.specs.declared.drill.Entry.{Entry}
use Rattle.outside.specs.Accounts.{Account, Gains}
use Rattle.crew.specs.Hosts.{at_place, places_below}
use Rattle.crew.specs.Drills.{Settings, attempt_in, is_drilled}
use Rattle.crew.specs.Outs.{IsOut, RanOn, draw_by}

-- a worker's turn with a draw that names an attempt: the word that its look at the draw's task
-- showed, the places that its host then let through and refused, and what its commit came to, if
-- it made one
pub record Turn : Type 0 where
  pub draw : ℕ
  pub word : ℕ
  pub passed : List At
  pub downs : List At
  pub commit : List Deed

-- the places of all turns, turn behind turn
abbrev pub places_passed : List Turn → List At
places_passed [] = []
places_passed (t ∷ ts) = t.passed ++ places_passed ts

abbrev pub all_downs : List Turn → List At
all_downs [] = []
all_downs (t ∷ ts) = t.downs ++ all_downs ts

-- what the pass does in a turn: it draws, it looks at the draw's task, and it may commit
abbrev pub deeds_of : ℕ → Turn → List Deed
deeds_of tasks t = DrewNumber t.draw ∷ (SawWord (task_of tasks t.draw) t.word ∷ t.commit)

-- the same of all turns, turn behind turn
abbrev pub all_deeds : ℕ → List Turn → List Deed
all_deeds tasks [] = []
all_deeds tasks (t ∷ ts) = deeds_of tasks t ++ all_deeds tasks ts

-- a pass whose deeds were `old` has done these since, in order, each at a place behind all before
-- it, and its deeds are `new`
abbrev pub HasDone : List (ℕ × Deed) → List Deed → List (ℕ × Deed) → Type 0
HasDone old [] new = new ≡ old
HasDone old (e ∷ es) new =
    (place : ℕ) × All (λ x. x.0 < place) old × HasDone (old ++ (place, e) ∷ []) es new

-- a worker of a phase: its pass, its host before and after, and its turns
pub record Worker : Type 0 where
  pub pass : PassState
  pub before : Account
  pub after : Account
  pub turns : List Turn

-- what the look of a turn adds to what the pass has seen
abbrev pub look_of : ℕ → Turn → ℕ × ℕ
look_of tasks t = (task_of tasks t.draw, t.word)

module _ (tasks : ℕ) (s : Settings) where
  -- the attempt that a draw names
  abbrev pub drawn_attempt : ℕ → Entry
  drawn_attempt d = attempt_in s (task_of tasks d) (attempt_of tasks d)

  module _ (places : ℕ → ℕ) where
    -- the host is asked for the first places of the attempt, in order, until it refuses one, and
    -- for nothing where the look showed a winner
    pub record IsAsked (t : Turn) : Type 0 where
      pub through : ℕ
      pub passed : t.passed ≡ places_below (drawn_attempt t.draw) through
      pub downs : (t.downs ≡ []) ⊎ (t.downs ≡ at_place (drawn_attempt t.draw) through ∷ [])
      pub within : through + length t.downs ≤ places (task_of tasks t.draw) + 1
      pub taken : t.word ≢ 0 → (t.passed ≡ []) × (t.downs ≡ [])

    -- the attempt was made: the look showed no winner, and the host let all its places through
    pub record WasMade (t : Turn) : Type 0 where
      pub free : t.word ≡ 0
      pub passed :
          t.passed ≡ places_below (drawn_attempt t.draw) (places (task_of tasks t.draw) + 1)
      pub downs : t.downs ≡ []

    -- the host was down: the look showed no winner, and the host refused a place of the attempt
    pub record IsDown (t : Turn) : Type 0 where
      pub free : t.word ≡ 0
      pub place : ℕ
      pub within : place ≤ places (task_of tasks t.draw)
      pub passed : t.passed ≡ places_below (drawn_attempt t.draw) place
      pub downs : t.downs ≡ at_place (drawn_attempt t.draw) place ∷ []

    -- the attempt was made, the drill does not name it, and its commit came to this
    pub record IsCommitted (t : Turn) (came : Deed) : Type 0 where
      pub made : WasMade t
      pub drill : is_drilled s.drill (drawn_attempt t.draw) ≡ false
      pub commit : t.commit ≡ came ∷ []

    -- What came of a turn. The task had a winner, and the host was asked for nothing; the attempt
    -- was made, and it won, or lost to a winner; the drill names it, and it was made and not
    -- committed; or the host was down.
    pub data Cause (p : PassState) (t : Turn) : Type 0 where
      Taken : t.word ≢ 0 → t.passed ≡ [] → t.downs ≡ [] → t.commit ≡ [] → Cause p t
      Won : IsCommitted t (WonTask t.draw) → 0 < times_in_list t.draw p.won → Cause p t
      Lost : (x : ℕ) → IsCommitted t (LostTask t.draw x) → 0 < times_first t.draw p.lost
          → Cause p t
      Drilled : WasMade t → is_drilled s.drill (drawn_attempt t.draw) ≡ true → t.commit ≡ []
          → Cause p t
      WentDown : IsDown t → t.commit ≡ [] → Cause p t

    -- each turn came to something, but for the last one, which may have stopped early: then it made
    -- no commit
    pub record CameFar (p : PassState) (ts : List Turn) : Type 0 where
      pub done : List Turn
      pub last : List Turn
      pub whole : done ++ last ≡ ts
      pub causes : All (Cause p) done
      pub early : All (λ t. t.commit ≡ []) last
      pub one : length last ≤ 1

    -- from the state `old` of its pass to `new`, and with its host from a to b, a worker took these
    -- turns
    pub record TookTurns (old new : PassState) (a b : Account) (ts : List Turn) : Type 0 where
      -- a turn with each draw that it gained and that names an attempt, in order
      pub gained : List ℕ
      pub draws : new.draws ≡ old.draws ++ gained
      pub each : map (λ t. t.draw) ts ≡ filter (λ d. ltb d (limit tasks s.tries)) gained
      -- one look in each turn
      pub seen : new.seen ≡ old.seen ++ map (look_of tasks) ts
      -- it drew, looked and committed turn behind turn, and then drew what names no attempt
      pub past : List ℕ
      pub late : All (λ d. limit tasks s.tries ≤ d) past
      pub deeds : HasDone old.deeds (all_deeds tasks ts ++ map DrewNumber past) new.deeds
      -- its host was asked in these turns alone, and lost what it refused
      pub gains : Gains a b (places_passed ts) (all_downs ts)
      pub lost : RoseBy (length (all_downs ts)) a.losses b.losses
      pub asked : All IsAsked ts

    -- however far they came
    abbrev pub Took : PassState → PassState → Account → Account → Type 0
    Took old new a b = (ts : List Turn) × TookTurns old new a b ts × CameFar new ts

    -- the workers of these passes, which were fresh, and of these hosts
    pub record AreWorkers (ps : List PassState) (olds news : List Account) (ws : List Worker)
        : Type 0 where
      pub passes : map (λ w. w.pass) ws ≡ ps
      pub before : map (λ w. w.before) ws ≡ olds
      pub after : map (λ w. w.after) ws ≡ news
      pub took :
          All (λ w. TookTurns (pass_begun w.pass.number) w.pass w.before w.after w.turns) ws

    -- the same, where each turn came to something
    pub record HaveWorked (ps : List PassState) (olds news : List Account) : Type 0 where
      pub workers : List Worker
      pub are : AreWorkers ps olds news workers
      pub causes : All (λ w. All (Cause w.pass) w.turns) workers

  module _ {O : Type 0} (is_value : ℕ → O → Type 0) (places : ℕ → ℕ) where
    -- from the state `old` of its pass to `new`, and with its host from a to b
    pub record Worked (old new : PassState) (a b : Account) (ks : List (KeptOut O)) : Type 0 where
      -- it kept the outs of just the draws that its pass has won
      pub won : new.won ≡ old.won ++ map (draw_by tasks) ks
      pub kept : All (λ k. IsOut is_value tasks s k × RanOn places s a b k) ks
      -- each of its turns came to something
      pub turns : List Turn
      pub took : TookTurns places old new a b turns
      pub causes : All (Cause places new) turns
