-- What becomes of the draws of several workers.
use Rattle.std.specs.Prelude.{◌≡◌, ◌≢◌, ℕ, ◌<◌, true, List, length, All, Contains}
use Rattle.claim_board.specs.Counts.{times_in_list, times_first}
use Rattle.claim_board.specs.Protocol.{PassState, limit, task_of}
use Rattle.outside.specs.Accounts.{Account}
use Rattle.crew.specs.Hosts.{HaveRisen, RefusedPlace, SomeHost}
use Rattle.crew.specs.Drills.{Settings, is_drilled}
use Rattle.crew.specs.Work.{drawn_attempt}

module _ (tasks : ℕ) (s : Settings) where
  -- the fate of a draw of a pass: it was won or lost, its task had a winner, the drill names it, or
  -- it is one of the downs
  pub data Fate (downs : List ℕ) (p : PassState) (d : ℕ) : Type 0 where
    Won : 0 < times_in_list d p.won → Fate downs p d
    Lost : 0 < times_first d p.lost → Fate downs p d
    Taken : (attempt : ℕ) → attempt ≢ 0 → Contains p.seen (task_of tasks d, attempt)
        → Fate downs p d
    Drilled : is_drilled s.drill (drawn_attempt tasks s d) ≡ true → Fate downs p d
    WentDown : 0 < times_in_list d downs → Fate downs p d

  -- each draw that names an attempt has a fate, and the hosts account for the downs
  pub record Fated (ps : List PassState) (olds news : List Account) : Type 0 where
    pub downs : List ℕ
    pub fates : All (λ p. All (λ d. d < limit tasks s.tries → Fate downs p d) p.draws) ps
    pub risen : HaveRisen (length downs) olds news
    pub told : All
        (λ d. SomeHost (λ a b. RefusedPlace a b (drawn_attempt tasks s d)) olds news) downs
