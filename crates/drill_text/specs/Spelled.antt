-- The text of a drill, and the texts that spell one.
use Rattle.std.specs.Prelude.{◌≡◌, ◌≤◌, ℕ, List, ◌∷◌, ◌++◌, decimal, length, map}
use Rattle.std.specs.List.{All, join_with_byte}
use Rattle.crew.specs.declared.drill.Entry.{Entry}
use Rattle.run_settings.specs.Limits.{IsDrill, IsUpTo, most_tries}
use Rattle.drill_text.specs.Numbers.{most_number}
use Rattle.drill_text.specs.Drills.{comma, dot, letter_of}

-- the text of an attempt: STAGE(m|r)TASK.ATTEMPT
abbrev pub entry_text : Entry → List ℕ
entry_text e =
    decimal e.stage ++ letter_of e.phase ∷ (decimal e.task ++ dot ∷ decimal e.attempt)

-- the text of a drill: those of its attempts, parted by commas
abbrev pub drill_text : List Entry → List ℕ
drill_text entries = join_with_byte comma (map entry_text entries)

-- an attempt that texts can name
pub record IsNamed (e : Entry) : Type 0 where
  pub stage : IsUpTo most_number e.stage
  pub task : e.task ≤ most_number
  pub attempt : IsUpTo most_tries e.attempt

-- a text spells a drill: it is the drill's text, and the drill has an attempt, and none that it
-- may not have
pub record Spells (text : List ℕ) (entries : List Entry) : Type 0 where
  pub is : text ≡ drill_text entries
  pub some : 1 ≤ length entries
  pub named : All IsNamed entries
  pub drill : IsDrill entries
