-- The attempts that a text names to be lost: STAGE(m|r)TASK.ATTEMPT, parted by commas.
use Rattle.std.specs.Prelude.{ℕ, Bool, true, not, ◌&&◌, ◌==◌, List, [], ◌∷◌, length, Option, Some, None, if◌then◌else◌, nat_le}
use Rattle.std.specs.List.{after_first, before_first, slice_split}
use Rattle.std.specs.Option.{option_or}
use Rattle.outside.specs.declared.host.Phase.{Phase}
use Rattle.outside.specs.declared.host.Phase.TheVariants.{Map, Reduce}
use Rattle.crew.specs.declared.drill.Entry.{Entry}
use Rattle.crew.specs.Drills.{is_drilled}
use Rattle.run_settings.specs.Limits.{most_entries, most_tries}
use Rattle.drill_text.specs.Numbers.{most_number, number_in, number_up_to}

-- what there is, and what is made of it
infixl 10 ◌>>=◌
abbrev pub ◌>>=◌ : {A B : Type 0} → Option A → (A → Option B) → Option B
(Some x) >>= f = f x
None >>= f = None

-- the signs of the form
abbrev pub comma : ℕ
comma = 44

abbrev pub dot : ℕ
dot = 46

abbrev pub letter_of : Phase → ℕ
letter_of Map = 109
letter_of Reduce = 114

-- what stands before the first such sign of a text, or all of it where it has none
abbrev pub until_sign : ℕ → List ℕ → List ℕ
until_sign sign text = before_first (λ byte. byte == sign) text

-- what stands behind it, or nothing
abbrev pub beyond_sign : ℕ → List ℕ → List ℕ
beyond_sign sign text = after_first (λ byte. byte == sign) text

-- the attempt of a task of this phase that a text names: the stage before the phase's letter, and
-- behind it the task, a dot and the attempt
abbrev pub entry_of : Phase → List ℕ → Option Entry
entry_of phase text = do
  stage ← number_up_to most_number (until_sign (letter_of phase) text)
  task ← number_in (until_sign dot (beyond_sign (letter_of phase) text))
  attempt ← number_up_to most_tries (beyond_sign dot (beyond_sign (letter_of phase) text))
  Some (record { stage = stage; phase = phase; task = task; attempt = attempt })

-- the attempt that a text names, of a map task or of a reduce task
abbrev pub entry_in : List ℕ → Option Entry
entry_in text = option_or (entry_of Map text) (entry_of Reduce text)

-- the attempts that texts name, where each names one
abbrev pub entries_in : List (List ℕ) → Option (List Entry)
entries_in [] = Some []
entries_in (text ∷ texts) = do
  entry ← entry_in text
  entries ← entries_in texts
  Some (entry ∷ entries)

-- the parts of a text between its commas
abbrev pub drill_parts : List ℕ → List (List ℕ)
drill_parts text = slice_split (λ byte. byte == comma) text

-- none of them comes again
abbrev pub are_apart : List Entry → Bool
are_apart [] = true
are_apart (entry ∷ entries) = not (is_drilled entries entry) && are_apart entries

-- a drill may have them: not too many, and none of them twice
abbrev pub is_drill : List Entry → Bool
is_drill entries = nat_le (length entries) most_entries && are_apart entries

-- the drill that a text spells
abbrev pub drill_in : List ℕ → Option (List Entry)
drill_in text = do
  entries ← entries_in (drill_parts text)
  if is_drill entries then Some entries else None
