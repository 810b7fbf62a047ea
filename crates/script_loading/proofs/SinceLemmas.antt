-- A cause at a later moment is one at an earlier moment.
use Rattle.std.proofs.Common.{◌≡◌, ℕ, ◌≤◌, List, Option, subst, arith}
use Rattle.build_law.specs.of_direct_meaning.Inputs.{Wanted}
use Rattle.outside.specs.Cause.{RoseBy}
use Rattle.outside.specs.Seen.{SeenSource}
use Rattle.outside.specs.declared.file.File.{File as NamedBytes}
use Rattle.run_texts.specs.declared.status.Status.{Status}
use Rattle.run_texts.specs.declared.status.Status.TheVariants.{InputRefused, ReadFault, WantOfMemory, TooLong, NoFile}
use Rattle.script_loading.specs.Causes.{IsInputCause, IsInputsCause, IsLoadCause}
use Rattle.script_loading.specs.Loads.{AllHaveRows, IsAbove, IsMissing, Loads}
use Rattle.script_loading.specs.Limits.{input_limit}

abbrev Told : Type 0
Told = Option (List NamedBytes)

-- a count that rose after a later moment rose
rose_since : (tries before middle after : ℕ) → before ≤ middle → RoseBy tries middle after
    → RoseBy tries before after
rose_since tries before middle after later rose = omega arith

module _ (tries : ℕ) (before middle after : SeenSource) where
  pub load_since : (name : List ℕ) (limit : ℕ) (status : Status) → middle.files ≡ before.files
      → before.faults ≤ middle.faults → IsLoadCause tries middle after name limit status
      → IsLoadCause tries before after name limit status
  load_since name limit (NoFile other) told later cause =
      (cause.0, subst (λ (t : Told). IsMissing t name) told cause.1)
  load_since name limit (ReadFault other) told later cause =
      (cause.0, rose_since tries before.faults middle.faults after.faults later cause.1)
  load_since name limit (TooLong other most) told later cause =
      (cause.0, cause.1, subst (λ (t : Told). IsAbove t name limit) told cause.2)
  load_since name limit WantOfMemory told later cause = tt
  load_since name limit _ told later cause = absurd cause

  pub input_since : (wanted : Wanted) (status : Status) → middle.files ≡ before.files
      → before.faults ≤ middle.faults → IsInputCause tries middle after wanted status
      → IsInputCause tries before after wanted status
  input_since wanted (InputRefused name row column kind) told later cause = (
    cause.0,
    cause.1,
    subst (λ (t : Told). Loads t wanted.file input_limit cause.1) told cause.2,
    cause.3,
  )
  input_since wanted status told later cause =
      load_since wanted.file input_limit status told later cause

  -- the same cause, counted from an earlier moment
  pub inputs_since : (inputs : List Wanted) (status : Status) → middle.files ≡ before.files
      → before.faults ≤ middle.faults → IsInputsCause tries middle after inputs status
      → IsInputsCause tries before after inputs status
  inputs_since inputs status told later cause = (
    cause.0,
    cause.1,
    cause.2,
    cause.3,
    cause.4,
    subst (λ (t : Told). AllHaveRows t cause.0 cause.3) told cause.5,
    input_since cause.1 status told later cause.6,
  )
