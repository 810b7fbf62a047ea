-- What a text leaves on a screen that it is said to.
use Rattle.std.specs.Prelude.{◌≡◌, ◌⊎◌, ◌++◌, ◌<◌, ℕ, List, Result, OnOk, OnErr, length, take}
use Rattle.std.specs.Option.{option_map}
use Rattle.outside.specs.Cause.{HasStrictCause, Rose}
use Rattle.outside.specs.Seen.{SeenScreen}
use Rattle.outside.specs.Told.{WhereTold}

-- A front of the text, which is not all of it, stands behind what was there.
abbrev pub HasFront : List ℕ → List ℕ → List ℕ → Type 0
HasFront text old new = (n : ℕ) × (n < length text) × (new ≡ old ++ take n text)

-- The screen has got the text, or it failed and has a front of it.
pub record Says {T E : Type 0} (text : List ℕ) (before after : SeenScreen) (result : Result T E)
    : Type 0 where
  pub ok : OnOk result (after.text ≡ option_map (λ old. old ++ text) before.text)
  pub err : OnErr result (WhereTold before.text after.text (HasFront text))
  pub cause : HasStrictCause before.faults after.faults result

-- The screen has got the line and its count is as it was, or the count rose and it has a front of
-- the line.
abbrev pub HasLine : List ℕ → SeenScreen → SeenScreen → Type 0
HasLine line before after =
    ((after.text ≡ option_map (λ old. old ++ line) before.text) × (after.faults ≡ before.faults))
    ⊎ (WhereTold before.text after.text (HasFront line) × Rose before.faults after.faults)
