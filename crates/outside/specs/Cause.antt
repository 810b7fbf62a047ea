-- Counts of failures, which never fall and stand still at their last value, and causes of refusals.
use Rattle.std.specs.Prelude.{◌≡◌, ℕ, ◌+◌, ◌-◌, ◌^◌, ◌≤◌, min, Result, OnOk, OnErr, IsErrOf}
use Rattle.outside.specs.declared.source.BeginFault.{BeginFault}
use Rattle.outside.specs.declared.source.BeginFault.TheVariants.{Failed}

-- the count after one more failure
abbrev pub raised : ℕ → ℕ
raised count = min (count + 1) (2 ^ 64 - 1)

-- The count rose. One that stands at its last value counts as risen.
abbrev pub Rose : ℕ → ℕ → Type 0
Rose before now = raised before ≤ now

-- The count rose by n at least. One that stands at its last value counts as risen by any number.
abbrev pub RoseBy : ℕ → ℕ → ℕ → Type 0
RoseBy n before now = min (before + n) (2 ^ 64 - 1) ≤ now

-- a call of a source or a host: the count doesn't fall, and a refusal is a failure that was counted
pub record HasCause {T E : Type 0} (before now : ℕ) (result : Result T E) : Type 0 where
  pub later : before ≤ now
  pub failed : OnErr result (Rose before now)

-- a call of a shelf or a screen: the same, and a call that goes through leaves the count
pub record HasStrictCause {T E : Type 0} (before now : ℕ) (result : Result T E) : Type 0 where
  pub later : before ≤ now
  pub ok : OnOk result (now ≡ before)
  pub failed : OnErr result (Rose before now)

-- a begin of a source: the count doesn't fall, and Failed was counted; a name that is missing is no
-- failure
pub record HasBeginCause {T : Type 0} (before now : ℕ) (result : Result T BeginFault) : Type 0 where
  pub later : before ≤ now
  pub failed : IsErrOf result Failed → Rose before now
