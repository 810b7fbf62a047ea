-- How the code is tied to the reading of lists: one clause says all of a call.
use Rattle.std.specs.Prelude.{◌≡◌, ◌≢◌, ℕ, List, Option, Some, None, Result, Ok, Err}
use Rattle.value_reading.specs.declared.fault.ReadFault.{ReadFault}
use Rattle.value_reading.specs.declared.fault.ReadFault.TheVariants.{Memory}
use Rattle.value_reading.specs.inner.Reading.{Out}

-- What a call answers that finds the first bytes and leaves the second: the part that is read,
-- which view shows; or that none is. Where memory ran out, nothing is said.
abbrev pub ReadsAs : {A B : Type 0} → (A → B) → (List ℕ → Out B) → List ℕ → List ℕ
    → Result A ReadFault → Type 0
ReadsAs view read before after (Ok x) = read before ≡ Some (view x, after)
ReadsAs view read before after (Err e) = e ≢ Memory → read before ≡ None

abbrev pub ReadsFront : {A : Type 0} → (List ℕ → Out A) → List ℕ → List ℕ → Result A ReadFault
    → Type 0
ReadsFront read before after (Ok x) = read before ≡ Some (x, after)
ReadsFront read before after (Err e) = e ≢ Memory → read before ≡ None

-- The same of a call that reads all of its bytes.
abbrev pub Answers : {A : Type 0} → Option A → Result A ReadFault → Type 0
Answers read (Ok x) = read ≡ Some x
Answers read (Err e) = e ≢ Memory → read ≡ None
