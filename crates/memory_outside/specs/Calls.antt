-- The calls of a form in memory, and which of them are to fail.
use Rattle.std.specs.Prelude.{ℕ, List, Bool, ◌==◌, ◌&&◌, ◌-◌, Result, Ok, Err, is_ok, if◌then◌else◌}
use Rattle.std.specs.List.{list_any}
use Rattle.outside.specs.Cause.{raised}
use Rattle.memory_outside.specs.declared.calls.Fail.{Fail}
use Rattle.outside.specs.declared.source.BeginFault.{BeginFault}
use Rattle.outside.specs.declared.source.BeginFault.TheVariants.{Missing, Failed}

-- those that are to fail, how many begins there were, and how many calls since the last one
pub record CallList : Type 0 where
  pub fails : List Fail
  pub begins : ℕ
  pub calls : ℕ

-- before the first call
abbrev pub no_calls : List Fail → CallList
no_calls fails = record { fails = fails; begins = 0; calls = 0 }

-- the list names this call
abbrev pub is_failing : List Fail → ℕ → ℕ → Bool
is_failing fails begun call = list_any (λ fail. (fail.begun == begun) && (fail.call == call)) fails

-- the list names the next begin
abbrev pub fails_begin : CallList → Bool
fails_begin calls = is_failing calls.fails calls.begins 0

-- the list names the next call that belongs to the last begin
abbrev pub fails_call : CallList → Bool
fails_call calls = is_failing calls.fails (calls.begins - 1) calls.calls

-- after a begin
abbrev pub with_begin : CallList → CallList
with_begin calls = record { fails = calls.fails; begins = raised calls.begins; calls = 1 }

-- after another call
abbrev pub with_call : CallList → CallList
with_call calls = record { fails = calls.fails; begins = calls.begins; calls = raised calls.calls }

-- the list names this call, where calls have one number
abbrev pub is_numbered : List ℕ → ℕ → Bool
is_numbered fails call = list_any (λ fail. fail == call) fails

-- the count after a call: one more where it was refused
abbrev pub count_after : {T E : Type 0} → Result T E → ℕ → ℕ
count_after result count = if is_ok result then count else raised count

-- the count after a begin of a source: one more where it failed, and no more where there is no such
-- file
abbrev pub counted_begin : {T : Type 0} → Result T BeginFault → ℕ → ℕ
counted_begin (Ok x) count = count
counted_begin (Err Missing) count = count
counted_begin (Err Failed) count = raised count
