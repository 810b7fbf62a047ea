-- What checking gives: a result, or the first fault.
use Rattle.std.specs.Prelude.{◌≡◌, ℕ, Bool, Option, Some, None, Result, Ok, Err, if◌then◌else◌}
use Rattle.flume_grammar.specs.declared.fault.ScriptKind.{ScriptKind}
use Rattle.flume_grammar.specs.declared.fault.ScriptFault.{ScriptFault}
use Rattle.flume_grammar.specs.declared.fault.ScriptFault.TheVariants.{Refused, Memory}

abbrev pub Checked : Type 0 → Type 0
Checked A = Result A ScriptFault

-- a result and what is made of it, or the first fault of the two
infixl 10 ◌>>=◌
abbrev pub ◌>>=◌ : {A B : Type 0} → Checked A → (A → Checked B) → Checked B
(Ok x) >>= f = f x
(Err e) >>= f = Err e

-- the fault is what checking gives, unless memory ran out
abbrev pub Fails : {Y : Type 0} → ScriptFault → Checked Y → Type 0
Fails Memory checked = Unit {0}
Fails (Refused line kind) checked = checked ≡ Err (Refused line kind)

-- what a function returned, seen by a view, is what checking gives, unless memory ran out
abbrev pub Gives : {X Y : Type 0} → (X → Y) → Result X ScriptFault → Checked Y → Type 0
Gives view (Ok x) checked = checked ≡ Ok (view x)
Gives view (Err e) checked = Fails e checked

-- the fault of this kind on a line, unless the test holds
abbrev pub unless : ℕ → ScriptKind → Bool → Checked (Unit {0})
unless line kind test = if test then Ok tt else Err (Refused line kind)

-- what there is, or the fault of this kind on a line
abbrev pub or_fault : {A : Type 0} → ℕ → ScriptKind → Option A → Checked A
or_fault line kind (Some x) = Ok x
or_fault line kind None = Err (Refused line kind)
