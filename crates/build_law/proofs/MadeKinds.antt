-- Kinds of collections: outputs of calls, kept ones that were outputs of calls, and all others.
use Rattle.std.proofs.Common.{◌≡◌, ℕ, Bool, true, false, Option, Some, None, refl, ap}
use Rattle.graph_build.specs.Built.{Built}
use Rattle.graph_build.specs.Calls.{emitted_as, is_emitted, is_saved_made}
use Rattle.graph_build.specs.of_script_program.declared.made.Emitted.{Emitted}
use Rattle.graph_build.specs.of_script_program.declared.made.Made.{Made}
use Rattle.graph_build.specs.of_script_program.declared.made.Made.TheVariants as made

-- a collection of that number of which nodes are built
abbrev pub built_of : ℕ → Made → Built
built_of number how = record { number = number; made = how }

-- the output of that place of a call
abbrev pub emission : ℕ → ℕ → Emitted
emission function output = record { function = function; output = output }

-- ---- whether a call makes it

-- no call makes it
abbrev pub IsOther : Made → Type 0
IsOther (made.Do source function output) = ⊥
IsOther _ = Unit {0}

pub data Kind : Made → Type 0 where
  called : (source function output : ℕ) → Kind (made.Do source function output)
  other : (how : Made) → IsOther how → Kind how

pub kind_of : (how : Made) → Kind how
kind_of (made.Do source function output) = called source function output
kind_of how = other how tt

-- ---- whether it has the name of a call

pub data Stand : Made → Type 0 where
  by_call : (source function output : ℕ) → Stand (made.Do source function output)
  kept_name : (is_object : Bool) (it : Emitted) → Stand (made.Saved is_object (Some it))
  alone : (how : Made) → IsOther how → emitted_as how ≡ None → Stand how

pub stand_of : (how : Made) → Stand how
stand_of (made.Do source function output) = by_call source function output
stand_of (made.Saved is_object (Some it)) = kept_name is_object it
stand_of how = alone how tt refl

-- ---- the tests of graph_build

pub record IsCalled (o : Option Made) : Type 0 where
  pub source : ℕ
  pub function : ℕ
  pub output : ℕ
  pub is : o ≡ Some (made.Do source function output)

pub is_called : (o : Option Made) → is_emitted o ≡ true → IsCalled o
is_called (Some (made.Do source function output)) h =
    record { source = source; function = function; output = output; is = refl }
is_called _ h = cc

pub record IsKeptOne (o : Option Made) : Type 0 where
  pub is_object : Bool
  pub call : Option Emitted
  pub is : o ≡ Some (made.Saved is_object call)

pub is_kept_one : (o : Option Made) → is_saved_made o ≡ true → IsKeptOne o
is_kept_one (Some (made.Saved is_object call)) h =
    record { is_object = is_object; call = call; is = refl }
is_kept_one _ h = cc

-- a kept one is emitted by no call
pub kept_apart : (o : Option Made) → is_saved_made o ≡ true → is_emitted o ≡ false
kept_apart o h = ap is_emitted (is_kept_one o h).is
