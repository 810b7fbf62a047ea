-- The names of what a script numbers.
use Rattle.std.specs.Prelude.{ℕ, List, [], Option, Some, None, slice_get}
use Rattle.std.specs.Option.{option_map}
use Rattle.written_types.specs.Named.{Named}

abbrev pub or_nameless : Option (List ℕ) → List ℕ
or_nameless None = []
or_nameless (Some name) = name

-- the name under which that number stands; what no name stands for is printed as nothing
abbrev pub printed_name : {A : Type 0} → Named A → ℕ → List ℕ
printed_name names number = or_nameless (option_map (λ entry. entry.0) (slice_get names number))
