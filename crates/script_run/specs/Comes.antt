-- What is made of a script's collections.
use Rattle.std.specs.Prelude.{◌≡◌, ℕ, List, Option, IsSomeAnd}
use Rattle.run_sizes.specs.of_direct_meaning.Direct.{made_at}
use Rattle.flume_collection.specs.Collection.{Collection}
use Rattle.flume_value.specs.declared.value.Value.{Value}

-- the members are those of the collection of a number
abbrev pub AreMembersOf : List (Option Collection) → ℕ → List Value → Type 0
AreMembersOf made number members = IsSomeAnd (made_at made number) (λ c. members ≡ c.bag)
