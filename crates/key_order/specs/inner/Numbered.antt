-- Pairs with the numbers of their keys.
use Rattle.std.specs.Prelude.{◌≡◌, ◌<◌, ℕ, Bool, false, List, Option, None, Some, All, drop, take}
use Rattle.std.specs.Option.{option_map_or}
use Rattle.flume_value.specs.declared.value.Value.{Value}
use Rattle.flume_value.specs.Equality.{value_eq}
use Rattle.bag_groups.specs.Pairs.{key_of}
use Rattle.key_order.specs.Numbers.{key_number, IsHeldAtTop}

-- n is the number of the key of the pair
pub record IsNumbered (n : ℕ) (pair : Value) : Type 0 where
  pub key : Value
  pub of_pair : key_of pair ≡ Some key
  pub held : IsHeldAtTop key
  pub is : n ≡ key_number key

-- those ahead of the end have one number, and those behind it greater ones
pub record IsFirstRun {X : Type 0} (number : X → ℕ) (xs : List X) (end : ℕ) : Type 0 where
  pub first : ℕ
  pub same : All (λ x. number x ≡ first) (take end xs)
  pub above : All (λ x. first < number x) (drop end xs)

abbrev pub is_key : Value → Option Value → Bool
is_key key None = false
is_key key (Some other) = value_eq other key

-- whether the key of the pair is that one
abbrev pub has_key : Value → Value → Bool
has_key key pair = is_key key (key_of pair)

-- the key of a pair; what is no pair stands for its own
abbrev pub key_in : Value → Value
key_in pair = option_map_or (λ key. key) (key_of pair) pair
