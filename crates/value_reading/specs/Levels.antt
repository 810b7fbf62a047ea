-- How many levels a value has.
use Rattle.std.specs.Prelude.{ℕ, ◌+◌, max, List, [], ◌∷◌}
use Rattle.flume_value.specs.declared.value.Value.{Value, Value-F, fold-Value}

-- the greatest of what f gives for the members of a list, or 0
abbrev pub greatest_by : {X : Type 0} → (X → ℕ) → List X → ℕ
greatest_by f [] = 0
greatest_by f (x ∷ xs) = max (f x) (greatest_by f xs)

-- one level, where f counts those of what the value holds
abbrev pub layer_levels : {X : Type 0} → (X → ℕ) → Value-F X → ℕ
layer_levels f (Value-F.Int n) = 1
layer_levels f (Value-F.Bool b) = 1
layer_levels f (Value-F.Text s) = 1
layer_levels f (Value-F.List xs) = greatest_by f xs + 1
layer_levels f (Value-F.Rec xs) = greatest_by f xs + 1
layer_levels f (Value-F.Left x) = f x + 1
layer_levels f (Value-F.Right x) = f x + 1
layer_levels f (Value-F.Wide n) = 1

-- an int, a bool, a text and a wide have one level, and any other value one more than its deepest
-- part
abbrev pub levels_of : Value → ℕ
levels_of = fold-Value ℕ (layer_levels (λ n. n))
