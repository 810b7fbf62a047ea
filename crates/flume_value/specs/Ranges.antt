-- The values that a program can hold: their numbers and their lengths are in range.
use Rattle.std.specs.Prelude.{ℕ, ◌^◌, ℤ, pos, negsuc, Bool, true, ◌&&◌, nat_lt, IsTrue, length}
use Rattle.std.specs.List.{list_all}
use Rattle.flume_value.specs.declared.value.Value.{Value, Value-F, fold-Value}

-- whether 64 bits with a sign hold the number
abbrev pub fits_int : ℤ → Bool
fits_int (pos n) = nat_lt n (2 ^ 63)
fits_int (negsuc n) = nat_lt n (2 ^ 63)

-- whether 128 bits with a sign hold the number
abbrev pub fits_wide : ℤ → Bool
fits_wide (pos n) = nat_lt n (2 ^ 127)
fits_wide (negsuc n) = nat_lt n (2 ^ 127)

-- whether 64 bits without a sign hold the length
abbrev pub fits_length : ℕ → Bool
fits_length n = nat_lt n (2 ^ 64)

-- one level, where f says it of what the value holds
abbrev pub layer_fits : {X : Type 0} → (X → Bool) → Value-F X → Bool
layer_fits f (Value-F.Int n) = fits_int n
layer_fits f (Value-F.Bool b) = true
layer_fits f (Value-F.Text s) = fits_length (length s)
layer_fits f (Value-F.List xs) = fits_length (length xs) && list_all f xs
layer_fits f (Value-F.Rec xs) = fits_length (length xs) && list_all f xs
layer_fits f (Value-F.Left x) = f x
layer_fits f (Value-F.Right x) = f x
layer_fits f (Value-F.Wide n) = fits_wide n

abbrev pub fits : Value → Bool
fits = fold-Value Bool (layer_fits (λ b. b))

-- the value is one that a program can hold
abbrev pub IsHeld : Value → Type 0
IsHeld v = IsTrue (fits v)
