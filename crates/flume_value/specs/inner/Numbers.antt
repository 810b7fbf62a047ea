-- Bytes as one number, the highest first.
use Rattle.std.specs.Prelude.{ℕ, ◌+◌, ◌*◌, ◌≡◌, ◌<◌, List, [], ◌∷◌}
use Rattle.std.specs.List.{AllByRecursion}
use Rattle.flume_value.specs.inner.Padded.{padded}

abbrev pub number_from : ℕ → List ℕ → ℕ
number_from n [] = n
number_from n (b ∷ bytes) = number_from (n * 256 + b) bytes

abbrev pub number : List ℕ → ℕ
number bytes = number_from 0 bytes

-- n is the first eight bytes of a text as a number, with zeros behind its end
pub record IsFirst (n : ℕ) (text : List ℕ) : Type 0 where
  pub is : n ≡ number (padded 8 text)
  pub bytes : AllByRecursion (λ b. b < 256) (padded 8 text)
