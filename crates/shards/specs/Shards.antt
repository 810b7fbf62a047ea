-- The shards of a list: ranges that stand one after another.
use Rattle.std.specs.Prelude.{ℕ, ◌+◌, ◌-◌, ◌*◌, ◌/◌, List, [], ◌++◌, length, take, drop}
use Rattle.std.proofs.Common.{zero, suc}

-- the lists of 0, 1, .., n - 1, one after the other
abbrev pub concatenated : {A : Type 0} → (ℕ → List A) → ℕ → List A
concatenated f zero = []
concatenated f (suc n) = concatenated f n ++ f n

-- where shard i of s begins in a list of n: at the floor of i * n / s
abbrev pub begins : ℕ → ℕ → ℕ → ℕ
begins s i n = i * n / s

-- shard i of s: the range from where it begins up to where the next one does
unfoldable pub shard : {A : Type 0} → ℕ → ℕ → List A → List A
shard s i xs =
    take (begins s (i + 1) (length xs) - begins s i (length xs))
    (drop (begins s i (length xs)) xs)
