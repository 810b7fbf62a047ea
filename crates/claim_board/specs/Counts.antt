-- Counts over lists of numbers.
use Rattle.std.specs.Prelude.{ℕ, Bool, eqb, leb, List, count_by, if◌then◌else◌}

abbrev pub one_if : Bool → ℕ
one_if b = if b then 1 else 0

-- how often n stands in the list
abbrev pub times_in_list : ℕ → List ℕ → ℕ
times_in_list n xs = count_by (λ x. eqb x n) xs

-- how often n stands first in a pair of the list
abbrev pub times_first : ℕ → List (ℕ × ℕ) → ℕ
times_first n xs = count_by (λ x. eqb x.0 n) xs

-- how many numbers of the list are n or more
abbrev pub from_on : ℕ → List ℕ → ℕ
from_on n xs = count_by (λ x. leb n x) xs
