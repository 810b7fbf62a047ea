-- What the script of the sums means over the rows of a made input.
use Rattle.std.specs.Prelude.{ℕ, ◌+◌, pos, List, [], ◌∷◌, map, if◌then◌else◌}
use Rattle.bag_groups.specs.Groups.{keys_of}
use Rattle.bag_groups.specs.Pairs.{pair}
use Rattle.flume_value.specs.Bag.{bag_of}
use Rattle.flume_value.specs.Equality.{value_eq}
use Rattle.flume_value.specs.declared.value.Value.{Value}
use Rattle.flume_value.specs.declared.value.Value.TheVariants as value
use Rattle.made_rows.specs.Rows.{last_digit}

-- a number under its key
abbrev pub under_key : ℕ → Value × Value
under_key number = (value.Int (pos (last_digit number)), value.Int (pos number))

-- the sum of those of the numbers that have this key
abbrev pub sum_of_key : Value → List ℕ → ℕ
sum_of_key key [] = 0
sum_of_key key (number ∷ numbers) =
    if value_eq (value.Int (pos (last_digit number))) key then number + sum_of_key key numbers
    else sum_of_key key numbers

-- the sums of numbers: for each of their keys, once, the key and the sum of the numbers with it
abbrev pub sums_of : List ℕ → List Value
sums_of numbers =
    bag_of (map (λ key. pair key (value.Int (pos (sum_of_key key numbers))))
    (keys_of (map under_key numbers)))
