-- Values that ascend, as far as they were looked at.
use Rattle.std.proofs.Common.{◌≡◌, ℕ, ◌+◌, ◌-◌, ◌<◌, false, List, get_or}
use Rattle.std.specs.Ordering.{is_lt}
use Rattle.flume_value.specs.Order.{value_cmp}
use Rattle.flume_value.specs.declared.value.Value.{Value}

-- none of the first so many is less than the one before it
abbrev pub AscendTo : List Value → ℕ → Type 0
AscendTo items number =
    (k : ℕ) (d : Value) → k + 1 < number
    → is_lt (value_cmp (get_or items (k + 1) d) (get_or items k d)) ≡ false
