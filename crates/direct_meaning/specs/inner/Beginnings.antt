-- What rows begin with, by which they are sorted before all else: a record's first int or text.
use Rattle.std.specs.Prelude.{ℕ, zero, suc, ◌+◌, ◌-◌, ◌*◌, ◌/◌, ◌^◌, ltb, Bool, true, false, ℤ, pos, List, [], ◌∷◌}
use Rattle.flume_value.specs.declared.value.Value.{Value, Value-F, out-Value}

-- a byte ahead of a number below w; what is no byte stands above all that begins with one
abbrev pub led_by : Bool → ℕ → ℕ → ℕ → ℕ
led_by true byte w number = byte * w + number
led_by false byte w number = 256 * w - 1

-- the first n bytes of a text as one number, the highest first, with zeros behind its end
abbrev pub leading : ℕ → List ℕ → ℕ
leading zero text = 0
leading (suc n) [] = 0
leading (suc n) (byte ∷ text) = led_by (ltb byte 256) byte (256 ^ n) (leading n text)

-- of a record whose first field is this: 1 and its int, 2 for a bool, 3 and the first 63 bits of
-- its text; 4 where it is another value, which is greater than each of these
abbrev pub beginning_by : {X : Type 0} → Value-F X → ℕ × ℤ
beginning_by (Value-F.Int n) = (1, n)
beginning_by (Value-F.Bool b) = (2, pos 0)
beginning_by (Value-F.Text text) = (3, pos (leading 8 text / 2))
beginning_by _ = (4, pos 0)

abbrev pub field_beginning : Value → ℕ × ℤ
field_beginning field = beginning_by (out-Value field)

-- of a record of these fields; 0 where it has none
abbrev pub beginning_in : List Value → ℕ × ℤ
beginning_in [] = (0, pos 0)
beginning_in (field ∷ fields) = field_beginning field

-- of a value: 0 where it is less than each record, and 4 where it is greater
abbrev pub layer_beginning : Value-F Value → ℕ × ℤ
layer_beginning (Value-F.Rec fields) = beginning_in fields
layer_beginning (Value-F.Left value) = (4, pos 0)
layer_beginning (Value-F.Right value) = (4, pos 0)
layer_beginning (Value-F.Wide n) = (4, pos 0)
layer_beginning _ = (0, pos 0)

abbrev pub beginning : Value → ℕ × ℤ
beginning row = layer_beginning (out-Value row)

-- a row behind its beginning
abbrev pub begun : Value → (ℕ × ℤ) × Value
begun row = (beginning row, row)
