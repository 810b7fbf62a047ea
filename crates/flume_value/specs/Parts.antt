-- What a value holds, where it is of the variant that is asked for.
use Rattle.std.specs.Prelude.{ℕ, ℤ, Bool, Option, Some, None, List, [], unwrap_or}
use Rattle.flume_value.specs.declared.value.Value.{Value, Value-F, out-Value}

abbrev pub int_layer : {X : Type 0} → Value-F X → Option ℤ
int_layer (Value-F.Int n) = Some n
int_layer _ = None

abbrev pub bool_layer : {X : Type 0} → Value-F X → Option Bool
bool_layer (Value-F.Bool b) = Some b
bool_layer _ = None

abbrev pub text_layer : {X : Type 0} → Value-F X → Option (List ℕ)
text_layer (Value-F.Text s) = Some s
text_layer _ = None

abbrev pub list_layer : {X : Type 0} → Value-F X → Option (List X)
list_layer (Value-F.List xs) = Some xs
list_layer _ = None

abbrev pub record_layer : {X : Type 0} → Value-F X → Option (List X)
record_layer (Value-F.Rec xs) = Some xs
record_layer _ = None

abbrev pub left_layer : {X : Type 0} → Value-F X → Option X
left_layer (Value-F.Left x) = Some x
left_layer _ = None

abbrev pub right_layer : {X : Type 0} → Value-F X → Option X
right_layer (Value-F.Right x) = Some x
right_layer _ = None

abbrev pub wide_layer : {X : Type 0} → Value-F X → Option ℤ
wide_layer (Value-F.Wide n) = Some n
wide_layer _ = None

abbrev pub int_of : Value → Option ℤ
int_of v = int_layer (out-Value v)

abbrev pub bool_of : Value → Option Bool
bool_of v = bool_layer (out-Value v)

abbrev pub text_of : Value → Option (List ℕ)
text_of v = text_layer (out-Value v)

-- the members of a list
abbrev pub members_of : Value → Option (List Value)
members_of v = list_layer (out-Value v)

-- the fields of a record, in order
abbrev pub fields_of : Value → Option (List Value)
fields_of v = record_layer (out-Value v)

abbrev pub left_of : Value → Option Value
left_of v = left_layer (out-Value v)

abbrev pub right_of : Value → Option Value
right_of v = right_layer (out-Value v)

abbrev pub wide_of : Value → Option ℤ
wide_of v = wide_layer (out-Value v)

-- the members of a list; a value that is no list has none
abbrev pub members_or_none : Value → List Value
members_or_none v = unwrap_or (members_of v) []
