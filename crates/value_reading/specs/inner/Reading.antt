-- Reading from left to right: a part and the bytes behind it, or nothing.
use Rattle.std.specs.Prelude.{ℕ, zero, suc, ℤ, ◌==◌, Bool, true, false, List, [], ◌∷◌, length, take, drop, Option, Some, None, if◌then◌else◌, nat_lt}
use Rattle.std.specs.Int.{w64, w128, cast_signed}
use Rattle.flume_value.specs.declared.value.Value.{Value}
use Rattle.flume_value.specs.declared.value.Value.TheVariants as variant
use Rattle.flume_value.specs.inner.Numbers.{number}
use Rattle.value_reading.specs.declared.tag.Tag.{Tag}
use Rattle.value_reading.specs.declared.tag.Tag.TheVariants as tag

abbrev pub Out : Type 0 → Type 0
Out A = Option (A × List ℕ)

-- one part, and then another of what it left
abbrev pub bind : {A B : Type 0} → Out A → (A → List ℕ → Out B) → Out B
bind None f = None
bind (Some x) f = f x.0 x.1

-- what is read, made to something else
abbrev pub made : {A B : Type 0} → (A → B) → Out A → Out B
made f None = None
made f (Some x) = Some (f x.0, x.1)

-- what is there, and the bytes
abbrev pub told : {A : Type 0} → Option A → List ℕ → Out A
told None bytes = None
told (Some x) bytes = Some (x, bytes)

abbrev pub byte_at : List ℕ → Out ℕ
byte_at [] = None
byte_at (b ∷ bytes) = Some (b, bytes)

-- the first k bytes
unfoldable pub front_at : ℕ → List ℕ → Out (List ℕ)
front_at k bytes = if nat_lt (length bytes) k then None else Some (take k bytes, drop k bytes)

-- the number of k bytes, the highest first
unfoldable pub number_at : ℕ → List ℕ → Out ℕ
number_at k bytes =
    if nat_lt (length bytes) k then None else Some (number (take k bytes), drop k bytes)

abbrev pub int_at : List ℕ → Out ℤ
int_at bytes = made (cast_signed w64) (number_at 8 bytes)

abbrev pub wide_at : List ℕ → Out ℤ
wide_at bytes = made (cast_signed w128) (number_at 16 bytes)

abbrev pub truth_of : ℕ → Option Bool
truth_of b = if b == 0 then Some false else (if b == 1 then Some true else None)

abbrev pub bool_at : List ℕ → Out Bool
bool_at bytes = bind (byte_at bytes) (λ b rest. told (truth_of b) rest)

-- the variant that a first byte tells
abbrev pub tag_of : ℕ → Option Tag
tag_of b =
    if b == 1 then Some tag.Int else
    (if b == 2 then Some tag.Bool else
    (if b == 3 then Some tag.Text else
    (if b == 4 then Some tag.List else
    (if b == 5 then Some tag.Rec else
    (if b == 6 then Some tag.Left else
    (if b == 7 then Some tag.Right else
    (if b == 8 then Some tag.Wide else None)))))))

abbrev pub tag_at : List ℕ → Out Tag
tag_at bytes = bind (byte_at bytes) (λ b rest. told (tag_of b) rest)

unfoldable pub text_at : List ℕ → Out (List ℕ)
text_at bytes = bind (number_at 8 bytes) front_at

-- so many parts, one behind another
unfoldable pub parts_at : {A : Type 0} → (List ℕ → Out A) → ℕ → List ℕ → Out (List A)
parts_at part zero bytes = Some ([], bytes)
parts_at part (suc k) bytes =
    bind (part bytes) (λ x rest. made (λ xs. x ∷ xs) (parts_at part k rest))

unfoldable pub items_at : (List ℕ → Out Value) → List ℕ → Out (List Value)
items_at part bytes = bind (number_at 8 bytes) (parts_at part)

-- a value of this variant, where part reads a part of it
abbrev pub behind : (List ℕ → Out Value) → Tag → List ℕ → Out Value
behind part tag.Int bytes = made variant.Int (int_at bytes)
behind part tag.Bool bytes = made variant.Bool (bool_at bytes)
behind part tag.Text bytes = made variant.Text (text_at bytes)
behind part tag.List bytes = made variant.List (items_at part bytes)
behind part tag.Rec bytes = made variant.Rec (items_at part bytes)
behind part tag.Left bytes = made variant.Left (part bytes)
behind part tag.Right bytes = made variant.Right (part bytes)
behind part tag.Wide bytes = made variant.Wide (wide_at bytes)

-- a value of so many levels at most
unfoldable pub value_at : ℕ → List ℕ → Out Value
value_at zero bytes = None
value_at (suc n) bytes = bind (tag_at bytes) (behind (value_at n))

-- what is read, where no bytes are behind it
abbrev pub alone : {A : Type 0} → Out A → Option A
alone None = None
alone (Some x) = if length x.1 == 0 then Some x.0 else None

abbrev pub whole_at : List ℕ → Option Value
whole_at bytes = alone (value_at 16 bytes)
