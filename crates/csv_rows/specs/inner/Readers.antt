-- The records that a reader has left.
use Rattle.std.specs.Prelude.{◌≡◌, ◌≢◌, ◌+◌, ◌∷◌, ℕ, false, List, [], length, Option, Some, None, IfSome, option_map, ⊤}
use Rattle.csv.specs.declared.parser.State.{State}
use Rattle.csv.specs.declared.reader.Reader.{Reader}
use Rattle.csv.specs.declared.reader.Trim.TheVariants as trim
use Rattle.csv.specs.Reading.{Ready, default_config, expected_len, is_flexible, reader_config, reader_state, reader_trim, records_from, source_of}
use Rattle.csv_rows.specs.declared.records.Next.{Next}
use Rattle.csv_rows.specs.declared.records.Next.TheVariants as next

-- a record, as the texts of its fields
abbrev pub Fields : Type 0
Fields = List (List ℕ)

-- the records of the bytes that are left, from a state of csv's machine
abbrev pub records_at : State → List ℕ → List Fields
records_at state bytes = records_from default_config (length bytes + 1) state bytes

-- the records that a reader has left, where its bytes are known
abbrev pub left_of : {R : Type 0} → (R → Option (List ℕ)) → Reader R → Option (List Fields)
left_of remaining reader =
    option_map (records_at (reader_state reader)) (source_of remaining reader)

-- a reader as these records are read: by csv's defaults, every record alike
abbrev pub IsPlain : {R : Type 0} → Reader R → Type 0
IsPlain reader = Ready reader × (reader_config reader ≡ default_config)
    × (reader_trim reader ≡ trim.None) × (is_flexible reader ≡ false)

-- known records begin with this one, and lose it
abbrev pub Takes : Option (List Fields) → Fields → Option (List Fields) → Type 0
Takes None fields new = ⊤
Takes (Some old) fields None = ⊥
Takes (Some old) fields (Some new) = old ≡ fields ∷ new

-- the next record has another number of fields than the first, which is known
abbrev pub OtherLengthNext : Option (List Fields) → Option ℕ → Type 0
OtherLengthNext left None = ⊥
OtherLengthNext left (Some width) = IfSome left (λ records.
    (fields : Fields) × (rest : List Fields) × (records ≡ fields ∷ rest) × (length fields ≢ width))

-- no known record is left
abbrev pub NoneLeft : Option (List Fields) → Type 0
NoneLeft None = ⊤
NoneLeft (Some records) = records ≡ []

-- what a read of the next record does
abbrev pub TakesNext : {R : Type 0} → (R → Option (List ℕ)) → Reader R → Reader R → Fields → Next
    → Type 0
TakesNext rem old new fields next.Record =
    Takes (left_of rem old) fields (left_of rem new) × IsPlain new
    × (expected_len new ≡ Some (length fields))
    × IfSome (expected_len old) (λ width. length fields ≡ width)
TakesNext rem old new fields next.OtherLength = OtherLengthNext (left_of rem old) (expected_len old)
TakesNext rem old new fields next.End = NoneLeft (left_of rem old)
