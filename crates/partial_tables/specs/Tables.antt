-- A table of accumulators by key.
use Rattle.std.specs.Prelude.{◌≡◌, ◌≤◌, ℕ, Bool, IsFalse, if◌then◌else◌, List, [], ◌∷◌, map, length, refl}
use Rattle.std.specs.List.{AllByRecursion, IsDistinct, list_any}
use Rattle.std.specs.Coded.{Coded, code_by, coded×, coded_ℕ, coded_list}
use Rattle.flume_value.specs.declared.value.Value.{Value}
use Rattle.flume_value.specs.contracts.value.Value as values
use Rattle.flume_value.specs.Equality.{value_eq}
use Rattle.combine_table.specs.declared.comb.Comb.{Comb}
use Rattle.combine_table.specs.contracts.comb.Comb as combs
use Rattle.combine_table.specs.Accumulators.{HasShape, merged}
use Rattle.partial_tables.specs.declared.table.AddFault.{AddFault}
use Rattle.partial_tables.specs.declared.table.AddFault.TheVariants.{Full, Memory}

-- keys, each beside a value or an accumulator
abbrev pub Pairs : Type 0
Pairs = List (Value × Value)

-- a combiner, accumulators by key in order of first addition, and room for so many
pub record Table : Type 0 where
  pub comb : Comb
  pub room : ℕ
  pub partials : Pairs

abbrev pub table_code : Coded Table
table_code =
    code_by (Comb × (ℕ × Pairs))
    (coded× combs.the_row.coded
    (coded× coded_ℕ (coded_list (coded× values.the_row.coded values.the_row.coded))))
    (λ t. (t.comb, (t.room, t.partials)))
    (λ p. record { comb = p.0; room = p.1.0; partials = p.1.1 })
    (λ _. refl)

-- whether a pair has the key
abbrev pub has_key : Value → Pairs → Bool
has_key k pairs = list_any (λ p. value_eq p.0 k) pairs

-- merged with the accumulator of its key, or last where the key is new
abbrev pub added : Comb → Pairs → Value → Value → Pairs
added c [] k a = (k, a) ∷ []
added c (p ∷ ps) k a =
    if value_eq p.0 k then (p.0, merged c p.1 a) ∷ ps else p ∷ added c ps k a

-- a key and an accumulator of the combiner's shape
abbrev pub IsPartialOf : Comb → Value × Value → Type 0
IsPartialOf c p = HasShape c p.1

-- all accumulators have the combiner's shape
abbrev pub HaveShape : Comb → Pairs → Type 0
HaveShape c partials = AllByRecursion (IsPartialOf c) partials

-- no key stands twice
abbrev pub HaveDistinctKeys : Pairs → Type 0
HaveDistinctKeys partials = IsDistinct value_eq (map (λ p. p.0) partials)

-- the table with these in place of what it has
abbrev pub holding : Table → Pairs → Table
holding t partials = record { comb = t.comb; room = t.room; partials = partials }

-- the key is new and there is no room for it, and nothing has changed; or memory is wanting, and
-- the table is empty
abbrev pub IsRefusedAdd : Table → Value → Value → Table → AddFault → Type 0
IsRefusedAdd old k a new (Full key acc) =
    (key ≡ k) × (acc ≡ a) × IsFalse (has_key k old.partials)
    × (old.room ≤ length old.partials) × (new ≡ old)
IsRefusedAdd old k a new Memory = new ≡ holding old []
