-- Accumulators that stand for the values of keys.
use Rattle.std.specs.Prelude.{◌≡◌, All, List, [], ◌∷◌, Result, map, filter}
use Rattle.std.specs.Option.{IsSomeAnd}
use Rattle.flume_value.specs.declared.value.Value.{Value}
use Rattle.flume_value.specs.declared.fault.Kind.{Kind}
use Rattle.flume_value.specs.Bag.{bag_of}
use Rattle.flume_value.specs.Equality.{value_eq}
use Rattle.bag_groups.specs.Pairs.{parts_of}
use Rattle.bag_groups.specs.Groups.{keys_of, values_of}
use Rattle.combine_table.specs.declared.comb.Comb.{Comb}
use Rattle.combine_table.specs.Accumulators.{accumulator, merged, finished}
use Rattle.combine_table.specs.Combinations.{Suits, combined}
use Rattle.partial_tables.specs.Tables.{Pairs, has_key, IsPartialOf}

-- what stands beside the key, in order
abbrev pub values_at : Value → Pairs → List Value
values_at k pairs = map (λ p. p.1) (filter (λ p. value_eq p.0 k) pairs)

-- all of these accumulators merged into one
abbrev pub merged_all : Comb → List Value → Value
merged_all c [] = accumulator c []
merged_all c (a ∷ rest) = merged c a (merged_all c rest)

-- any number of accumulators for exactly the keys of the pairs, which merge for each key to the
-- accumulator of the key's values
pub record StandFor (c : Comb) (partials pairs : Pairs) : Type 0 where
  pub shape : All (IsPartialOf c) partials
  pub keys : (k : Value) → has_key k partials ≡ has_key k pairs
  pub merges : (k : Value) →
      merged_all c (values_at k partials) ≡ accumulator c (values_of k pairs)

-- one accumulator for each key, keys ascending: all of the key's merged
abbrev pub merged_by_key : Comb → Pairs → Pairs
merged_by_key c partials = map (λ k. (k, merged_all c (values_at k partials))) (keys_of partials)

-- one accumulator for each key, keys ascending: that of the key's values
abbrev pub accumulated : Comb → Pairs → Pairs
accumulated c pairs = map (λ k. (k, accumulator c (values_of k pairs))) (keys_of pairs)

-- each key beside what its accumulator finishes as
abbrev pub finished_each : Comb → Pairs → List (Value × Result Value Kind)
finished_each c partials = map (λ p. (p.0, finished c p.1)) partials

-- the key of each group beside what its list combines to, as a bag
abbrev pub combined_groups : Comb → List (Value × List Value) → List (Value × Result Value Kind)
combined_groups c groups = map (λ g. (g.0, combined c (bag_of g.1))) groups

-- a pair of a key and a value that the combiner takes
abbrev pub IsCombinable : Comb → Value → Type 0
IsCombinable c pair = IsSomeAnd (parts_of pair) (λ parts. Suits c parts.1)
