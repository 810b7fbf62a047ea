-- Accumulators for the same keys, which merge for each key to the same.
use Rattle.std.specs.Prelude.{◌≡◌}
use Rattle.flume_value.specs.declared.value.Value.{Value}
use Rattle.combine_table.specs.declared.comb.Comb.{Comb}
use Rattle.partial_tables.specs.Tables.{Pairs, has_key, HaveShape}
use Rattle.partial_tables.specs.Merges.{values_at, merged_all}

-- the new accumulators stand for whatever the old ones stand for
pub record Regrouped (c : Comb) (old new : Pairs) : Type 0 where
  pub shape : HaveShape c new
  pub keys : (k : Value) → has_key k new ≡ has_key k old
  pub merges : (k : Value) → merged_all c (values_at k new) ≡ merged_all c (values_at k old)
