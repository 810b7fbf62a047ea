-- Pairs cut into runs, each with a table of bounded room of its own.
use Rattle.std.specs.Prelude.{◌≡◌, ◌≤◌, ℕ, IsFalse, [], ◌∷◌, ◌++◌, length}
use Rattle.flume_value.specs.declared.value.Value.{Value}
use Rattle.combine_table.specs.declared.comb.Comb.{Comb}
use Rattle.partial_tables.specs.Merges.{StandFor}
use Rattle.partial_tables.specs.Tables.{HaveDistinctKeys, Pairs, has_key}

-- how many keys a table has room for
abbrev pub most_keys : ℕ
most_keys = 1024

-- for each key of a run one accumulator, which stands for the key's values there
pub record IsTableOf (c : Comb) (run table : Pairs) : Type 0 where
  pub distinct : HaveDistinctKeys table
  pub stands : StandFor c table run
  pub few : length table ≤ most_keys

-- The pairs are cut into runs: `last` is the table of the last one, and those of the others stand
-- one behind another in `taken`. Each of these has all the keys that it has room for, and lacks the
-- key with which the next run begins.
pub data AreTables (c : Comb) : Pairs → Pairs → Pairs → Type 0 where
  one : {run table : Pairs} → IsTableOf c run table → AreTables c run [] table
  next : {pairs taken full run table : Pairs} {k v : Value} → AreTables c pairs taken full
      → length full ≡ most_keys → IsFalse (has_key k full) → IsTableOf c ((k, v) ∷ run) table
      → AreTables c (pairs ++ (k, v) ∷ run) (taken ++ full) table

-- accumulators of the pairs are such tables, one behind another
pub record AreTabled (c : Comb) (pairs partials : Pairs) : Type 0 where
  pub taken : Pairs
  pub last : Pairs
  pub tables : AreTables c pairs taken last
  pub all : taken ++ last ≡ partials
