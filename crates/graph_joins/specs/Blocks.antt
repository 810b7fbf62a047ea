-- Names in blocks.
use Rattle.std.specs.Prelude.{ℕ, List}
use Rattle.std.specs.List.{flat_map}
use Rattle.graph_joins.specs.declared.names.Block.{Block}

-- the names of these blocks, one block behind another
abbrev pub names_in : List Block → List ℕ
names_in bs = flat_map (λ (b : Block). b.names.items) bs
