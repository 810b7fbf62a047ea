-- The names of a node's outputs, as the code has them.
use Rattle.std.specs.Prelude.{ℕ}
use Rattle.pardo_fuse.specs.Parting.{part_number}
use Rattle.graph_names.specs.declared.naming.Naming.{Naming}

abbrev pub name_of : Naming → ℕ → ℕ
name_of a = part_number a.next a.node
