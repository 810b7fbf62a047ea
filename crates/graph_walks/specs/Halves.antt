-- Even and odd numbers, so that those of two forests differ.
use Rattle.std.specs.Prelude.{ℕ}
use Rattle.graph_laws.specs.Kids.{even, odd}
use Rattle.graph_walks.specs.declared.halves.Half.{Half}
use Rattle.graph_walks.specs.declared.halves.Half.TheVariants.{Even, Odd}

abbrev pub half_of : Half → ℕ → ℕ
half_of Even = even
half_of Odd = odd
