-- The collection of a number.
use Rattle.std.specs.Prelude.{ℕ, ◌/◌, ◌%◌}
use Rattle.exec_graph.specs.Meaning.{place}
use Rattle.exec_graph.specs.declared.graph.Place.{Place}

abbrev pub place_at : ℕ → Place
place_at k = place (k / 4294967296) (k % 4294967296)
