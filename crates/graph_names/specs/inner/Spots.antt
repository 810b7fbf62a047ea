-- Where names are, as a map has it of the nodes so far.
use Rattle.std.specs.Prelude.{ℕ, ◌==◌, ◌+◌, cond, List, [], ◌∷◌, Option, Some, None}
use Rattle.exec_graph.specs.Meaning.{place}
use Rattle.exec_graph.specs.declared.graph.Node.{Node}
use Rattle.exec_graph.specs.declared.graph.Place.{Place}
use Rattle.pardo_fuse.specs.Fusing.{holds_out, out_number}

abbrev pub first_spot : Option Place → Option Place → Option Place
first_spot None o = o
first_spot (Some c) o = Some c

-- among the outputs of the node k, counted from s on
abbrev pub spot_from : ℕ → ℕ → List ℕ → ℕ → Option Place
spot_from k s [] n = None
spot_from k s (x ∷ xs) n = cond (x == n) (Some (place k s)) (spot_from k (s + 1) xs n)

abbrev pub spot_in : ℕ → Node → ℕ → Option Place
spot_in k x n = cond (holds_out n x) (Some (place k (out_number n x))) None
