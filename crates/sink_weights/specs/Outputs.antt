-- The outputs of a Pdo that have a reader, and the step of a Pdo with one output.
use Rattle.std.specs.Prelude.{ℕ, ◌+◌, Bool, cond, List, [], ◌∷◌, ◌++◌, length}
use Rattle.std.proofs.Common.{zero, suc}
use Rattle.std.specs.List.{cons_option}
use Rattle.sink_laws.specs.of_exec_graph.Forests.{Forest, Bare, Grow}
use Rattle.sink_laws.specs.of_exec_graph.Meaning.{place}
use Rattle.sink_laws.specs.of_exec_graph.Readers.{is_read}
use Rattle.sink_laws.specs.of_exec_graph.declared.graph.Place.{Place}
use Rattle.sink_laws.specs.of_exec_graph.declared.graph.Node.TheVariants.{Flatten}
use Rattle.sink_laws.specs.of_exec_graph.declared.graph.Graph.{Graph}
use Rattle.sink_laws.specs.of_graph_laws.Joining.{set_node}
use Rattle.sink_laws.specs.Sinking.{copies, copied}

-- The numbers of a forest's outputs, in preorder: an output that nothing reads has none.
abbrev pub numbers_kept : Forest → List ℕ
numbers_kept Bare = []
numbers_kept (Grow l kids rest) = cons_option l.out (numbers_kept kids ++ numbers_kept rest)

-- The numbers that pass a test.
abbrev pub passing : (ℕ → Bool) → List ℕ → List ℕ
passing t [] = []
passing t (j ∷ js) = cond (t j) (j ∷ passing t js) (passing t js)

-- The outputs of Pdo p with forest f that have a reader, in order.
abbrev pub read_outputs : Graph → ℕ → Forest → List ℕ
read_outputs g p f = passing (λ j. is_read g (place p j)) (numbers_kept f)

-- So many numbers from n on.
abbrev pub from : ℕ → ℕ → List ℕ
from n zero = []
from n (suc k) = n ∷ from (n + 1) k

-- ---- one output

-- A Pdo with one output becomes the Flatten of that output of its copies, and keeps its number.
abbrev pub sunk_single : Graph → ℕ → Forest → List Place → Graph
sunk_single g p f ins = record {
  nodes = set_node g.nodes p (Flatten (copied g.next 0 ins)) ++ copies g.next f ins;
  outputs = g.outputs;
  next = g.next + length ins;
}
