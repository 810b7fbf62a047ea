use Rattle.std.proofs.Common.{◌≡◌, ◌++◌, drop}
use Rattle.exec_graph.specs.Meaning.{place}
use Rattle.exec_graph.specs.Readers.{calls_on, readers, those}
use Rattle.graph_rewriting.specs.inner.Tests.{found_list}
use Rattle.graph_rewriting.proofs.lifting.only_caller.Given as goal

-- those of what is left, behind the one that was found
abbrev pub invariant-loop-entry : goal.invariant-loop-entry
invariant-loop-entry l =
    found_list l.found ++ those (calls_on (place l.node 0)) (drop l.entry-index l.nodes)
    ≡ readers l.nodes (place l.node 0)
