use Rattle.std.proofs.Common.{◌≡◌, ℕ, ◌||◌, drop, map}
use Rattle.exec_graph.specs.Meaning.{place}
use Rattle.exec_graph.specs.Readers.{any_node, uses}
use Rattle.graph_laws.specs.Joining.{reread_entry}
use Rattle.graph_walks.specs.Outs.{flag}
use Rattle.graph_joining.specs.inner.Apart.{place_by}
use Rattle.graph_joining.proofs.flags.flag_nodes.Given as goal

abbrev pub invariant-loop-entry : goal.invariant-loop-entry
invariant-loop-entry l = (j : ℕ)
    → (flag l.flags.items j || any_node (uses (place l.by.number j))
    (map (reread_entry (place_by l.by)) (drop l.entry-index l.nodes)))
    ≡ (flag l.fn.flags.items j || any_node (uses (place l.by.number j))
    (map (reread_entry (place_by l.by)) l.nodes))
