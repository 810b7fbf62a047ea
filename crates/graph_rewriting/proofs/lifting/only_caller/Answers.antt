use Rattle.std.proofs.Common.{arith}
use Rattle.exec_graph.specs.Meaning.{place}
use Rattle.exec_graph.specs.Readers.{calls_on}
use Rattle.graph_rewriting.proofs.Callers.{found_only}
use Rattle.graph_rewriting.proofs.lifting.only_caller.Goals as goal

pub returns : goal.returns
returns c =
    let l = c.loop-entry in
    found_only (calls_on (place c.args.node 0)) c.args.nodes.now l.entry-index l.found _
    (omega arith) l.invariant
