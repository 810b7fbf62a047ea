use Rattle.std.specs.Prelude.{nat_eq}
use Rattle.std.proofs.Common.{arith}
use Rattle.std.specs.HashMap.{get}
use Rattle.graph_names.proofs.KindLemmas.{noted}
use Rattle.graph_names.proofs.kinds.pdos_of.Goals as goal

pub returns : goal.returns
returns c = λ n.
    let l = c.loop-entry in
    noted (get nat_eq l.pdos n) c.args.nodes.now l.entry-index n (omega arith) (l.invariant n)
