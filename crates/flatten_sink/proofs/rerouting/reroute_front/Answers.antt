use Rattle.std.proofs.Common.{◌≤◌, List, length, set, ap, ◌∙◌, arith, length-set}
use Rattle.std.proofs.lemmas.List.Edits.{map_over_more}
use Rattle.exec_graph.specs.declared.graph.Entry.{Entry}
use Rattle.sink_laws.specs.of_graph_laws.Joining.{reread_entry}
use Rattle.sink_laws.specs.Sinking.{rerouted}
use Rattle.flatten_sink.proofs.rerouting.reroute_front.Goals as goal

pub loop-i-preserved : goal.loop-i-preserved
loop-i-preserved c =
    let l = c.loop-i in
    let xs : List Entry = c.args.nodes.now.items in
    let fits : c.args.count ≤ length xs = c.requires in record {
      same = length-set _ _ _ ∙ l.invariant.same;
      done = ap (λ (e : Entry). set l.nodes.items l.i e) c.in_ok-reroute_entry.ensures
          ∙ map_over_more (reread_entry (rerouted c.args.pdo c.args.base)) xs l.nodes.items l.i
          c.index_mut.result.now (omega arith) l.invariant.done c.index_mut.ensures.value;
    }
