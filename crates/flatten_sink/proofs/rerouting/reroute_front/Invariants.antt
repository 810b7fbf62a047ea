use Rattle.std.proofs.Common.{◌≡◌, ◌++◌, drop, length, map, take}
use Rattle.sink_laws.specs.of_graph_laws.Joining.{reread_entry}
use Rattle.sink_laws.specs.Sinking.{rerouted}
use Rattle.flatten_sink.proofs.rerouting.reroute_front.Given as goal

abbrev pub invariant-loop-i : goal.invariant-loop-i
invariant-loop-i l = record {
  same : length l.nodes.items ≡ length l.fn.nodes.items;
  done : l.nodes.items
      ≡ map (reread_entry (rerouted l.pdo l.base)) (take l.i l.fn.nodes.items)
      ++ drop l.i l.fn.nodes.items;
}
