use Rattle.std.proofs.Common.{◌+◌, ◌*◌, ◌≡◌, ◌++◌, length, map, take, drop}
use denote.Param.Weighed.{most}
use Rattle.graph_laws.specs.of_exec_graph.declared.step.Step.TheDeep.{deep-Output}
use Rattle.graph_laws.specs.of_exec_graph.declared.step.Step.TheView.{size}
use Rattle.graph_laws.specs.of_exec_graph.Twigs.{twig}
use Rattle.graph_walks.specs.inner.Relabels.{relabelled_branch, relabelled_twig}
use Rattle.graph_walks.proofs.labels.+relabel.Given as goal

abbrev pub decreases-relabel : goal.decreases-relabel
decreases-relabel g l = 4 * most (λ b. size b + 1) l.steps.now.items

abbrev pub decreases-relabel_step : goal.decreases-relabel_step
decreases-relabel_step g l = 4 * size l.step.now + 3

abbrev pub decreases-relabel_outputs : goal.decreases-relabel_outputs
decreases-relabel_outputs g l = 4 * most deep-Output l.outputs.now.items + 2

abbrev pub decreases-relabel_output : goal.decreases-relabel_output
decreases-relabel_output g l = 4 * deep-Output l.output.now + 1

abbrev pub invariant-relabel-loop-i : goal.invariant-relabel-loop-i
invariant-relabel-loop-i g l =
    let k = relabelled_branch (g.L.Labels.label_of l.by) in record {
      same : length l.steps.items ≡ length l.fn.steps.items;
      done : take l.i l.steps.items ++ map k (drop l.i l.steps.items)
          ≡ map k l.fn.steps.items;
      left : goal.unvisited-relabel-loop-i g l;
    }

abbrev pub invariant-relabel_outputs-loop-i : goal.invariant-relabel_outputs-loop-i
invariant-relabel_outputs-loop-i g l =
    let k = relabelled_twig (g.L.Labels.label_of l.by) in record {
      same : length l.outputs.items ≡ length l.fn.outputs.items;
      done : map twig (take l.i l.outputs.items) ++ map k (map twig (drop l.i l.outputs.items))
          ≡ map k (map twig l.fn.outputs.items);
      left : goal.unvisited-relabel_outputs-loop-i g l;
    }
