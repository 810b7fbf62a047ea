use Rattle.std.proofs.Common.{◌≡◌, ◌∷◌, drop, map}
use Rattle.exec_graph.specs.Forests.{grown}
use Rattle.exec_graph.specs.Twigs.{twig}
use Rattle.std.specs.List.{AllByRecursion}
use Rattle.forest_steps.specs.Functions.{world_of}
use Rattle.forest_steps.specs.Safety.{Safe}
use Rattle.forest_steps.specs.Running.{below, behind_all, run, run_each, run_twigs, SafeTwigs}
use Rattle.forest_steps.proofs.visit.+visit.Given as goal

abbrev pub invariant-visit_outputs-loop-output : goal.invariant-visit_outputs-loop-output
invariant-visit_outputs-loop-output g l = record {
  ran : run_twigs (world_of (g.F.Functions.called l.functions)) l.sizes l.next
      l.answers.rest.items (map twig (drop l.output-index l.output-items)) l.outputs
      ≡ run_twigs (world_of (g.F.Functions.called l.functions)) l.sizes l.at l.fn.answers.items
      (l.step.first ∷ l.step.more) l.fn.outputs;
  place : behind_all l.sizes l.next (map twig (drop l.output-index l.output-items))
      ≡ behind_all l.sizes l.at (l.step.first ∷ l.step.more);
  safe : SafeTwigs (world_of (g.F.Functions.called l.functions))
      (g.F.Functions.can_call l.functions) l.answers.rest.items
      (map twig (drop l.output-index l.output-items));
}

abbrev pub invariant-visit_output-loop-y : goal.invariant-visit_output-loop-y
invariant-visit_output-loop-y g l =
    run_each (run (world_of (g.F.Functions.called l.functions)) l.sizes (below l.at)
    (grown l.output.kids.items)) (drop l.y-index l.y-items) l.outputs
    ≡ run_each (run (world_of (g.F.Functions.called l.functions)) l.sizes (below l.at)
    (grown l.output.kids.items)) l.y-items l.initial.outputs

abbrev pub invariant-visit_kids-loop-kid : goal.invariant-visit_kids-loop-kid
invariant-visit_kids-loop-kid g l =
    run (world_of (g.F.Functions.called l.functions)) l.sizes l.next
    (grown (drop l.kid-index l.kid-items)) l.y l.outputs
    ≡ run (world_of (g.F.Functions.called l.functions)) l.sizes l.at (grown l.kid-items) l.y
    l.fn.outputs

abbrev pub invariant-move_to_kid-loop-y : goal.invariant-move_to_kid-loop-y
invariant-move_to_kid-loop-y g l = record {
  ran : run_each (run (world_of (g.F.Functions.called l.functions)) l.sizes l.at
      (grown l.output.kids.items)) l.y-iterator.rest.items l.outputs
      ≡ run_each (run (world_of (g.F.Functions.called l.functions)) l.sizes l.at
      (grown l.output.kids.items)) l.fn.emitted l.fn.outputs;
  safe : AllByRecursion (Safe (world_of (g.F.Functions.called l.functions))
      (g.F.Functions.can_call l.functions) (grown l.output.kids.items)) l.y-iterator.rest.items;
}
