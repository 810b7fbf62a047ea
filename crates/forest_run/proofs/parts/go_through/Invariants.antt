use Rattle.std.proofs.Common.{◌≡◌, ◌+◌, length}
use Rattle.forest_steps.specs.Turns.{in_turn}
use Rattle.forest_run.proofs.parts.go_through.Given as goal

abbrev pub invariant-loop-place : goal.invariant-loop-place
invariant-loop-place g l = record {
  goes : in_turn (g.E.Elements.turns l.elements) l.outputs
      ≡ in_turn (g.E.Elements.turns l.fn.elements) l.fn.outputs;
  left : l._place + length (g.E.Elements.turns l.elements)
      ≡ length (g.E.Elements.turns l.fn.elements);
  safe : g.E.Elements.are_safe l.elements;
}
