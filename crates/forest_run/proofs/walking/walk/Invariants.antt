use Rattle.std.proofs.Common.{◌≡◌, ◌+◌, length}
use Rattle.crew.specs.Drills.{attempt_at}
use Rattle.forest_steps.specs.Turns.{in_turn}
use Rattle.forest_run.specs.inner.Asking.{LetThrough}
use Rattle.forest_run.proofs.walking.walk.Given as goal

abbrev pub invariant-loop-place : goal.invariant-loop-place
invariant-loop-place g l = record {
  goes : in_turn (g.E.Elements.turns l.elements) l.outputs
      ≡ in_turn (g.E.Elements.turns l.fn.elements) l.fn.outputs;
  lets : LetThrough (attempt_at l.spot l.task) l.place
      (g.H.Host.account l.fn.host) (g.H.Host.account l.host);
  left : l.place + length (g.E.Elements.turns l.elements)
      ≡ length (g.E.Elements.turns l.fn.elements) + 1;
  safe : g.E.Elements.are_safe l.elements;
}
