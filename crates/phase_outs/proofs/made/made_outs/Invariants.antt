use Rattle.std.proofs.Common.{◌≡◌, ◌++◌}
use Rattle.phase_outs.specs.inner.Made.{AreMadeOf}
use Rattle.phase_outs.proofs.made.made_outs.Given as goal

abbrev pub invariant-loop-won : goal.invariant-loop-won
invariant-loop-won g l = record {
  whole : l.yielded ++ l.won-iterator.rest.items ≡ l.fn.kept.items;
  made : AreMadeOf l.yielded l.made;
}
