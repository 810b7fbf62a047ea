use Rattle.std.proofs.Common.{◌≡◌, ◌++◌, List, length}
use Rattle.flume_value.specs.declared.value.Value.{Value}
use Rattle.map_shard.specs.inner.Legs.{HaveRun}
use Rattle.map_shard.proofs.legs.Steps.run_legs.Given as goal

abbrev pub invariant-turns : goal.invariant-turns
invariant-turns g l =
    (done : List Value) × (done ++ l.left ≡ l.fn.elements)
    × HaveRun g.F.Functions.called l.self done l.legs

abbrev pub decreases-turns : goal.decreases-turns
decreases-turns g l = length l.left
