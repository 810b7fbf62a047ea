use Rattle.exec_graph.specs.Objects.{argument}
use Rattle.task_safety.proofs.Arguments.{argument_taken}
use Rattle.task_safety.proofs.laws.act_law.Goals as goal

pub returns : goal.returns
returns g c w k origin f last t takes values ready found =
    ready.calls f (argument values)
    (argument_taken ready.signatures ready.types t ready.lists takes f ready.typed.0 values found)
