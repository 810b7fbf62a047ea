-- What a step holds is smaller than the step.
use Rattle.std.proofs.Common.{◌≡◌, ◌≤◌, subst, arith}
use denote.Param.Weighed.{most}
use Rattle.graph_laws.specs.of_exec_graph.Forests.{Branch}
use Rattle.graph_laws.specs.of_exec_graph.inner.Falls.{step_falls}
use Rattle.graph_laws.specs.of_exec_graph.declared.step.Step.TheDeep.{deep-Output}
use Rattle.graph_laws.specs.of_exec_graph.declared.step.Step.TheInside.{Inside}
use Rattle.graph_laws.specs.of_exec_graph.declared.step.Step.TheView.{size}
use Rattle.graph_walks.proofs.Relabeling.{held}

-- its further outputs
pub more_fall : (a : Inside) (b : Branch) → held a ≡ b → most deep-Output a.more.items ≤ size b
more_fall a b e =
    subst (λ (x : Branch). most deep-Output a.more.items ≤ size x) e (omega (arith, step_falls a))
