use Rattle.std.proofs.Common.{◌≡◌, ◌++◌, drop, map}
use Rattle.plan_laws.specs.Operations.{group_channel, pass_of}
use Rattle.plan_making.proofs.stages.outputs_of.Given as goal

abbrev pub invariant-loop-c : goal.invariant-loop-c
invariant-loop-c l =
    l.outputs.items ++ map (pass_of l.keys) (drop l.c-index l.passes)
    ≡ map (group_channel l.nodes l.keys) l.groups ++ map (pass_of l.keys) l.passes
