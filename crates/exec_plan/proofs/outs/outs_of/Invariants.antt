use Rattle.std.proofs.Common.{◌≡◌, ◌++◌, drop}
use Rattle.exec_plan.specs.Channels.{outs_of}
use Rattle.exec_plan.proofs.Spotted.{spot_outs}
use Rattle.exec_plan.proofs.outs.outs_of.Given as goal

abbrev pub invariant-loop-spot : goal.invariant-loop-spot
invariant-loop-spot l =
    l.outs.items ++ spot_outs (drop l.spot-index l.spot-items) ≡ outs_of l.roots
