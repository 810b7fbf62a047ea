-- The channels of a stage that group.
use Rattle.std.specs.Prelude.{Bool, true, false}
use Rattle.exec_plan.specs.declared.plan.OutChannel.{OutChannel}
use Rattle.exec_plan.specs.declared.plan.OutChannel.TheVariants.{Group, Pass}

abbrev pub is_group : OutChannel → Bool
is_group (Group g) = true
is_group (Pass k n) = false
