use Rattle.std.proofs.Common.{◌+◌, ◌*◌}
use Rattle.dofn_calls.specs.declared.scope.Scope.{size-Scope}
use Rattle.dofn_calls.proofs.scope.+look_up.Given as goal

abbrev pub decreases-look_up : goal.decreases-look_up
decreases-look_up l = 2 * size-Scope l.scope.now

abbrev pub decreases-look_up_named : goal.decreases-look_up_named
decreases-look_up_named l = 2 * size-Scope l.rest.now + 1
