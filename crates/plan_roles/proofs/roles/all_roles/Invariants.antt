use Rattle.std.proofs.Common.{◌≡◌, ◌++◌, drop, map}
use Rattle.plan_roles.specs.Roles.{role_of, roles}
use Rattle.plan_roles.proofs.roles.all_roles.Given as goal

abbrev pub invariant-loop-e : goal.invariant-loop-e
invariant-loop-e l = l.all ++ map (role_of l.blocked) (drop l.e-index l.e-items) ≡ roles l.blocked
