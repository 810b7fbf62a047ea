use Rattle.std.proofs.Common.{◌≡◌, map, take}
use Rattle.plan_tracing.specs.inner.Codes.{place_at}
use Rattle.plan_tracing.proofs.marking.places_of.Given as goal

abbrev pub invariant-loop-number : goal.invariant-loop-number
invariant-loop-number l = l.places ≡ map place_at (take l.number-index l.codes)
