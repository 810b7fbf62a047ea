use Rattle.std.proofs.Common.{◌≡◌, take, map}
use Rattle.direct_meaning.proofs.operate.record_of.Given as goal

abbrev pub invariant-loop-value : goal.invariant-loop-value
invariant-loop-value l = l.fields.items ≡ map (λ x. x.now) (take l.value-index l.values)
