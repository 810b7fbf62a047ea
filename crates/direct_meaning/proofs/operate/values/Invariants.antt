use Rattle.std.proofs.Common.{◌≡◌, drop, map}
use Rattle.direct_meaning.proofs.OnlyLemmas.{before_all}
use Rattle.direct_meaning.specs.inner.Objects.{values_in}
use Rattle.direct_meaning.proofs.operate.values.Given as goal

abbrev pub invariant-loop-object : goal.invariant-loop-object
invariant-loop-object l =
    before_all (map (λ x. x.now) l.values.items) (values_in l.table (drop l.object-index l.objects))
    ≡ values_in l.table l.objects
