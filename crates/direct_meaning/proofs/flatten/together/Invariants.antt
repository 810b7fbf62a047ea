use Rattle.std.proofs.Common.{◌≡◌, take}
use Rattle.std.specs.List.{flat_map}
use Rattle.direct_meaning.specs.inner.Kept.{kept_in, members_of}
use Rattle.direct_meaning.proofs.flatten.together.Given as goal

abbrev pub invariant-loop-source : goal.invariant-loop-source
invariant-loop-source l =
    l.all.items ≡
    flat_map (λ source. members_of (kept_in l.table source)) (take l.source-index l.sources)
