use Rattle.std.proofs.Common.{◌≡◌, ◌-◌, ◌^◌, min, max, drop}
use Rattle.flume_types.specs.Depth.{depth_of, deepest}
use Rattle.flume_types.proofs.deep.+depth.Given as goal

abbrev pub invariant-deepest-loop-field : goal.invariant-deepest-loop-field
invariant-deepest-loop-field l =
    max l.most (min (deepest depth_of (drop l.field-index l.fields)) (2 ^ 32 - 1))
    ≡ min (deepest depth_of l.fields) (2 ^ 32 - 1)
