use Rattle.std.proofs.Common.{◌≡◌, ◌++◌, drop}
use Rattle.map_shard.specs.inner.Sending.{takes_joined, left}
use Rattle.map_shard.proofs.send.joined.Given as goal

abbrev pub invariant-loop-take : goal.invariant-loop-take
invariant-loop-take l = record {
  all : l.values ++ takes_joined (drop l._take-index l.takes) l.given.rest.items
      ≡ takes_joined l.takes l.fn.given.rest.items;
  rest : left (drop l._take-index l.takes) l.given.rest.items
      ≡ left l.takes l.fn.given.rest.items;
}
