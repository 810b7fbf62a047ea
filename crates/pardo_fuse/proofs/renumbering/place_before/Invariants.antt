use Rattle.std.proofs.Common.{◌≡◌, ◌+◌, drop}
use Rattle.pardo_fuse.specs.inner.Numbers.{place_before}
use Rattle.pardo_fuse.proofs.renumbering.place_before.Given as goal

abbrev pub invariant-loop-e : goal.invariant-loop-e
invariant-loop-e l = record {
  many : l.place ≡ l.e-index;
  left : l.place + place_before l.number (drop l.e-index l.nodes) ≡ place_before l.number l.nodes;
}
