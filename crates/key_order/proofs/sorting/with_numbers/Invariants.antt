use Rattle.std.proofs.Common.{◌≡◌, All, map, take}
use Rattle.key_order.specs.inner.Numbered.{IsNumbered}
use Rattle.key_order.proofs.sorting.with_numbers.Given as goal

abbrev pub invariant-loop-pair : goal.invariant-loop-pair
invariant-loop-pair l = record {
  pairs : map (λ e. e.1.now) l.all.items ≡ map (λ p. p.now) (take l.pair-index l.pairs);
  numbers : All (λ e. IsNumbered e.0 e.1.now) l.all.items;
}
