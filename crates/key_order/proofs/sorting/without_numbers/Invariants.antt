use Rattle.std.proofs.Common.{◌≡◌, map, take}
use Rattle.key_order.proofs.sorting.without_numbers.Given as goal

abbrev pub invariant-loop-each : goal.invariant-loop-each
invariant-loop-each l =
    map (λ p. p.now) l.all.items ≡ map (λ e. e.1.now) (take l.each-index l.numbered)
