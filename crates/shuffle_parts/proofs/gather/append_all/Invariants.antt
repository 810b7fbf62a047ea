use Rattle.std.proofs.Common.{◌≡◌, ◌++◌, take, map}
use Rattle.shuffle_parts.proofs.gather.append_all.Given as goal

abbrev pub invariant-loop-item : goal.invariant-loop-item
invariant-loop-item g l =
    map (λ x. x.now) l.all.items ≡ map (λ x. x.now) l.fn.all.items ++ take l.item-index l.items
