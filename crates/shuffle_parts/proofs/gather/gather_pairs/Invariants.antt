use Rattle.std.proofs.Common.{drop, map}
use Rattle.shuffle_parts.specs.Outs.{all_pairs, pairs_at}
use Rattle.shuffle_parts.proofs.Finding.{ComesTo}
use Rattle.shuffle_parts.proofs.gather.gather_pairs.Given as goal

abbrev pub invariant-loop-out : goal.invariant-loop-out
invariant-loop-out l =
    ComesTo (pairs_at l.channel l.partition) (drop l.out-index l.outs)
    (all_pairs l.outs l.channel l.partition) (map (λ p. p.now) l.all.items)
