use Rattle.std.proofs.Common.{drop, map}
use Rattle.shuffle_parts.specs.Outs.{all_partials, partials_at}
use Rattle.shuffle_parts.proofs.Finding.{ComesTo}
use Rattle.shuffle_parts.proofs.gather.gather_partials.Given as goal

abbrev pub invariant-loop-out : goal.invariant-loop-out
invariant-loop-out l =
    ComesTo (partials_at l.channel l.partition) (drop l.out-index l.outs)
    (all_partials l.outs l.channel l.partition) (map (λ p. p.now) l.all.items)
