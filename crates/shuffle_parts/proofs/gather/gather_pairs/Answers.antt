use Rattle.std.proofs.Common.{arith, refl}
use Rattle.shuffle_parts.specs.Outs.{all_pairs, pairs_at}
use Rattle.shuffle_parts.proofs.Finding.{begins, found_all, found_here, found_more}
use Rattle.shuffle_parts.proofs.gather.gather_pairs.Goals as goal

pub loop-out-init : goal.loop-out-init
loop-out-init c =
    begins (pairs_at c.args.channel c.args.partition) c.args.outs.now _
    (rw c.new-all.ensures.items refl) c.requires

pub pairs_at-requires : goal.pairs_at-requires
pairs_at-requires c =
    found_here (pairs_at c.args.channel c.args.partition) c.args.outs.now c.loop-out.out-index
    c.out-item.result c.loop-out-test.true c.out-item.is _ _ c.loop-out.invariant

pub loop-out-preserved : goal.loop-out-preserved
loop-out-preserved c =
    found_more (pairs_at c.args.channel c.args.partition) c.args.outs.now c.loop-out.out-index
    c.out-item.result c.loop-out-test.true c.out-item.is _ _ c.loop-out.invariant
    c.pairs_at.result.now _ c.pairs_at.ensures c.in_ok-append_all.ensures

pub returns : goal.returns
returns c =
    found_all (pairs_at c.args.channel c.args.partition) c.args.outs.now c.loop-out.out-index
    (all_pairs c.args.outs.now c.args.channel c.args.partition) _
    (omega (arith, c.loop-out-test.false)) c.loop-out.invariant
