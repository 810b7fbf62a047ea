use Rattle.std.proofs.Common.{arith, refl}
use Rattle.shuffle_parts.specs.Outs.{all_partials, partials_at}
use Rattle.shuffle_parts.proofs.Finding.{begins, found_all, found_here, found_more}
use Rattle.shuffle_parts.proofs.gather.gather_partials.Goals as goal

pub loop-out-init : goal.loop-out-init
loop-out-init c =
    begins (partials_at c.args.channel c.args.partition) c.args.outs.now _
    (rw c.new-all.ensures.items refl) c.requires

pub partials_at-requires : goal.partials_at-requires
partials_at-requires c =
    found_here (partials_at c.args.channel c.args.partition) c.args.outs.now c.loop-out.out-index
    c.out-item.result c.loop-out-test.true c.out-item.is _ _ c.loop-out.invariant

pub loop-out-preserved : goal.loop-out-preserved
loop-out-preserved c =
    found_more (partials_at c.args.channel c.args.partition) c.args.outs.now c.loop-out.out-index
    c.out-item.result c.loop-out-test.true c.out-item.is _ _ c.loop-out.invariant
    c.partials_at.result.now _ c.partials_at.ensures c.in_ok-append_all.ensures

pub returns : goal.returns
returns c =
    found_all (partials_at c.args.channel c.args.partition) c.args.outs.now c.loop-out.out-index
    (all_partials c.args.outs.now c.args.channel c.args.partition) _
    (omega (arith, c.loop-out-test.false)) c.loop-out.invariant
