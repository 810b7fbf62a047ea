use Rattle.std.proofs.Common.{None, get_or}
use Rattle.run_sizes.proofs.Named.{at_number, one_named}
use Rattle.run_sizes.proofs.sizes.named.Goals as goal

pub loop-number-preserved : goal.loop-number-preserved
loop-number-preserved c =
    let sizes = c.args.sizes.now in
    one_named c.args.program.now.script.nodes sizes c.loop-number.number c.node_name.result.now
    (get_or sizes c.loop-number.number None) c.loop-number.named.items
    c.push_size.new.named.items c.node_name.ensures
    (at_number sizes c.loop-number.number c.loop-number-test.true) c.in_ok-push_size.ensures
    c.loop-number.invariant
