use Rattle.std.proofs.Common.{arith}
use Rattle.plan_checks.proofs.Counting.{kids_counted, out_few}
use Rattle.plan_checks.proofs.counts.+count.Goals as goal

pub count_output-loop-kid-init : goal.count_output-loop-kid-init
count_output-loop-kid-init t c =
    let few = out_few c.args.output.now.number in
    let kids = kids_counted c.args.output.now c.deref-kid-items.result.now
    c.deref-kid-items.ensures.value in
    let count = c.count_out-count.ensures in (omega arith, omega arith)
