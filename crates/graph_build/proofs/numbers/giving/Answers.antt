use Rattle.std.proofs.Common.{◌≡◌, ◌<◌, length, arith}
use Rattle.graph_build.proofs.StepLemmas.{giving_next, giving_all}
use Rattle.graph_build.specs.Graphs.{giving}
use Rattle.graph_build.proofs.numbers.giving.Goals as goal

pub loop-number-preserved : goal.loop-number-preserved
loop-number-preserved c =
    let below : c.loop-number.number < length c.args.program.now.script.nodes = omega arith in
    giving_next c.args.program.now.script c.loop-number.giving.items c.push_giving.new.giving.items
    (giving c.args.program.now.script) c.loop-number.number c.loop-number.next c.in_ok-next.next
    below c.in_ok-next.ensures.pushed c.in_ok-next.ensures.next c.loop-number.invariant

pub returns : goal.returns
returns c =
    let end : c.loop-number.number ≡ length c.args.program.now.script.nodes = omega arith in
    giving_all c.args.program.now.script c.loop-number.giving.items
    (giving c.args.program.now.script) c.loop-number.number c.loop-number.next end
    c.loop-number.invariant
