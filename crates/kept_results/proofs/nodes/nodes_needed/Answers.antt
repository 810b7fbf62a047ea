use Rattle.std.proofs.Common.{arith}
use Rattle.kept_results.proofs.Steps.{told_all, told_next}
use Rattle.kept_results.specs.Sizes.{named_only, nodes_needed}
use Rattle.script_program.specs.Needed.{is_needed}
use Rattle.kept_results.proofs.nodes.nodes_needed.Goals as goal

pub loop-number-preserved : goal.loop-number-preserved
loop-number-preserved c =
    let script = c.args.program.now.script in
    told_next script.nodes (is_needed script) named_only c.loop-number.nodes.items
    c.push_node.new.nodes.items (nodes_needed script) c.loop-number.number
    c.is_needed-is_one.result (omega arith) c.is_needed-is_one.ensures
    c.in_ok-push_node.ensures c.loop-number.invariant

pub returns : goal.returns
returns c =
    let script = c.args.program.now.script in
    told_all script.nodes (is_needed script) named_only c.loop-number.nodes.items
    (nodes_needed script) c.loop-number.number
    (omega (arith, c.loop-number-test.false, c.node_count-number-end.ensures))
    c.loop-number.invariant
