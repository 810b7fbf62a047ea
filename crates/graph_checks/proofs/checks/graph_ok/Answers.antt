use Rattle.std.proofs.Common.{rules}
use Rattle.graph_checks.proofs.Checking.{checked, not_flat, not_objects, not_ordered}
use Rattle.graph_checks.proofs.checks.graph_ok.Goals as goal

pub returns-then-not-are_flattens_ok : goal.returns-then-not-are_flattens_ok
returns-then-not-are_flattens_ok c =
    not_flat c.args.graph.now c.as_slice-nodes.result.now c.are_flattens_ok.result
    c.as_slice-nodes.ensures c.are_flattens_ok.ensures
    (let q = c.if-not-are_flattens_ok.true in search rules)

pub returns-then-not-branch-3 : goal.returns-then-not-branch-3
returns-then-not-branch-3 c =
    not_ordered c.args.graph.now c.in_ok-are_forests_ok.field-0 c.in_ok-are_forests_ok.ensures
    (let q = c.if-not-branch-3.true in search rules)

pub returns-then-not-branch-4 : goal.returns-then-not-branch-4
returns-then-not-branch-4 c =
    not_objects c.args.graph.now c.as_slice-nodes.result.now c.in_ok-are_objects_ok.field-0
    c.as_slice-nodes.ensures c.in_ok-are_objects_ok.ensures
    (let q = c.if-not-branch-4.true in search rules)

pub returns : goal.returns
returns c =
    checked c.args.graph.now c.as_slice-nodes.result.now c.in_ok-is_founded.field-0
    c.in_ok-are_few.field-0 c.are_flattens_ok.result c.in_ok-are_forests_ok.field-0
    c.in_ok-are_objects_ok.field-0 c.in_ok-lifted.lifted c.as_slice-nodes.ensures
    c.in_ok-is_founded.ensures c.if-not-branch.false c.in_ok-are_few.ensures c.if-not-branch-2.false
    c.are_flattens_ok.ensures (let q = c.if-not-are_flattens_ok.false in search rules)
    c.in_ok-are_forests_ok.ensures c.if-not-branch-3.false c.in_ok-are_objects_ok.ensures
    c.if-not-branch-4.false c.in_ok-lifted.ensures
