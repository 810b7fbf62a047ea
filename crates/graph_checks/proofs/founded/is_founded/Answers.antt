use Rattle.std.proofs.Common.{rules, ◌∙◌}
use Rattle.graph_checks.proofs.Founding.{not_rising, not_read, not_told, ascends_now, rising_now, there_now, told_now, within_now, founded_now}
use Rattle.graph_checks.proofs.founded.is_founded.Goals as goal

pub returns-then-not-rises : goal.returns-then-not-rises
returns-then-not-rises c = not_rising c.args.graph.now c.as_slice-nodes.result.now c.rises.result
    c.as_slice-nodes.ensures c.rises.ensures (let q = c.if-not-rises.true in search rules)

pub returns-then-not-all_reads_given : goal.returns-then-not-all_reads_given
returns-then-not-all_reads_given c = not_read c.args.graph.now c.as_slice-nodes.result.now
    c.all_reads_given.result c.as_slice-nodes.ensures c.all_reads_given.ensures
    (let q = c.if-not-all_reads_given.true in search rules)

pub returns-then-not-are_given : goal.returns-then-not-are_given
returns-then-not-are_given c = not_told c.args.graph.now c.as_slice-nodes.result.now
    c.as_slice.result.now c.are_given.result c.as_slice-nodes.ensures c.as_slice.ensures
    c.are_given.ensures (let q = c.if-not-are_given.true in search rules)

pub all_edges-requires : goal.all_edges-requires
all_edges-requires c = rising_now c.args.graph.now c.as_slice-nodes.result.now c.rises.result
    c.as_slice-2.result.now c.as_slice-nodes.ensures c.rises.ensures
    (let q = c.if-not-rises.false in search rules)
    (c.as_slice-2.ensures.value ∙ c.in_ok-numbers.ensures)

pub is_acyclic-requires : goal.is_acyclic-requires
is_acyclic-requires c =
    let r = ascends_now c.args.graph.now c.as_slice-nodes.result.now c.rises.result
    c.as_slice-nodes.ensures c.rises.ensures (let q = c.if-not-rises.false in search rules) in
    within_now c.args.graph.now c.as_slice-nodes.result.now c.as_slice-2.result.now
    c.as_slice-3.result.now c.as_slice-nodes.ensures
    (c.as_slice-2.ensures.value ∙ c.in_ok-numbers.ensures)
    (c.as_slice-3.ensures.value ∙ c.in_ok-edges.ensures)
    (there_now c.args.graph.now c.as_slice-nodes.result.now r c.all_reads_given.result
    c.as_slice-nodes.ensures c.all_reads_given.ensures
    (let q = c.if-not-all_reads_given.false in search rules))

pub returns : goal.returns
returns c =
    let r = ascends_now c.args.graph.now c.as_slice-nodes.result.now c.rises.result
    c.as_slice-nodes.ensures c.rises.ensures (let q = c.if-not-rises.false in search rules) in
    founded_now c.args.graph.now c.as_slice-nodes.result.now c.as_slice-2.result.now
    c.as_slice-3.result.now c.in_ok-acyclic.acyclic c.as_slice-nodes.ensures
    (c.as_slice-2.ensures.value ∙ c.in_ok-numbers.ensures)
    (c.as_slice-3.ensures.value ∙ c.in_ok-edges.ensures) r
    (there_now c.args.graph.now c.as_slice-nodes.result.now r c.all_reads_given.result
    c.as_slice-nodes.ensures c.all_reads_given.ensures
    (let q = c.if-not-all_reads_given.false in search rules))
    (told_now c.args.graph.now c.as_slice-nodes.result.now c.as_slice.result.now r
    c.are_given.result c.as_slice-nodes.ensures c.as_slice.ensures c.are_given.ensures
    (let q = c.if-not-are_given.false in search rules))
    c.in_ok-acyclic.ensures
