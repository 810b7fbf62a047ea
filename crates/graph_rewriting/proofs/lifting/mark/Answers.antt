use Rattle.std.proofs.Common.{ap, ◌∙◌}
use Rattle.std.proofs.lemmas.Bool.{eq-eqb, ne_eqb}
use Rattle.exec_graph.specs.declared.graph.Node.{Node}
use Rattle.exec_graph.proofs.Entries.{entry}
use Rattle.graph_rewriting.proofs.Callers.{marked_here, marked_other}
use Rattle.graph_rewriting.proofs.lifting.mark.Goals as goal

pub returns-then-entry-group : goal.returns-then-entry-group
returns-then-entry-group c =
    marked_other c.args.comb c.args.entry.now c.args.group
    (ne_eqb c.args.entry.now.number c.args.group c.if-entry-group.true)

pub returns : goal.returns
returns c =
    ap (λ (x : Node). entry c.args.entry.now.number x) c.mark_node.ensures
    ∙ marked_here c.args.comb c.args.entry.now c.args.group
    (eq-eqb c.args.entry.now.number c.args.group c.if-entry-group.false)
