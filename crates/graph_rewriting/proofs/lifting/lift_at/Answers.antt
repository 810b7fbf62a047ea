use Rattle.std.proofs.Common.{List, sym, ap, subst, ◌∙◌}
use Rattle.exec_graph.specs.Meaning.{node_at}
use Rattle.exec_graph.specs.Wellformed.{Ascends}
use Rattle.exec_graph.specs.declared.graph.Entry.{Entry}
use Rattle.graph_rewriting.specs.inner.Tests.{is_gbk}
use Rattle.graph_rewriting.proofs.Callers.{can_lift, lifted_is, no_comb, no_group}
use Rattle.graph_rewriting.proofs.lifting.lift_at.Goals as goal

pub is_group_at-requires : goal.is_group_at-requires
is_group_at-requires c = subst Ascends (sym c.as_slice.ensures) c.requires

pub returns-then-not-is_group_at : goal.returns-then-not-is_group_at
returns-then-not-is_group_at c =
    no_group c.args.graph c.args.group
    (ap (λ (es : List Entry). is_gbk (node_at es c.args.group)) (sym c.as_slice.ensures)
    ∙ sym c.is_group_at.ensures ∙ c.if-not-is_group_at.true)

pub returns-in-Some : goal.returns-in-Some
returns-in-Some c = (
  can_lift c.args.graph c.args.group c.in-Some.comb
      (ap (λ (es : List Entry). is_gbk (node_at es c.args.group)) (sym c.as_slice.ensures)
      ∙ sym c.is_group_at.ensures ∙ c.if-not-is_group_at.false)
      (sym c.in-Some.ensures),
  c.lifted.ensures
      ∙ lifted_is c.args.graph c.args.group c.in-Some.comb (sym c.in-Some.ensures),
)

pub returns-in-None : goal.returns-in-None
returns-in-None c = no_comb c.args.graph c.args.group (sym c.in-None.ensures)
