use Rattle.std.proofs.Common.{List, refl, sym, ap, subst, ◌∙◌}
use Rattle.std.proofs.lemmas.Bool.{false≢true}
use Rattle.exec_graph.specs.Meaning.{node_at}
use Rattle.exec_graph.specs.Wellformed.{Ascends}
use Rattle.exec_graph.specs.declared.graph.Entry.{Entry}
use Rattle.graph_rewriting.specs.inner.Tests.{can_mark}
use Rattle.graph_rewriting.proofs.Passes.{mark_passes, passes_mark}
use Rattle.graph_rewriting.proofs.marking.markable.Goals as goal

pub can_mark-requires : goal.can_mark-requires
can_mark-requires c = subst Ascends (sym c.as_slice.ensures) c.requires

pub returns-then-can_mark : goal.returns-then-can_mark
returns-then-can_mark c =
    let n = c.args.node in
    let j = c.args.output in (
      mark_passes c.args.graph n j
          (ap (λ (es : List Entry). can_mark (node_at es n) j) (sym c.as_slice.ensures)
          ∙ sym c.can_mark.ensures ∙ c.if-can_mark.true),
      refl,
    )

pub returns-else-can_mark : goal.returns-else-can_mark
returns-else-can_mark c = λ can.
    let n = c.args.node in
    let j = c.args.output in
    false≢true (sym c.if-can_mark.false ∙ c.can_mark.ensures
    ∙ ap (λ (es : List Entry). can_mark (node_at es n) j) c.as_slice.ensures
    ∙ passes_mark c.args.graph n j can)
