use Rattle.std.proofs.Common.{◌≡◌, ◌∙◌, Option, Some, ap, refl, sym, subst, arith}
use Rattle.exec_graph.specs.of_combine_table.declared.comb.Comb.{Comb}
use Rattle.exec_graph.specs.declared.graph.Node.TheVariants.{Pdo, Gbk}
use Rattle.exec_graph.specs.Meaning.{node_at}
use Rattle.fusion_blocks.specs.inner.Stretches.{IsStretch}
use Rattle.fusion_blocks.specs.inner.Tables.{known}
use Rattle.fusion_blocks.proofs.Filling.{all_below, turns_less}
use Rattle.fusion_blocks.proofs.Chaining.{by_group, by_lifted, by_pdo, found_before}
use Rattle.fusion_blocks.proofs.chains.+stretch_to.Goals as goal

pub stretch_to-requires : goal.stretch_to-requires
stretch_to-requires t c =
    let some = turns_less c.args.nodes.now c.args.turns c.args.c.node c.requires.below in
    let found : node_at c.args.nodes.now c.args.c.node
    ≡ Some (Pdo c.in-Some-Pdo.input c.in-Some-Pdo.field-0-1) =
    c.in-Some-Pdo.ensures ∙ ap Some c.in-Some-Pdo.field-0-is in (
      omega (arith, c.decreases),
      (c.requires.index, ((all_below c.requires.below found refl).0, c.requires.before)),
    )

pub returns-in-Some-clause-is : goal.returns-in-Some-clause-is
returns-in-Some-clause-is t c =
    let es = c.args.nodes.now in
    let m = known c.args.estimates.now in
    let pdo = c.in-Some-Pdo in
    let s = c.in-Some.stretch in
    let b = c.requires.before c.args.c.node s
    (sym c.get.ensures.value ∙ sym c.copied.ensures ∙ c.in-Some.is) in
    let found : node_at es c.args.c.node ≡ Some (Pdo pdo.input pdo.field-0-1) =
    pdo.ensures ∙ ap Some pdo.field-0-is in
    subst (IsStretch es m c.args.c) (sym c.longer.ensures)
    (by_pdo es m c.args.c pdo.input pdo.field-0-1 s found
    (found_before es m c.args.c.node b.input pdo.input b.pdo.forest pdo.field-0-1 s b.pdo.is found
    b.is))

pub returns-in_ok-insert-in-None-clause-is : goal.returns-in_ok-insert-in-None-clause-is
returns-in_ok-insert-in-None-clause-is t c =
    subst (IsStretch c.args.nodes.now (known c.args.estimates.now) c.args.c)
    (sym c.longer-in-None.ensures)
    (by_pdo c.args.nodes.now (known c.args.estimates.now) c.args.c c.in-Some-Pdo.input
    c.in-Some-Pdo.field-0-1 c.in_ok-stretch-in-None.stretch
    (c.in-Some-Pdo.ensures ∙ ap Some c.in-Some-Pdo.field-0-is) c.in_ok-stretch-in-None.ensures.is)

pub returns-in-Some-Gbk-default-default-default-None-clause-is :
    goal.returns-in-Some-Gbk-default-default-default-None-clause-is
returns-in-Some-Gbk-default-default-default-None-clause-is t c =
    let i = c.in-Some-Gbk-default-default-default-None in
    by_group c.args.nodes.now (known c.args.estimates.now) c.args.c i.field-0-0 i.field-0-1
    i.field-0-2 (i.ensures ∙ ap Some i.field-0-is
    ∙ ap (λ (k : Option Comb). Some (Gbk i.field-0-0 i.field-0-1 i.field-0-2 k)) i.field-0-3-is)

pub returns-in-Some-Gbk-default-default-default-Some-clause-is :
    goal.returns-in-Some-Gbk-default-default-default-Some-clause-is
returns-in-Some-Gbk-default-default-default-Some-clause-is t c =
    let i = c.in-Some-Gbk-default-default-default-Some in
    by_lifted c.args.nodes.now c.args.c i.field-0-0 i.field-0-1 i.field-0-2 i.field-0-3-0
    (i.ensures ∙ ap Some i.field-0-is
    ∙ ap (λ (k : Option Comb). Some (Gbk i.field-0-0 i.field-0-1 i.field-0-2 k)) i.field-0-3-is)
