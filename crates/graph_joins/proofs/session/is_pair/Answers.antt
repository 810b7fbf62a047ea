use Rattle.std.proofs.Common.{sym, ◌∙◌}
use Rattle.graph_joining.proofs.Passes.{passes_sibling, sibling_passes}
use Rattle.graph_joins.proofs.PresentLemmas.{sibling_present}
use Rattle.graph_joins.proofs.session.is_pair.Goals as goal

pub returns : goal.returns
returns c =
    let g = c.args.joins.now.graph in
    let p = c.args.keeper in
    let q = c.args.other in
    let is = c.can_sibling.ensures ∙ sibling_present c.entries.result.now g.nodes p q
    c.entries.ensures.ascends c.entries.ensures.present in (
      λ e. let pair = sibling_passes g p q (sym is ∙ e) in
          record { less = pair.0; can = pair.1 },
      λ are. is ∙ passes_sibling g p q are.less are.can,
    )
