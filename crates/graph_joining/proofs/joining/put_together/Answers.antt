use Rattle.std.specs.Prelude.{IfOk}
use Rattle.std.proofs.Common.{◌≡◌, sym, subst}
use Rattle.exec_graph.specs.Forests.{grown}
use Rattle.graph_joining.specs.declared.joining.Manner.{Manner}
use Rattle.graph_joining.specs.inner.Joined.{together}
use Rattle.graph_joining.proofs.joining.put_together.Goals as goal

pub returns-in-Kid : goal.returns-in-Kid
returns-in-Kid c =
    subst (λ (m : Manner). IfOk c.planted.result (λ v. grown v.items
    ≡ together m (grown c.args.near.items) (grown c.args.far.items))) (sym c.in-Kid.is)
    c.planted.ensures

pub returns-in-Sibling : goal.returns-in-Sibling
returns-in-Sibling c =
    subst (λ (m : Manner). IfOk c.side_by_side.result (λ v. grown v.items
    ≡ together m (grown c.args.near.items) (grown c.args.far.items))) (sym c.in-Sibling.is)
    c.side_by_side.ensures
