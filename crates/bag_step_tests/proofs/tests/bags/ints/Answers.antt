use Rattle.std.proofs.Common.{sym, subst}
use Rattle.std.specs.List.Sorted.{IsSorted}
use Rattle.std.proofs.lemmas.Result.{IfOk-weaker}
use Rattle.flume_value.specs.Order.{value_cmp}
use Rattle.flume_value.proofs.BagLemmas.{IsSorted-bag_of}
use Rattle.bag_step_tests.proofs.tests.bags.ints.Goals as goal

pub returns : goal.returns
returns c =
    IfOk-weaker c.sorted.result _ _
    (λ bag e. subst (IsSorted value_cmp) (sym e) (IsSorted-bag_of c.loop-member.bag.items))
    c.sorted.ensures
