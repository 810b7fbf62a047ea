use Rattle.std.proofs.Common.{sym, subst}
use Rattle.std.specs.List.Sorted.{IsSorted}
use Rattle.std.proofs.lemmas.Result.{IfOk-weaker}
use Rattle.flume_value.specs.Order.{value_cmp}
use Rattle.flume_value.proofs.BagLemmas.{IsSorted-bag_of}
use Rattle.bag_groups.proofs.Grouping.{pairs_begin}
use Rattle.bag_step_tests.proofs.tests.bags.table.Goals as goal

pub returns-clause-pairs : goal.returns-clause-pairs
returns-clause-pairs c =
    IfOk-weaker c.sorted.result _ _
    (λ bag e. pairs_begin c.loop-member.bag.items bag.items e c.loop-member.invariant)
    c.sorted.ensures

pub returns-clause-ascending : goal.returns-clause-ascending
returns-clause-ascending c =
    IfOk-weaker c.sorted.result _ _
    (λ bag e. subst (IsSorted value_cmp) (sym e) (IsSorted-bag_of c.loop-member.bag.items))
    c.sorted.ensures
