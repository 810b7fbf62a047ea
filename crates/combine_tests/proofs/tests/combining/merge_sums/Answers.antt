use Rattle.std.proofs.Common.{sym, subst}
use Rattle.std.proofs.lemmas.Result.{IfOk-weaker}
use Rattle.combine_table.specs.declared.comb.Comb.TheVariants as by
use Rattle.combine_table.specs.Accumulators.{HasShape}
use Rattle.combine_table.proofs.Merging.{merged-HasShape}
use Rattle.combine_tests.proofs.tests.combining.merge_sums.Goals as goal

pub returns : goal.returns
returns c = IfOk-weaker c.merge.result _ _
    (λ v e. subst (HasShape by.Sum) (sym e) (merged-HasShape by.Sum c.args.left c.args.right))
    c.merge.ensures
