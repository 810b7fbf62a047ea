use Rattle.std.proofs.Common.{sym, subst, [], ◌∷◌}
use Rattle.std.proofs.lemmas.Result.{IfOk-weaker}
use Rattle.combine_table.specs.declared.comb.Comb.TheVariants as by
use Rattle.combine_table.specs.Accumulators.{HasShape}
use Rattle.combine_table.proofs.Merging.{accumulator-HasShape}
use Rattle.combine_tests.proofs.tests.combining.lift_sum.Goals as goal

pub returns : goal.returns
returns c = IfOk-weaker c.lift.result _ _
    (λ v e. subst (HasShape by.Sum) (sym e) (accumulator-HasShape by.Sum (_ ∷ []))) c.lift.ensures
