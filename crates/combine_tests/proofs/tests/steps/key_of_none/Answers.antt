use Rattle.std.proofs.Common.{refl}
use Rattle.std.proofs.lemmas.Result.{IfOk-weaker}
use Rattle.combine_table.specs.declared.comb.Comb.TheVariants as by
use Rattle.combine_tests.proofs.IntTables.{none_suits}
use Rattle.combine_tests.proofs.tests.steps.key_of_none.Goals as goal

pub returns-clause-sum : goal.returns-clause-sum
returns-clause-sum c = IfOk-weaker c.pair.result _ _
    (λ g e. none_suits by.Sum _ c.new.result g refl c.new.ensures e) c.pair.ensures

pub returns-clause-least : goal.returns-clause-least
returns-clause-least c = IfOk-weaker c.pair.result _ _
    (λ g e. none_suits by.Min _ c.new.result g tt c.new.ensures e) c.pair.ensures
