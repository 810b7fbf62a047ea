use Rattle.std.proofs.lemmas.Result.{IfOk-weaker}
use Rattle.combine_tests.proofs.IntTables.{ints_have}
use Rattle.combine_tests.proofs.tests.tables.ints.Goals as goal

pub returns-clause-typed : goal.returns-clause-typed
returns-clause-typed c = IfOk-weaker c.pair.result _ _ (λ p e. ints_have _ _ p e) c.pair.ensures
