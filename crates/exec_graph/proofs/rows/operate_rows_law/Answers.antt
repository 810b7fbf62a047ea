use Rattle.std.proofs.Common.{[], ◌∷◌, ap}
use Rattle.flume_value.specs.declared.value.Value.TheVariants as value
use Rattle.exec_graph.specs.Objects.{one_answer}
use Rattle.exec_graph.proofs.rows.operate_rows_law.Goals as goal

pub returns-clause-one : goal.returns-clause-one
returns-clause-one c w f x y e = ap (one_answer 3 x) e

pub returns-clause-not_one : goal.returns-clause-not_one
returns-clause-not_one c w f x e = ap (one_answer 3 x) e

pub returns-clause-two : goal.returns-clause-two
returns-clause-two c w f x y z e = ap (one_answer 3 (value.Rec (x ∷ (y ∷ [])))) e
