use Rattle.std.proofs.Common.{◌∙◌}
use Rattle.std.specs.Int.{w128}
use Rattle.std.proofs.lemmas.Int.{to_z-of_z}
use Rattle.combine_table.proofs.Means.{mean_ok, mean_fault}
use Rattle.combine_table.proofs.whole.combine.Goals as goal

pub returns-in-Mean-clause-ok : goal.returns-in-Mean-clause-ok
returns-in-Mean-clause-ok c =
    mean_ok c.args.comb c.in-Mean.is c.args.values.now _ c.mean.result _ _ c.as_slice-values.ensures
    (to_z-of_z w128 c.total-in-Mean.result (record { sfits = c.total-in-Mean.type_inv })
    ∙ c.total-in-Mean.ensures)
    (to_z-of_z w128 c.count-in-Mean.result (record { sfits = c.count-in-Mean.type_inv })
    ∙ c.count-in-Mean.ensures)
    c.mean.ensures

pub returns-in-Mean-clause-err : goal.returns-in-Mean-clause-err
returns-in-Mean-clause-err c =
    mean_fault c.args.comb c.in-Mean.is c.args.values.now _ c.mean.result _ _
    c.as_slice-values.ensures
    (to_z-of_z w128 c.total-in-Mean.result (record { sfits = c.total-in-Mean.type_inv })
    ∙ c.total-in-Mean.ensures)
    (to_z-of_z w128 c.count-in-Mean.result (record { sfits = c.count-in-Mean.type_inv })
    ∙ c.count-in-Mean.ensures)
    c.mean.ensures
