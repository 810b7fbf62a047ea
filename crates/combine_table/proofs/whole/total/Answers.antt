use Rattle.std.proofs.Common.{rules, ◌∙◌}
use Rattle.std.specs.Int.{w64}
use Rattle.std.proofs.lemmas.Int.{to_z-of_z}
use Rattle.combine_table.proofs.Totals.{wrapped-total_more}
use Rattle.combine_table.proofs.whole.total.Goals as goal

pub loop-value-preserved : goal.loop-value-preserved
loop-value-preserved c =
    wrapped-total_more c.args.values.now c.loop-value.value-index c.value-item.result
    c.loop-value.sum-bits c.from-sum.result
    c.loop-value-test.true c.value-item.is (search rules) (record { sfits = c.from-sum.type_inv })
    (c.from-sum.ensures ∙ to_z-of_z w64 c.int.result (record { sfits = c.int.type_inv })
    ∙ c.int.ensures)
    c.loop-value.invariant
