use Rattle.std.specs.Int.{w128}
use Rattle.std.specs.Int.RustNames.{FitsSigned}
use Rattle.std.proofs.lemmas.Int.{int_wrap_fits}
use Rattle.combine_table.specs.Combinations.{int_or_overflow}
use Rattle.std.proofs.Common.{arith, pos, refl, ap}
use Rattle.std.specs.Prelude.{option_map}
use Rattle.flume_value.specs.declared.value.Value.TheVariants as value
use Rattle.combine_table.specs.declared.comb.Comb.TheVariants as by
use Rattle.flume_collection.proofs.of_bag_groups.PairLemmas.{Parts, parts_of-pair}
use Rattle.exec_graph.specs.Objects.{or_of_nothing, whole_combined}
use Rattle.exec_graph.proofs.rows.singleton_rows_law.Goals as goal

pub returns-clause-sum : goal.returns-clause-sum
returns-clause-sum c =
    ap (λ o. or_of_nothing 2 by.Sum (option_map (λ (it : Parts). it.1) o))
    (parts_of-pair (value.Int (pos 0)) (value.Int (pos 4)))

pub returns-clause-sum_of_none : goal.returns-clause-sum_of_none
returns-clause-sum_of_none c =
    ap (λ n. whole_combined 2 (int_or_overflow n)) (int_wrap_fits w128 (pos 0) fits)
  where
    fits : FitsSigned w128 (pos 0)
    fits = grind arith

pub returns-clause-least_of_none : goal.returns-clause-least_of_none
returns-clause-least_of_none c = refl
