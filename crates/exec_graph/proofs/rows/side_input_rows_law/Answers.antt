use Rattle.std.proofs.Common.{[], ◌++◌, refl, ap}
use Rattle.flume_value.specs.Bag.{bag_of}
use Rattle.flume_collection.specs.Calls.{Called, emissions, trap_of}
use Rattle.flume_collection.specs.Traps.{trap_set}
use Rattle.exec_graph.specs.Objects.{naming}
use Rattle.exec_graph.proofs.rows.side_input_rows_law.Goals as goal

pub returns-clause-value : goal.returns-clause-value
returns-clause-value c w f x v y e =
    ap (λ (a : Called). record {
      bag = bag_of (emissions 0 (naming x a) ++ []);
      traps = trap_set (trap_of 4 (naming x a) ++ []);
    }) e

pub returns-clause-trap : goal.returns-clause-trap
returns-clause-trap c w f x y = refl
