-- What the numbers of a plan are called.
use Rattle.std.specs.Prelude.{ℕ, List}
use Rattle.combine_table.specs.declared.comb.Comb.{Comb}
use Rattle.exec_graph.specs.declared.step.Does.{Does}

-- an output of a script: the collection that is written, and its file
pub record Written : Type 0 where
  pub name : List ℕ
  pub file : List ℕ

pub record Naming : Type 0 where
  -- what a step does for a script node
  pub step : ℕ → Does → List ℕ
  -- a script node
  pub node : ℕ → List ℕ
  -- a combiner
  pub combiner : Comb → List ℕ
  -- the outputs of the script, in order
  pub outputs : List Written
