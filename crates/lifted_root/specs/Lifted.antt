-- The steps of a lifted reducer on the accumulators of keys.
use Rattle.std.specs.Prelude.{ℕ, List, ◌∷◌, Ok, Err}
use Rattle.flume_value.specs.declared.value.Value.{Value}
use Rattle.flume_collection.specs.Calls.{Called, trap_named}
use Rattle.combine_table.specs.declared.comb.Comb.{Comb}
use Rattle.combine_table.specs.Accumulators.{finished}
use Rattle.partial_tables.specs.Tables.{IsPartialOf}
use Rattle.exec_graph.specs.Calls.{of_combine}
use Rattle.exec_graph.specs.Forests.{Branch}
use Rattle.exec_graph.specs.World.{World}
use Rattle.forest_steps.specs.Running.{Given, Run, run_twigs, SafeTwigs}

-- what the root answers of a key with its accumulator
abbrev pub partial_answer : Comb → Value × Value → Called
partial_answer c p = of_combine p.0 (finished c p.1)

-- what a step answered, to its outputs
abbrev pub run_called : World → List ℕ → Branch → Called → Given → Run
run_called w sizes b (Ok answers) g = run_twigs w sizes 0 answers (b.first ∷ b.more) g
run_called w sizes b (Err trap) g = Err (trap_named b.origin trap)

abbrev pub run_partial : World → List ℕ → Branch → Comb → Value × Value → Given → Run
run_partial w sizes b c p g = run_called w sizes b (partial_answer c p) g

-- the steps on the outputs of a step may be called on what it answered
abbrev pub SafeCalled : World → (ℕ → Value → Type 0) → Branch → Called → Type 0
SafeCalled w takes b (Ok answers) = SafeTwigs w takes answers (b.first ∷ b.more)
SafeCalled w takes b (Err trap) = Unit {0}

-- a key's accumulator is of the combiner, and the steps may be called on what the root answers of
-- it
abbrev pub SafePartial : World → (ℕ → Value → Type 0) → Branch → Comb → Value × Value → Type 0
SafePartial w takes b c p = IsPartialOf c p × SafeCalled w takes b (partial_answer c p)
