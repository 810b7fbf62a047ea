-- What the statements so far define, of what is in memory.
use Rattle.std.specs.Prelude.{ℕ, map}
use Rattle.body_check.specs.of_written_types.Named.{Named}
use Rattle.body_check.specs.of_written_types.Known.{Known}
use Rattle.script_program.specs.declared.made.Function.{Function as HeldFunction}
use Rattle.script_program.specs.declared.made.Node.{Node as HeldNode}
use Rattle.script_program.specs.declared.made.Output.{Output}
use Rattle.script_program.specs.declared.made.Standing.{Standing}
use Rattle.script_program.specs.inner.Tables.{function_of, node_of}
use Rattle.script_state.specs.Held.{Checking}

abbrev pub checking_of : Known → Named HeldFunction → Named HeldNode → Named Standing → Named Output
    → ℕ → Checking
checking_of known functions nodes names outputs statements = record {
  types = known.types;
  state = record {
    types = known.names;
    functions = map (function_of known) functions;
    nodes = map (node_of known.types) nodes;
    names = names;
    outputs = outputs;
    statements = statements;
  };
}
