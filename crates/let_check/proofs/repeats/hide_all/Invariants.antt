use Rattle.std.proofs.Common.{◌≡◌, drop}
use Rattle.script_program.specs.Script.{with_hidden}
use Rattle.let_check.specs.inner.Names.{AreFree}
use Rattle.let_check.proofs.repeats.hide_all.Given as goal

abbrev pub invariant-loop-name : goal.invariant-loop-name
invariant-loop-name l = record {
  types : l.state.types ≡ l.fn.state.types;
  free : AreFree (drop l.name-index l.names) l.state.state;
  hidden :
      with_hidden (drop l.name-index l.names) l.state.state
      ≡ with_hidden l.names l.fn.state.state;
}
