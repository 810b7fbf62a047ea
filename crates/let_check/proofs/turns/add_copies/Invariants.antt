use Rattle.std.proofs.Common.{◌≡◌, drop, map}
use Rattle.script_program.specs.Script.{with_copies}
use Rattle.script_program.specs.inner.Tables.{node_of}
use Rattle.script_rules.specs.Repeats.{copied_let, stands_for}
use Rattle.let_check.proofs.turns.add_copies.Given as goal

abbrev pub invariant-loop-entry : goal.invariant-loop-entry
invariant-loop-entry l =
    let copy = copied_let l.turn (stands_for l.repeat.outside l.seen) in
    let body = l.repeat.body in
    record {
      types : l.state.types ≡ l.fn.state.types;
      copies :
          with_copies (map copy (map (node_of l.state.types) (drop l.entry-index body)))
          l.state.state
          ≡ with_copies (map copy (map (node_of l.fn.state.types) body)) l.fn.state.state;
    }
