use Rattle.std.proofs.Common.{◌≡◌, ◌≤◌, ◌+◌, ◌-◌, ◌*◌, suc, length}
use Rattle.script_program.specs.Script.{with_copies}
use Rattle.script_rules.specs.Repeats.{gives_left, last_gives, nodes_left, unrolled}
use Rattle.let_check.specs.inner.Held.{repeat_in}
use Rattle.let_check.proofs.turns.add_turns.Given as goal

abbrev pub invariant-loop-turn : goal.invariant-loop-turn
invariant-loop-turn l =
    let repeat = repeat_in l.fn.state.types l.repeat in
    let left = l.repeat.turns - l.turn in
    let start = length l.state.state.nodes in
    record {
      types : l.state.types ≡ l.fn.state.types;
      room : start + left * length l.repeat.body ≤ 1024;
      nodes :
          with_copies (nodes_left repeat left (suc l.turn) l.entering start) l.state.state
          ≡ with_copies (unrolled repeat) l.fn.state.state;
      last : gives_left repeat left l.entering start ≡ last_gives repeat;
    }
