use Rattle.std.proofs.Common.{◌≡◌, ◌-◌, ◌≤◌, ◌++◌, length, take, drop}
use Rattle.script_program.specs.Script.{given}
use Rattle.script_state.proofs.state.body.give.Given as goal

abbrev pub invariant-loop-place : goal.invariant-loop-place
invariant-loop-place l =
    let before = l.fn.names.entries in
    let now = l.names.entries in
    record {
      from : l.first ≤ l.place;
      many : length now ≡ length before;
      given :
          take l.place now ++ given (drop (l.place - l.first) l.numbers) (drop l.place now)
          ≡ take l.first before ++ given l.numbers (drop l.first before);
    }
