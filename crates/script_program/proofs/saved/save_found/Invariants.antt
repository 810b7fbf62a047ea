use Rattle.std.proofs.Common.{◌≡◌, ◌++◌, length, take, drop}
use Rattle.script_program.specs.inner.Tables.{held_saved_from}
use Rattle.script_program.proofs.saved.save_found.Given as goal

abbrev pub invariant-loop-number : goal.invariant-loop-number
invariant-loop-number l =
    let before = l.fn.nodes.items in
    let now = l.nodes.items in
    record {
      many : length now ≡ length before;
      saved :
          take l.number now ++ held_saved_from l.found l.number (drop l.number now)
          ≡ held_saved_from l.found 0 before;
    }
