use Rattle.std.proofs.Common.{◌≡◌, ◌<◌, length, map}
use Rattle.std.specs.Iterator.Adapters.{zip_first, zip_second}
use Rattle.std.specs.List.{All}
use Rattle.std.specs.Vec.Iter.{into_iter_items}
use Rattle.script_program.specs.Program.{making_in}
use Rattle.script_program.specs.Script.{with_nodes}
use Rattle.let_check.specs.inner.Names.{AreNew}
use Rattle.let_check.proofs.lets.add_all.Given as goal

abbrev pub invariant-loop-name : goal.invariant-loop-name
invariant-loop-name l =
    let names = into_iter_items (zip_first l.name-iterator) in
    let makings = into_iter_items (zip_second l.name-iterator) in
    let meant = map (making_in l.state.types) makings in
    record {
      types : l.state.types ≡ l.fn.state.types;
      new : AreNew names meant l.state.state;
      within : All (λ making. making.ty < length l.state.types) makings;
      added : with_nodes names meant l.state.state
          ≡ with_nodes l.fn.names (map (making_in l.fn.state.types) l.fn.makings)
          l.fn.state.state;
    }
