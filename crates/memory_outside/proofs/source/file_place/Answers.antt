use Rattle.std.proofs.Common.{arith, ◌≡◌, Some, None}
use Rattle.std.proofs.lemmas.Grind.{common_steps}
use Rattle.memory_outside.specs.Slots.{place_of_file}
use Rattle.memory_outside.proofs.Places.{at_place, at_none}
use Rattle.memory_outside.proofs.source.file_place.Goals as goal

pub returns-then-eq : goal.returns-then-eq
returns-then-eq c =
    let found : place_of_file c.args.files.now c.args.name.now ≡ Some c.loop-k.k
    = grind (arith, common_steps) in
    (at_place c.args.files.now c.args.name.now c.loop-k.k found).bytes_is

pub returns : goal.returns
returns c =
    let missing : place_of_file c.args.files.now c.args.name.now ≡ None =
    grind (arith, common_steps) in
    (at_none c.args.files.now c.args.name.now missing).bytes_is
