use Rattle.map_shard.proofs.beside.run_beside.Goals as goal

pub run-requires-in-Some : goal.run-requires-in-Some
run-requires-in-Some g c =
    let can = rw c.in-Some.is at c.requires in record {
      some = can.some;
      numbered = can.numbered;
      taken = can.taken;
      safe = can.safe;
      fit = can.fit;
    }

pub returns-in-Some : goal.returns-in-Some
returns-in-Some g c = rw c.in-Some.is c.run-in-Some.ensures
