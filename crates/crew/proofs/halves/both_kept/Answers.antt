use Rattle.crew.proofs.halves.both_kept.Goals as goal

pub returns : goal.returns
returns g c = rw (c.in_ok-all.was, c.in_ok-rest.was) c.in_ok-append.ensures
