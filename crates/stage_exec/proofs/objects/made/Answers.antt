use Rattle.stage_exec.proofs.objects.made.Goals as goal

pub called-requires : goal.called-requires
called-requires g c = record { ready = rw c.in-Operate.is at c.requires.ready }

pub returns-in-Operate : goal.returns-in-Operate
returns-in-Operate g c w e = rw c.in-Operate.is (c.called.ensures w e)

pub returns-in-Singleton : goal.returns-in-Singleton
returns-in-Singleton g c w e =
    rw c.in-Singleton.is ((rw c.as_slice.ensures at c.single.ensures) w e)
