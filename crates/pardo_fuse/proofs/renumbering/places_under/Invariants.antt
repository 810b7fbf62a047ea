use Rattle.std.proofs.Common.{◌≡◌, ◌++◌, map, take, drop}
use Rattle.pardo_fuse.specs.Renumbering.{at_number}
use Rattle.pardo_fuse.specs.inner.Numbers.{number_in}
use Rattle.pardo_fuse.proofs.renumbering.places_under.Given as goal

abbrev pub invariant-loop-c : goal.invariant-loop-c
invariant-loop-c l =
    take l.c-index l.c-items
    ++ map (at_number (number_in l.numbers)) (drop l.c-index l.c-items)
    ≡ map (at_number (number_in l.numbers)) l.initial.c-items
