use Rattle.std.proofs.Common.{Ok, take}
use Rattle.outside.specs.declared.source.Failed.{Failed}
use Rattle.printing.specs.Printed.{listed, printed}
use Rattle.outside.specs.Says.{Says}
use Rattle.printing.proofs.value.+say.Given as goal

-- the values so far are said
abbrev pub invariant-say_listed-loop-at : goal.invariant-say_listed-loop-at
invariant-say_listed-loop-at g l =
    Says {T = Unit {0}} {E = Failed} (listed printed (take l.at l.values))
    (g.P.Screen.seen l.fn.screen) (g.P.Screen.seen l.screen) (Ok tt)
