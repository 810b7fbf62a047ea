use Rattle.std.proofs.Common.{Ok, take}
use Rattle.std.specs.List.{flat_map}
use Rattle.outside.specs.declared.source.Failed.{Failed}
use Rattle.printing.specs.Printed.{printed_byte}
use Rattle.outside.specs.Says.{Says}
use Rattle.printing.proofs.screen.say_escaped.Given as goal

-- the bytes so far are said
abbrev pub invariant-loop-byte : goal.invariant-loop-byte
invariant-loop-byte g l =
    Says {T = Unit {0}} {E = Failed} (flat_map printed_byte (take l.byte-index l.name))
    (g.P.Screen.seen l.fn.screen) (g.P.Screen.seen l.screen) (Ok tt)
