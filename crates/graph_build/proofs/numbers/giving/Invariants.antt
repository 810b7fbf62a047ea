use Rattle.std.proofs.Common.{◌≡◌, ◌++◌, drop}
use Rattle.graph_build.specs.Graphs.{giving, giving_from}
use Rattle.graph_build.specs.Built.{built}
use Rattle.graph_build.proofs.numbers.giving.Given as goal

abbrev pub invariant-loop-number : goal.invariant-loop-number
invariant-loop-number l =
    l.giving.items ++ giving_from l.next (drop l.number (built l.program.script))
    ≡ giving l.program.script
