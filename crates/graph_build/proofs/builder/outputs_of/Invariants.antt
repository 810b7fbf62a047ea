use Rattle.std.proofs.Common.{◌≡◌, ◌++◌, drop}
use Rattle.std.specs.Prelude.{map}
use Rattle.graph_build.specs.Graphs.{place_at_number}
use Rattle.graph_build.proofs.builder.outputs_of.Given as goal

abbrev pub invariant-loop-number : goal.invariant-loop-number
invariant-loop-number l =
    l.outputs
    ++ map (λ output. place_at_number l.places output.1.reads)
    (drop l.number l.program.script.outputs)
    ≡ map (λ output. place_at_number l.places output.1.reads) l.program.script.outputs
