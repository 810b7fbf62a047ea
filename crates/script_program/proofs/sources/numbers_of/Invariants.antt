use Rattle.std.proofs.Common.{◌≡◌, ◌++◌, drop}
use Rattle.script_program.specs.Sources.{numbers_by_kind}
use Rattle.script_program.proofs.sources.numbers_of.Given as goal

abbrev pub invariant-loop-kind : goal.invariant-loop-kind
invariant-loop-kind l =
    l.numbers.items ++ numbers_by_kind l.input l.kept (drop l.kind-index l.kinds)
    ≡ numbers_by_kind 0 l.inputs l.kinds
