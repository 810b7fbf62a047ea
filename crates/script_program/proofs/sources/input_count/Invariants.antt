use Rattle.std.proofs.Common.{◌≡◌, ◌+◌, drop}
use Rattle.script_program.specs.Sources.{input_count}
use Rattle.script_program.proofs.sources.input_count.Given as goal

abbrev pub invariant-loop-kept : goal.invariant-loop-kept
invariant-loop-kept l = l.count + input_count (drop l.kept-index l.kinds) ≡ input_count l.kinds
