use Rattle.std.proofs.Common.{◌≡◌, ◌++◌, drop}
use Rattle.std.specs.List.{filter, flat_map}
use Rattle.script_program.specs.Needed.{is_needed, collections_numbered}
use Rattle.script_program.specs.Sources.{source_kind, source_kinds}
use Rattle.script_program.proofs.sources.source_kinds.Given as goal

abbrev pub invariant-loop-number : goal.invariant-loop-number
invariant-loop-number l =
    l.kinds.items
    ++ flat_map (λ it. source_kind it.1.1.made)
    (filter (λ it. is_needed l.program.script it.0)
    (collections_numbered l.number (drop l.number l.program.script.nodes)))
    ≡ source_kinds l.program.script
