use Rattle.std.proofs.Common.{◌≡◌, ◌+◌, drop}
use Rattle.std.specs.Option.{option_map}
use Rattle.memory_outside.specs.Slots.{place_of_file}
use Rattle.memory_outside.proofs.source.file_place.Given as goal

-- no file before this one has the name
abbrev pub invariant-loop-k : goal.invariant-loop-k
invariant-loop-k l = option_map (λ j. l.k + j) (place_of_file (drop l.k l.files) l.name)
    ≡ place_of_file l.files l.name
